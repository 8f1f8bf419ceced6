-- A value that is given just where a test passes. Assumes nothing.
use Rattle.std.specs.Prelude.{◌≡◌, Bool, true, false, Some, None, Option}

-- the answer is x, which has P, where the test passes, and nothing where it fails
abbrev pub Given : {A : Type 0} → Option A → Bool → A → (A → Type 0) → Type 0
Given (Some y) test x P = (test ≡ true) × (y ≡ x) × P y
Given None test x P = test ≡ false
