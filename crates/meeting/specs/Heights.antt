-- Rows of numbers, such as how far the corners of a triangle lie across a direction. Assumes nothing.
use Rattle.std.specs.Prelude.{Bool, List, [], ◌∷◌, ℤ, pos, int_le}
use Rattle.exact.specs.Lists.{every}
use Rattle.rules.specs.declared.Vector.{Vector}

-- each of the one row is at most each of the other
abbrev pub below : List ℤ → List ℤ → Bool
below u v = every (λ y. every (int_le y) v) u

abbrev pub axes : List Vector
axes = record { x = pos 1; y = pos 0 } ∷ record { x = pos 0; y = pos 1 } ∷ []
