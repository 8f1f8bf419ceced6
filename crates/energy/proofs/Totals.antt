-- A sum over a list whose terms may be missing, turn by turn. Assumes nothing.
use Rattle.std.proofs.Common.{◌≡◌, ℕ, ◌+◌, ◌^◌, ◌<◌, Bool, List, sum_by}
use Rattle.exact.specs.Lists.{every}

-- of the elements of a list, `rest` are left; the terms of those before came to sum
pub record Turn {A : Type 0} (p : A → Bool) (f : A → ℕ) (test : Bool) (all sum : ℕ) (rest : List A) : Type 0 where
  pub tested : every p rest ≡ test
  pub total : sum + sum_by f rest ≡ all
  pub small : sum < 2 ^ 62
