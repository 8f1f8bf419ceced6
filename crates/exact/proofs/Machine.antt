-- Signed arithmetic of 64 bits, at numbers whose sizes are bounded: each number goes to bits and back, and nothing is lost. Assumes nothing.
use Rattle.std.proofs.Common.{◌≡◌, ℕ, ◌+◌, ◌*◌, ◌^◌, ◌<◌, ◌≤◌, ℤ, ◌+ℤ◌, ◌-ℤ◌, ◌*ℤ◌, nat_abs, sym, ◌∙◌, subst, ap₂, mul-le-mul, arith, w64, SFits, to_z, of_z}
use borrow.Author.Differences.{ints}
use Rattle.std.proofs.lemmas.Int.{to_z-of_z, unsigned_abs-mul}

abbrev pub back : ℤ → ℤ
back z = to_z w64 (of_z w64 z)

-- an operand x is the number z, of size m at most
pub record Operand (x z : ℤ) (m : ℕ) : Type 0 where
  pub is : x ≡ z
  pub size : nat_abs z ≤ m

-- the same of a result, which fits and is read back
pub record Result (x z : ℤ) (m : ℕ) : Type 0 where
  pub fits : SFits w64 x
  pub read : Operand (back x) z m

pub operand : (z : ℤ) (m : ℕ) → SFits w64 z → nat_abs z ≤ m → Operand (back z) z m
operand z m fits size = record { is = to_z-of_z w64 z fits; size = size }

result : (x z : ℤ) (m : ℕ) → x ≡ z → nat_abs z ≤ m → m < 2 ^ 63 → Result x z m
result x z m e size small = grind arith

module _ {x y a b : ℤ} {m n : ℕ} (p : Operand x a m) (q : Operand y b n) where
  pub sum : m + n < 2 ^ 63 → Result (x +ℤ y) (a +ℤ b) (m + n)
  sum small = result (x +ℤ y) (a +ℤ b) (m + n) (ap₂ ◌+ℤ◌ p.is q.is) (omega (arith, ints)) small

  pub difference : m + n < 2 ^ 63 → Result (x -ℤ y) (a -ℤ b) (m + n)
  difference small = result (x -ℤ y) (a -ℤ b) (m + n) (ap₂ ◌-ℤ◌ p.is q.is) (omega (arith, ints)) small

  -- r is what the call of `product` answers
  pub product : (r : ℤ) → r ≡ x *ℤ y → m * n < 2 ^ 63 → Result r (a *ℤ b) (m * n)
  product r e small = result r (a *ℤ b) (m * n) (e ∙ ap₂ ◌*ℤ◌ p.is q.is) (omega (arith, unsigned_abs-mul a b, mul-le-mul p.size q.size)) small

-- the size of an operand, as the machine has it
pub operand_size : {x z : ℤ} {m : ℕ} → Operand x z m → nat_abs x ≤ m
operand_size {m} p = subst (λ y. nat_abs y ≤ m) (sym p.is) p.size
