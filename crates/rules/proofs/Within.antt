-- What the limits give, part by part. Assumes nothing.
use Rattle.std.proofs.Common.{◌≡◌, ℕ, ◌^◌, ◌<◌, ◌≤◌, true, ◌&&◌, ℤ, nat_abs, arith, w64, SFits}
use borrow.Author.Differences.{ints}
use Rattle.std.proofs.lemmas.Bool.{and_parts, leb-true}
use Rattle.exact.proofs.Machine.{Operand, back, operand}
use Rattle.rules.specs.declared.Corners.{Corners}
use Rattle.rules.specs.Limits.{near, near_corners}

pub near_is : (b : ℕ) (z : ℤ) → near b z ≡ true → nat_abs z ≤ b
near_is b z e = leb-true (nat_abs z) b e

-- two numbers near 0
pub both_near : (b : ℕ) (y z : ℤ) → (near b y && near b z) ≡ true → (nat_abs y ≤ b) × (nat_abs z ≤ b)
both_near b y z e = let parts = and_parts (near b y) (near b z) e in (near_is b y parts.0, near_is b z parts.1)

-- the same, as operands
pub operands : (b : ℕ) (y z : ℤ) → b < 2 ^ 63 → (near b y && near b z) ≡ true → Operand (back y) y b × Operand (back z) z b
operands b y z small e =
    let sizes = both_near b y z e in
    (operand y b (fits y b sizes.0 small) sizes.0, operand z b (fits z b sizes.1 small) sizes.1)
  where
    fits : (z : ℤ) (b : ℕ) → nat_abs z ≤ b → b < 2 ^ 63 → SFits w64 z
    fits z b h small = omega (arith, ints)

pub near_corners_lem : (u : Corners) → near_corners u ≡ true → (nat_abs u.a ≤ 2 ^ 20) × (nat_abs u.b ≤ 2 ^ 20) × (nat_abs u.c ≤ 2 ^ 20)
near_corners_lem u e =
    let first = and_parts (near (2 ^ 20) u.a) (near (2 ^ 20) u.b && near (2 ^ 20) u.c) e in
    let others = both_near (2 ^ 20) u.b u.c first.1 in
    (near_is (2 ^ 20) u.a first.0, others.0, others.1)
