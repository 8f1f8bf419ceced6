-- The laws of a commutative ring that the library's integers lack. Assumes nothing.
use Rattle.std.proofs.Common.{◌≡◌, ℕ, ◌+◌, ◌*◌, ℤ, pos, ◌+ℤ◌, ◌*ℤ◌, neg_ℤ, nat_abs, ap, arith}
use borrow.Author.Differences.{up, down, neg_is, ints, sum_is_lem, product_is}
use lib.IntN.{*ℤ_comm}

pub *ℤ_distrib : (a b c : ℤ) → a *ℤ (b +ℤ c) ≡ (a *ℤ b) +ℤ (a *ℤ c)
*ℤ_distrib a b c =
    let times : (n : ℕ) → n * (up (b +ℤ c) + down b + down c) ≡ n * (down (b +ℤ c) + up b + up c) = λ n. ap (λ m. n * m) (sum_is_lem b c) in
    omega (arith, ints, times (up a), times (down a))

pub *ℤ_distribʳ : (a b c : ℤ) → (a +ℤ b) *ℤ c ≡ (a *ℤ c) +ℤ (b *ℤ c)
*ℤ_distribʳ a b c = rw (*ℤ_comm (a +ℤ b) c, *ℤ_comm a c, *ℤ_comm b c) (*ℤ_distrib c a b)

pub *ℤ_assoc : (a b c : ℤ) → (a *ℤ b) *ℤ c ≡ a *ℤ (b *ℤ c)
*ℤ_assoc a b c =
    let left : (n : ℕ) → (up (a *ℤ b) * n ≡ (up a * up b + down a * down b) * n) × (down (a *ℤ b) * n ≡ (up a * down b + down a * up b) * n) =
    λ n. (ap (λ m. m * n) (product_is a b).0, ap (λ m. m * n) (product_is a b).1) in
    let right : (n : ℕ) → (n * up (b *ℤ c) ≡ n * (up b * up c + down b * down c)) × (n * down (b *ℤ c) ≡ n * (up b * down c + down b * up c)) =
    λ n. (ap (λ m. n * m) (product_is b c).0, ap (λ m. n * m) (product_is b c).1) in
    omega (arith, ints, left (up c), left (down c), right (up a), right (down a))

pub neg_ℤ_*ℤ : (a b : ℤ) → neg_ℤ a *ℤ b ≡ neg_ℤ (a *ℤ b)
neg_ℤ_*ℤ a b =
    let times : (n : ℕ) → (up (neg_ℤ a) * n ≡ down a * n) × (down (neg_ℤ a) * n ≡ up a * n) = λ n. (ap (λ m. m * n) (neg_is a).0, ap (λ m. m * n) (neg_is a).1) in
    omega (arith, ints, times (up b), times (down b))

pub nat_abs_neg_ℤ : (a : ℤ) → nat_abs (neg_ℤ a) ≡ nat_abs a
nat_abs_neg_ℤ a = omega (arith, ints)

-- two sums added term by term
pub +ℤ_exchange : (a b c d : ℤ) → (a +ℤ b) +ℤ (c +ℤ d) ≡ (a +ℤ c) +ℤ (b +ℤ d)
+ℤ_exchange a b c d = omega (arith, ints)

-- two numbers whose difference is nought
pub equal_from_difference : (a b : ℤ) → a +ℤ neg_ℤ b ≡ pos 0 → a ≡ b
equal_from_difference a b e = omega (arith, ints)
