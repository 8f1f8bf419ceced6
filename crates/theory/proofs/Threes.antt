-- A number for each of three corners: their sum, the highest one, and corners side by side. Assumes nothing.
use Rattle.std.proofs.Common.{◌≡◌, ℤ, pos, ◌+ℤ◌, ◌*ℤ◌, ◌≤ℤ◌, ◌<ℤ◌, refl, arith}
use borrow.Author.Differences.{ints}
use Rattle.std.proofs.lemmas.Int.{by_lt_z}
use Rattle.exact.proofs.Order.{nought}
use Rattle.rules.specs.declared.Corner.{Corner}
use Rattle.rules.specs.declared.Corner.TheVariants.{A, B, C}
use Rattle.rules.specs.Edges.{next}
use Rattle.theory.proofs.Corners.{prev, near}

pub each : (P : Corner → Type 0) (k : Corner) → P k → P (next k) → P (prev k) → (i : Corner) → P i
each P k a b c i = near (λ k i. P k → P (next k) → P (prev k) → P i) (λ k. λ a b c. a) (λ k. λ a b c. b) (λ k. λ a b c. c) k i a b c

pub highest : (f : Corner → ℤ) → (j : Corner) × ((i : Corner) → f i ≤ℤ f j)
highest f =
    by_lt_z (f A) (f B)
    (λ ab. by_lt_z (f B) (f C) (λ bc. (C, top C (omega (arith, ints)) (omega (arith, ints)) (omega (arith, ints)))) (λ cb. (B, top B (omega (arith, ints)) (omega (arith, ints)) (omega (arith, ints)))))
    (λ ba. by_lt_z (f A) (f C) (λ ac. (C, top C (omega (arith, ints)) (omega (arith, ints)) (omega (arith, ints)))) (λ ca. (A, top A (omega (arith, ints)) (omega (arith, ints)) (omega (arith, ints)))))
  where
    top : (j : Corner) → f A ≤ℤ f j → f B ≤ℤ f j → f C ≤ℤ f j → (i : Corner) → f i ≤ℤ f j
    top j = each (λ i. f i ≤ℤ f j) A

-- some are above 0, or none is
pub some_above : {P : Type 0} (f : Corner → ℤ) → ((j : Corner) → pos 0 <ℤ f j → P) → (((i : Corner) → f i ≤ℤ pos 0) → P) → P
some_above f some none =
    let top = highest f in
    by_lt_z (pos 0) (f top.0) (some top.0) (λ low. none (λ i. let most = top.1 i in omega (arith, ints)))

-- ---- sums
abbrev pub sum : (Corner → ℤ) → ℤ
sum f = f A +ℤ (f B +ℤ f C)

-- from whichever corner
pub sum_from : (f : Corner → ℤ) (i : Corner) → sum f ≡ f i +ℤ (f (next i) +ℤ f (prev i))
sum_from f A = refl
sum_from f B = omega (arith, ints)
sum_from f C = omega (arith, ints)

-- where no product is below 0 and the one factors are above 0, but the sum is not, the others are all 0
pub noughts : (w x : Corner → ℤ) → ((i : Corner) → pos 0 <ℤ w i) → ((i : Corner) → pos 0 ≤ℤ x i) → sum (λ i. w i *ℤ x i) ≤ℤ pos 0 → (i : Corner) → x i ≡ pos 0
noughts w x above least most i =
    let from = sum_from (λ j. w j *ℤ x j) i in
    nought (w i) (w (next i)) (w (prev i)) (x i) (x (next i)) (x (prev i)) (above i) (above (next i)) (above (prev i)) (least i) (least (next i)) (least (prev i)) (omega (arith, ints))
