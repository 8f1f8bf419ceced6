-- Fractions with denominators above 0: sums, differences, order and scaling. Assumes nothing.
use Rattle.std.proofs.Common.{◌≡◌, ◌<◌, List, [], ◌∷◌, ℤ, pos, ◌+ℤ◌, ◌*ℤ◌, ◌≤ℤ◌, sym, refl, ap₂, mul_assoc, mul_comm, mul-pos, one-mul, arith}
use borrow.Author.Differences.{ints}
use Rattle.exact.specs.Fractions.{Fraction, whole, ◌+F◌, ◌-F◌, neg_f, scaled, ◌≤F◌, ◌≈F◌}
use Rattle.exact.proofs.Ring.{Expr, var, con, ◌⊕◌, ◌⊗◌, ⊖◌, one_times, solve}
use Rattle.exact.proofs.Certificates.{Fact, ◌≼◌, hyp, ◌⊞◌, ◌⊠◌, natural, prove≤}
use Rattle.exact.proofs.Order.{*ℤ_cancel_≤ℤ}

-- ---- four fractions as expressions, and the facts that their denominators are not negative
record Frac : Type 0 where
  n : Expr
  d : Expr

abbrev P : Frac
P = record { n = var 0; d = var 1 }

abbrev Q : Frac
Q = record { n = var 2; d = var 3 }

abbrev R : Frac
R = record { n = var 4; d = var 5 }

abbrev S : Frac
S = record { n = var 6; d = var 7 }

abbrev parts : Fraction → Fraction → Fraction → Fraction → List ℤ
parts p q r s = p.num ∷ pos p.den ∷ q.num ∷ pos q.den ∷ r.num ∷ pos r.den ∷ s.num ∷ pos s.den ∷ []

infixl 6 ◌⊹◌
abbrev ◌⊹◌ : Frac → Frac → Frac
p ⊹ q = record { n = (p.n ⊗ q.d) ⊕ (q.n ⊗ p.d); d = p.d ⊗ q.d }

abbrev negative : Frac → Frac
negative p = record { n = ⊖ p.n; d = p.d }

abbrev times : Expr → Frac → Frac
times z p = record { n = z ⊗ p.n; d = p.d }

abbrev lhs : Frac → Frac → Expr
lhs p q = p.n ⊗ q.d

infix 4 ◌≼F◌
abbrev ◌≼F◌ : Frac → Frac → Fact
p ≼F q = lhs p q ≼ lhs q p

abbrev natural_of_lem : Frac → Fact
natural_of_lem p = con (pos 0) ≼ p.d

-- ---- denominators
pub +F_den : (p q : Fraction) → 0 < p.den → 0 < q.den → 0 < (p +F q).den
+F_den p q hp hq = mul-pos hp hq

-- ---- order
pub ≤F_refl : (p : Fraction) → p ≤F p
≤F_refl p = omega (arith, ints)

pub ≤F_trans : (p q r : Fraction) → 0 < q.den → p ≤F q → q ≤F r → p ≤F r
≤F_trans p q r above h k =
    *ℤ_cancel_≤ℤ (pos q.den) (omega (arith, ints))
    (prove≤ (parts p q r r) ((P ≼F Q) ∷ (Q ≼F R) ∷ natural_of_lem P ∷ natural_of_lem R ∷ []) ((hyp 0 ⊠ hyp 3) ⊞ (hyp 1 ⊠ hyp 2)) (Q.d ⊗ lhs P R) (Q.d ⊗ lhs R P) tt
    (h, (k, (natural p.den, (natural r.den, tt)))))

pub ≤F_+ : (p q r s : Fraction) → p ≤F q → r ≤F s → (p +F r) ≤F (q +F s)
≤F_+ p q r s h k =
    prove≤ (parts p q r s) ((P ≼F Q) ∷ (R ≼F S) ∷ natural_of_lem P ∷ natural_of_lem Q ∷ natural_of_lem R ∷ natural_of_lem S ∷ [])
    ((hyp 0 ⊠ (hyp 4 ⊠ hyp 5)) ⊞ (hyp 1 ⊠ (hyp 2 ⊠ hyp 3))) (lhs (P ⊹ R) (Q ⊹ S)) (lhs (Q ⊹ S) (P ⊹ R)) tt
    (h, (k, (natural p.den, (natural q.den, (natural r.den, (natural s.den, tt))))))

-- a fraction moves to the other side with its sign changed
pub ≤F_move : (p q r : Fraction) → p ≤F (q +F r) → (p -F r) ≤F q
≤F_move p q r h =
    prove≤ (parts p q r r) ((P ≼F (Q ⊹ R)) ∷ []) (hyp 0) (lhs (P ⊹ negative R) Q) (lhs Q (P ⊹ negative R)) tt (h, tt)

pub ≤F_neg : (p q : Fraction) → p ≤F q → neg_f q ≤F neg_f p
≤F_neg p q h = prove≤ (parts p q q q) ((P ≼F Q) ∷ []) (hyp 0) (lhs (negative Q) (negative P)) (lhs (negative P) (negative Q)) tt (h, tt)

pub ≤F_scaled : (z : ℤ) (p q : Fraction) → pos 0 ≤ℤ z → p ≤F q → scaled z p ≤F scaled z q
≤F_scaled z p q not_negative h =
    prove≤ (p.num ∷ pos p.den ∷ q.num ∷ pos q.den ∷ z ∷ []) ((P ≼F Q) ∷ (con (pos 0) ≼ var 4) ∷ []) (hyp 0 ⊠ hyp 1)
    (lhs (times (var 4) P) (times (var 4) Q)) (lhs (times (var 4) Q) (times (var 4) P)) tt (h, (not_negative, tt))

pub ≤F_whole : (a b : ℤ) → whole a ≤F whole b → a ≤ℤ b
≤F_whole a b h = omega (arith, ints)

-- ---- the same number
pub ≈F_from : (p q : Fraction) → p.num *ℤ pos q.den ≡ q.num *ℤ pos p.den → p ≈F q
≈F_from p q e = (omega (arith, ints), omega (arith, ints))

pub ≈F_of_≡ : (p q : Fraction) → p ≡ q → p ≈F q
≈F_of_≡ p q e = ≈F_from p q (ap₂ (λ a b. a.num *ℤ pos b.den) e (sym e))

pub ≈F_trans : (p q r : Fraction) → 0 < q.den → p ≈F q → q ≈F r → p ≈F r
≈F_trans p q r above e f = (≤F_trans p q r above e.0 f.0, ≤F_trans r q p above f.1 e.1)

pub ≈F_+ : (p q r s : Fraction) → p ≈F q → r ≈F s → (p +F r) ≈F (q +F s)
≈F_+ p q r s e f = (≤F_+ p q r s e.0 f.0, ≤F_+ q p s r e.1 f.1)

pub ≈F_scaled : (z : ℤ) (p q : Fraction) → pos 0 ≤ℤ z → p ≈F q → scaled z p ≈F scaled z q
≈F_scaled z p q not_negative e = (≤F_scaled z p q not_negative e.0, ≤F_scaled z q p not_negative e.1)

-- ---- laws of sums: not only the same number, but the same numerator and denominator
equal : (p q : Fraction) → p.num ≡ q.num → p.den ≡ q.den → p ≡ q
equal p q n d = λ i. record { num = n i; den = d i }

pub +F_comm : (p q : Fraction) → p +F q ≡ q +F p
+F_comm p q = equal (p +F q) (q +F p) (solve (parts p q q q) (P ⊹ Q).n (Q ⊹ P).n tt) (mul_comm p.den q.den)

pub +F_assoc : (p q r : Fraction) → (p +F q) +F r ≡ p +F (q +F r)
+F_assoc p q r =
    equal ((p +F q) +F r) (p +F (q +F r)) (solve (parts p q r r) ((P ⊹ Q) ⊹ R).n (P ⊹ (Q ⊹ R)).n tt) (mul_assoc p.den q.den r.den)

abbrev nil : Frac
nil = record { n = con (pos 0); d = con (pos 1) }

pub +F_idl : (p : Fraction) → whole (pos 0) +F p ≡ p
+F_idl p = equal (whole (pos 0) +F p) p (solve (parts p p p p) (nil ⊹ P).n P.n tt) (one-mul p.den)

pub whole_+F : (a b : ℤ) → whole a +F whole b ≡ whole (a +ℤ b)
whole_+F a b =
    let A : Frac = record { n = var 0; d = con (pos 1) } in
    let B : Frac = record { n = var 1; d = con (pos 1) } in
    equal (whole a +F whole b) (whole (a +ℤ b)) (solve (a ∷ b ∷ []) (A ⊹ B).n (var 0 ⊕ var 1) tt) refl

pub scaled_+F : (z : ℤ) (p q : Fraction) → scaled z (p +F q) ≡ scaled z p +F scaled z q
scaled_+F z p q =
    equal (scaled z (p +F q)) (scaled z p +F scaled z q)
    (solve (p.num ∷ pos p.den ∷ q.num ∷ pos q.den ∷ z ∷ []) (times (var 4) (P ⊹ Q)).n (times (var 4) P ⊹ times (var 4) Q).n tt) refl

pub scaled_neg_f : (z : ℤ) (p : Fraction) → scaled z (neg_f p) ≡ neg_f (scaled z p)
scaled_neg_f z p = equal (scaled z (neg_f p)) (neg_f (scaled z p)) (solve (p.num ∷ z ∷ []) (var 1 ⊗ (⊖ var 0)) (⊖ (var 1 ⊗ var 0)) tt) refl

pub scaled_one : (p : Fraction) → scaled (pos 1) p ≡ p
scaled_one p = equal (scaled (pos 1) p) p (one_times p.num) refl

pub scaled_scaled : (y z : ℤ) (p : Fraction) → scaled y (scaled z p) ≡ scaled (y *ℤ z) p
scaled_scaled y z p = equal (scaled y (scaled z p)) (scaled (y *ℤ z) p) (solve (p.num ∷ y ∷ z ∷ []) (var 1 ⊗ (var 2 ⊗ var 0)) ((var 1 ⊗ var 2) ⊗ var 0) tt) refl

-- four times a fraction, as a sum
pub four_times : (p : Fraction) → (p +F (p +F (p +F (p +F whole (pos 0))))) ≈F scaled (pos 4) p
four_times p =
    let sum = P ⊹ (P ⊹ (P ⊹ (P ⊹ nil))) in
    let product = times (con (pos 4)) P in
    ≈F_from (p +F (p +F (p +F (p +F whole (pos 0))))) (scaled (pos 4) p) (solve (parts p p p p) (lhs sum product) (lhs product sum) tt)
