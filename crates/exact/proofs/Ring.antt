-- Equations between polynomials with whole coefficients, proved by computing: both sides are written as expressions, and the
-- coefficients of their difference are all nought. `solve` is the theorem. Assumes nothing.
use Rattle.std.proofs.Common.{◌≡◌, ℕ, zero, suc, Bool, true, false, T, List, [], ◌∷◌, map, ℤ, pos, negsuc, ◌+ℤ◌, ◌*ℤ◌, neg_ℤ, sym, refl, ap, ◌∙◌, ap₂, arith}
use borrow.Author.Differences.{ints}
use lib.IntN.{*ℤ_comm, *ℤ-zero, zero-*ℤ, +ℤ_idl, +ℤ_idr}
use lib.Ieee.Fits.{and_l, and_r}
use Rattle.std.specs.List.{list_all}
use Rattle.exact.proofs.Integers.{*ℤ_distrib, *ℤ_distribʳ, *ℤ_assoc, +ℤ_exchange, equal_from_difference}

-- ---- expressions over the numbers of a list, by their places in it
infixl 6 ◌⊕◌ ◌⊝◌
infixl 7 ◌⊗◌
infix 8 ⊖◌
pub data Expr : Type 0 where
  var : ℕ → Expr
  con : ℤ → Expr
  ◌⊕◌ : Expr → Expr → Expr
  ◌⊗◌ : Expr → Expr → Expr
  ⊖◌ : Expr → Expr

abbrev pub ◌⊝◌ : Expr → Expr → Expr
e ⊝ f = e ⊕ (⊖ f)

abbrev pub lookup : List ℤ → ℕ → ℤ
lookup [] i = pos 0
lookup (x ∷ ρ) zero = x
lookup (x ∷ ρ) (suc i) = lookup ρ i

abbrev pub value : List ℤ → Expr → ℤ
value ρ (var i) = lookup ρ i
value ρ (con z) = z
value ρ (e ⊕ f) = value ρ e +ℤ value ρ f
value ρ (e ⊗ f) = value ρ e *ℤ value ρ f
value ρ (⊖ e) = neg_ℤ (value ρ e)

-- ---- a polynomial in one variable more is the list of its coefficients, the constant first
abbrev pub add_l : {A : Type 0} → (A → A → A) → List A → List A → List A
add_l add [] qs = qs
add_l add (p ∷ ps) [] = p ∷ ps
add_l add (p ∷ ps) (q ∷ qs) = add p q ∷ add_l add ps qs

abbrev pub mul_l : {A : Type 0} → A → (A → A → A) → (A → A → A) → List A → List A → List A
mul_l none add mul [] qs = []
mul_l none add mul (p ∷ ps) qs = add_l add (map (mul p) qs) (none ∷ mul_l none add mul ps qs)

abbrev pub horner : {A : Type 0} → (A → ℤ) → ℤ → List A → ℤ
horner at x [] = pos 0
horner at x (p ∷ ps) = at p +ℤ (x *ℤ horner at x ps)

-- ---- polynomials in the variables of a list
abbrev pub Poly : List ℤ → Type 0
Poly [] = ℤ
Poly (x ∷ ρ) = List (Poly ρ)

abbrev pub none : (ρ : List ℤ) → Poly ρ
none [] = pos 0
none (x ∷ ρ) = []

abbrev pub con_p : (ρ : List ℤ) → ℤ → Poly ρ
con_p [] z = z
con_p (x ∷ ρ) z = con_p ρ z ∷ []

abbrev pub var_p : (ρ : List ℤ) → ℕ → Poly ρ
var_p [] i = pos 0
var_p (x ∷ ρ) zero = none ρ ∷ con_p ρ (pos 1) ∷ []
var_p (x ∷ ρ) (suc i) = var_p ρ i ∷ []

abbrev pub add_p : (ρ : List ℤ) → Poly ρ → Poly ρ → Poly ρ
add_p [] = ◌+ℤ◌
add_p (x ∷ ρ) = add_l (add_p ρ)

abbrev pub mul_p : (ρ : List ℤ) → Poly ρ → Poly ρ → Poly ρ
mul_p [] = ◌*ℤ◌
mul_p (x ∷ ρ) = mul_l (none ρ) (add_p ρ) (mul_p ρ)

abbrev pub neg_p : (ρ : List ℤ) → Poly ρ → Poly ρ
neg_p [] = neg_ℤ
neg_p (x ∷ ρ) = map (neg_p ρ)

abbrev pub nought : ℤ → Bool
nought (pos zero) = true
nought (pos (suc n)) = false
nought (negsuc n) = false

abbrev pub nought_p : (ρ : List ℤ) → Poly ρ → Bool
nought_p [] = nought
nought_p (x ∷ ρ) = list_all (nought_p ρ)

abbrev pub norm : (ρ : List ℤ) → Expr → Poly ρ
norm ρ (var i) = var_p ρ i
norm ρ (con z) = con_p ρ z
norm ρ (e ⊕ f) = add_p ρ (norm ρ e) (norm ρ f)
norm ρ (e ⊗ f) = mul_p ρ (norm ρ e) (norm ρ f)
norm ρ (⊖ e) = neg_p ρ (norm ρ e)

abbrev pub eval : (ρ : List ℤ) → Poly ρ → ℤ
eval [] z = z
eval (x ∷ ρ) ps = horner (eval ρ) x ps

-- the test: the two expressions have the same coefficients
abbrev pub same : List ℤ → Expr → Expr → Bool
same ρ e f = nought_p ρ (norm ρ (e ⊝ f))

-- ---- laws of numbers, in the forms that the proofs below want
factor_inside : (c x a b : ℤ) → c *ℤ (a +ℤ (x *ℤ b)) ≡ (c *ℤ a) +ℤ (x *ℤ (c *ℤ b))
factor_inside c x a b = grind (arith, *ℤ_distrib, *ℤ_assoc, *ℤ_comm)

negation_inside : (x a b : ℤ) → neg_ℤ (a +ℤ (x *ℤ b)) ≡ neg_ℤ a +ℤ (x *ℤ neg_ℤ b)
negation_inside x a b = grind arith

pub one_times : (x : ℤ) → pos 1 *ℤ x ≡ x
one_times x = omega (arith, ints)

-- ---- the operations on coefficient lists are those of the numbers they stand for
module _ {A : Type 0} (at : A → ℤ) (x : ℤ) where
  horner_add : (add : A → A → A) → ((p q : A) → at (add p q) ≡ at p +ℤ at q) → (ps qs : List A) → horner at x (add_l add ps qs) ≡ horner at x ps +ℤ horner at x qs
  horner_add add law [] qs = sym (+ℤ_idl _)
  horner_add add law (p ∷ ps) [] = sym (+ℤ_idr _)
  horner_add add law (p ∷ ps) (q ∷ qs) =
      ap₂ ◌+ℤ◌ (law p q) (ap (λ h. x *ℤ h) (horner_add add law ps qs) ∙ *ℤ_distrib x (horner at x ps) (horner at x qs))
      ∙ +ℤ_exchange (at p) (at q) (x *ℤ horner at x ps) (x *ℤ horner at x qs)

  horner_map : (g : A → A) (h : ℤ → ℤ) → h (pos 0) ≡ pos 0 → ((a b : ℤ) → h (a +ℤ (x *ℤ b)) ≡ h a +ℤ (x *ℤ h b)) → ((q : A) → at (g q) ≡ h (at q)) →
      (qs : List A) → horner at x (map g qs) ≡ h (horner at x qs)
  horner_map g h at_none linear law [] = sym at_none
  horner_map g h at_none linear law (q ∷ qs) =
      ap₂ (λ a b. a +ℤ (x *ℤ b)) (law q) (horner_map g h at_none linear law qs) ∙ sym (linear (at q) (horner at x qs))

  horner_mul : (nil : A) (add mul : A → A → A) → at nil ≡ pos 0 → ((p q : A) → at (add p q) ≡ at p +ℤ at q) → ((p q : A) → at (mul p q) ≡ at p *ℤ at q) →
      (ps qs : List A) → horner at x (mul_l nil add mul ps qs) ≡ horner at x ps *ℤ horner at x qs
  horner_mul nil add mul at-nil sums products [] qs = sym (zero-*ℤ (horner at x qs))
  horner_mul nil add mul at-nil sums products (p ∷ ps) qs =
      horner_add add sums (map (mul p) qs) (nil ∷ mul_l nil add mul ps qs)
      ∙ ap₂ ◌+ℤ◌ (horner_map (mul p) (λ z. at p *ℤ z) (*ℤ-zero (at p)) (factor_inside (at p) x) (products p) qs)
      (ap₂ ◌+ℤ◌ at-nil (ap (λ h. x *ℤ h) (horner_mul nil add mul at-nil sums products ps qs)) ∙ +ℤ_idl _ ∙ sym (*ℤ_assoc x _ _))
      ∙ sym (*ℤ_distribʳ (at p) (x *ℤ horner at x ps) (horner at x qs))

-- ---- and so `norm` keeps the value
none_is : (ρ : List ℤ) → eval ρ (none ρ) ≡ pos 0
none_is ρ = grind arith

con_is : (ρ : List ℤ) (z : ℤ) → eval ρ (con_p ρ z) ≡ z
con_is [] z = refl
con_is (x ∷ ρ) z = ap₂ ◌+ℤ◌ (con_is ρ z) (*ℤ-zero x) ∙ +ℤ_idr z

var_is : (ρ : List ℤ) (i : ℕ) → eval ρ (var_p ρ i) ≡ lookup ρ i
var_is [] i = refl
var_is (x ∷ ρ) zero = ap₂ ◌+ℤ◌ (none_is ρ) (ap (λ h. x *ℤ h) (con_is (x ∷ ρ) (pos 1))) ∙ +ℤ_idl _ ∙ *ℤ_comm x (pos 1) ∙ one_times x
var_is (x ∷ ρ) (suc i) = ap₂ ◌+ℤ◌ (var_is ρ i) (*ℤ-zero x) ∙ +ℤ_idr _

add_is : (ρ : List ℤ) (p q : Poly ρ) → eval ρ (add_p ρ p q) ≡ eval ρ p +ℤ eval ρ q
add_is [] p q = refl
add_is (x ∷ ρ) p q = horner_add (eval ρ) x (add_p ρ) (add_is ρ) p q

mul_is : (ρ : List ℤ) (p q : Poly ρ) → eval ρ (mul_p ρ p q) ≡ eval ρ p *ℤ eval ρ q
mul_is [] p q = refl
mul_is (x ∷ ρ) p q = horner_mul (eval ρ) x (none ρ) (add_p ρ) (mul_p ρ) (none_is ρ) (add_is ρ) (mul_is ρ) p q

neg_is : (ρ : List ℤ) (p : Poly ρ) → eval ρ (neg_p ρ p) ≡ neg_ℤ (eval ρ p)
neg_is [] p = refl
neg_is (x ∷ ρ) p = horner_map (eval ρ) x (neg_p ρ) neg_ℤ refl (negation_inside x) (neg_is ρ) p

norm_is : (ρ : List ℤ) (e : Expr) → eval ρ (norm ρ e) ≡ value ρ e
norm_is ρ (var i) = var_is ρ i
norm_is ρ (con z) = con_is ρ z
norm_is ρ (e ⊕ f) = add_is ρ (norm ρ e) (norm ρ f) ∙ ap₂ ◌+ℤ◌ (norm_is ρ e) (norm_is ρ f)
norm_is ρ (e ⊗ f) = mul_is ρ (norm ρ e) (norm ρ f) ∙ ap₂ ◌*ℤ◌ (norm_is ρ e) (norm_is ρ f)
norm_is ρ (⊖ e) = neg_is ρ (norm ρ e) ∙ ap neg_ℤ (norm_is ρ e)

all_nought : {A : Type 0} (at : A → ℤ) (x : ℤ) (test : A → Bool) → ((p : A) → T (test p) → at p ≡ pos 0) → (ps : List A) → T (list_all test ps) → horner at x ps ≡ pos 0
all_nought at x test law [] t = refl
all_nought at x test law (p ∷ ps) t =
    ap₂ ◌+ℤ◌ (law p (and_l (test p) (list_all test ps) t)) (ap (λ h. x *ℤ h) (all_nought at x test law ps (and_r (test p) (list_all test ps) t)) ∙ *ℤ-zero x)

nought_is : (ρ : List ℤ) (p : Poly ρ) → T (nought_p ρ p) → eval ρ p ≡ pos 0
nought_is [] (pos zero) t = refl
nought_is [] (pos (suc n)) t = absurd t
nought_is [] (negsuc n) t = absurd t
nought_is (x ∷ ρ) p t = all_nought (eval ρ) x (nought_p ρ) (nought_is ρ) p t

pub solve : (ρ : List ℤ) (e f : Expr) → T (same ρ e f) → value ρ e ≡ value ρ f
solve ρ e f t = equal_from_difference _ _ (sym (norm_is ρ (e ⊝ f)) ∙ nought_is ρ (norm ρ (e ⊝ f)) t)
