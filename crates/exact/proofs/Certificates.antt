-- Inequalities and equations between polynomials that follow from others of the kind, by a certificate: what is to be shown is
-- written as what is known, times squares and the like, and the ring normaliser compares the two. Assumes nothing.
use Rattle.std.proofs.Common.{◌≡◌, ℕ, zero, suc, T, List, [], ◌∷◌, ℤ, pos, ◌+ℤ◌, ◌*ℤ◌, ◌≤ℤ◌, ◌<ℤ◌, refl, ap₂, arith}
use borrow.Author.Differences.{ints}
use Rattle.exact.proofs.Ring.{Expr, con, ◌⊕◌, ◌⊗◌, ◌⊝◌, value, same, solve}

-- ---- what is known of the numbers ρ
infix 4 ◌≼◌ ◌≺◌ ◌≈◌
pub data Fact : Type 0 where
  ◌≼◌ : Expr → Expr → Fact
  ◌≺◌ : Expr → Expr → Fact
  ◌≈◌ : Expr → Expr → Fact

abbrev pub Holds : List ℤ → Fact → Type 0
Holds ρ (e ≼ f) = value ρ e ≤ℤ value ρ f
Holds ρ (e ≺ f) = value ρ e <ℤ value ρ f
Holds ρ (e ≈ f) = value ρ e ≡ value ρ f

-- the facts as nested pairs, (h₀, (h₁, (.. , tt)))
abbrev pub AllHold : List ℤ → List Fact → Type 0
AllHold ρ [] = Unit {0}
AllHold ρ (h ∷ hs) = Holds ρ h × AllHold ρ hs

abbrev pub nth : List Fact → ℕ → Fact
nth [] i = con (pos 0) ≈ con (pos 0)
nth (h ∷ hs) zero = h
nth (h ∷ hs) (suc i) = nth hs i

-- ---- a certificate stands for a number that is not negative
infixl 6 ◌⊞◌
infixl 7 ◌⊠◌
pub data Cert : Type 0 where
  -- the right side of a fact less its left side, and 1 less where the fact is strict
  hyp : ℕ → Cert
  lit : ℕ → Cert
  sqr : Expr → Cert
  -- the same of an equation, times any number
  off : ℕ → Expr → Cert
  ◌⊞◌ : Cert → Cert → Cert
  ◌⊠◌ : Cert → Cert → Cert

abbrev pub gap : Fact → Expr
gap (e ≼ f) = f ⊝ e
gap (e ≺ f) = f ⊝ (con (pos 1) ⊕ e)
gap (e ≈ f) = f ⊝ e

-- nothing, times g
abbrev pub nothing : Fact → Expr → Expr
nothing (e ≼ f) g = con (pos 0)
nothing (e ≺ f) g = con (pos 0)
nothing (e ≈ f) g = g ⊗ (f ⊝ e)

abbrev pub slack : List Fact → Cert → Expr
slack H (hyp i) = gap (nth H i)
slack H (lit n) = con (pos n)
slack H (sqr e) = e ⊗ e
slack H (off i g) = nothing (nth H i) g
slack H (c ⊞ d) = slack H c ⊕ slack H d
slack H (c ⊠ d) = slack H c ⊗ slack H d

holds_nth : (ρ : List ℤ) (H : List Fact) → AllHold ρ H → (i : ℕ) → Holds ρ (nth H i)
holds_nth ρ [] known i = refl
holds_nth ρ (h ∷ hs) known zero = known.0
holds_nth ρ (h ∷ hs) known (suc i) = holds_nth ρ hs known.1 i

-- ---- order on the integers: what a certificate is made of is not negative
pub natural : (n : ℕ) → pos 0 ≤ℤ pos n
natural n = omega (arith, ints)

product_not_negative : (a b : ℤ) → pos 0 ≤ℤ a → pos 0 ≤ℤ b → pos 0 ≤ℤ (a *ℤ b)
product_not_negative a b h k = grind arith

square_not_negative : (a : ℤ) → pos 0 ≤ℤ (a *ℤ a)
square_not_negative a = grind arith

gap_not_negative : (ρ : List ℤ) (h : Fact) → Holds ρ h → pos 0 ≤ℤ value ρ (gap h)
gap_not_negative ρ h known = grind arith

nothing_is : (ρ : List ℤ) (h : Fact) (g : Expr) → Holds ρ h → value ρ (nothing h g) ≡ pos 0
nothing_is ρ h g known = grind arith

slack_not_negative : (ρ : List ℤ) (H : List Fact) → AllHold ρ H → (c : Cert) → pos 0 ≤ℤ value ρ (slack H c)
slack_not_negative ρ H known (hyp i) = gap_not_negative ρ (nth H i) (holds_nth ρ H known i)
slack_not_negative ρ H known (lit n) = natural n
slack_not_negative ρ H known (sqr e) = square_not_negative (value ρ e)
slack_not_negative ρ H known (off i g) = let none = nothing_is ρ (nth H i) g (holds_nth ρ H known i) in omega (arith, ints)
slack_not_negative ρ H known (c ⊞ d) =
    let left = slack_not_negative ρ H known c in
    let right = slack_not_negative ρ H known d in
    omega (arith, ints)
slack_not_negative ρ H known (c ⊠ d) = product_not_negative (value ρ (slack H c)) (value ρ (slack H d)) (slack_not_negative ρ H known c) (slack_not_negative ρ H known d)

-- e ≤ f, since f is e and what the certificate stands for
pub prove≤ : (ρ : List ℤ) (H : List Fact) (c : Cert) (e f : Expr) → T (same ρ f (e ⊕ slack H c)) → AllHold ρ H → value ρ e ≤ℤ value ρ f
prove≤ ρ H c e f t known =
    let least = slack_not_negative ρ H known c in
    let same = solve ρ f (e ⊕ slack H c) t in
    omega (arith, ints)

pub prove< : (ρ : List ℤ) (H : List Fact) (c : Cert) (e f : Expr) → T (same ρ f ((con (pos 1) ⊕ e) ⊕ slack H c)) → AllHold ρ H → value ρ e <ℤ value ρ f
prove< ρ H c e f t known = let most = prove≤ ρ H c (con (pos 1) ⊕ e) f t known in omega (arith, ints)

-- no numbers are so, since 1 would be at most 0
pub prove⊥ : (ρ : List ℤ) (H : List Fact) (c : Cert) → T (same ρ (con (pos 0)) (con (pos 1) ⊕ slack H c)) → AllHold ρ H → ⊥
prove⊥ ρ H c t known = (prove≤ ρ H c (con (pos 1)) (con (pos 0)) t known).le

-- ---- an equation under equations: the difference is a combination of their differences, a factor for each
abbrev pub combined : List Fact → List Expr → Expr
combined [] gs = con (pos 0)
combined (h ∷ hs) [] = con (pos 0)
combined (h ∷ hs) (g ∷ gs) = nothing h g ⊕ combined hs gs

combined_is : (ρ : List ℤ) (H : List Fact) (gs : List Expr) → AllHold ρ H → value ρ (combined H gs) ≡ pos 0
combined_is ρ [] gs known = refl
combined_is ρ (h ∷ hs) [] known = refl
combined_is ρ (h ∷ hs) (g ∷ gs) known = ap₂ ◌+ℤ◌ (nothing_is ρ h g known.0) (combined_is ρ hs gs known.1)

pub prove≡ : (ρ : List ℤ) (H : List Fact) (gs : List Expr) (e f : Expr) → T (same ρ f (e ⊕ combined H gs)) → AllHold ρ H → value ρ e ≡ value ρ f
prove≡ ρ H gs e f t known =
    let none = combined_is ρ H gs known in
    let same = solve ρ f (e ⊕ combined H gs) t in
    omega (arith, ints)
