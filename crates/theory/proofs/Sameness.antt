-- The tests whether two numbers, points or edges are the same decide it. Assumes nothing.
use Rattle.std.proofs.Common.{◌≡◌, Bool, true, false, ◌&&◌, ℤ, sym, refl, ap, ◌∙◌, arith}
use borrow.Author.Differences.{ints}
use lib.Signed.{le_z}
use Rattle.std.specs.Cmp.{both_ways}
use Rattle.std.proofs.lemmas.Bool.{and_parts, and_from, false_from_ne_true}
use Rattle.std.proofs.lemmas.Bool.Decides.{Decides-int_eq}
use Rattle.rules.specs.declared.Point.{Point}
use Rattle.rules.specs.declared.Edge.{Edge}
use Rattle.rules.specs.Edges.{back, same_edge}
use Rattle.rules.specs.Plates.{same, same_point}

-- ---- the test of two numbers is that each is at most the other
pub same_both_ways : (y z : ℤ) → same y z ≡ (le_z y z && le_z z y)
same_both_ways y z =
    both_ways (same y z) (le_z y z && le_z z y) (λ t. let e = (Decides-int_eq y z).0 t in and_from (le_z y z) (le_z z y) (grind (arith, ints)) (grind (arith, ints)))
    (λ t. let both = and_parts (le_z y z) (le_z z y) t in let le = both.0 in let ge = both.1 in (Decides-int_eq y z).1 (grind (arith, ints)))

-- ---- the test passes on one thing twice
pub same_from : (y z : ℤ) → y ≡ z → same y z ≡ true
same_from y z e = (Decides-int_eq y z).1 e

pub same_point_refl : (p : Point) → same_point p p ≡ true
same_point_refl p = and_from (same p.x p.x) (same p.y p.y) (same_from p.x p.x refl) (same_from p.y p.y refl)

pub same_edge_refl : (e : Edge) → same_edge e e ≡ true
unfolding same_edge
same_edge_refl e = and_from (same_point e.from e.from) (same_point e.to e.to) (same_point_refl e.from) (same_point_refl e.to)

-- ---- what passes it is one thing
pub same_is : (y z : ℤ) → same y z ≡ true → y ≡ z
same_is y z h = (Decides-int_eq y z).0 h

pub point_is : (p q : Point) → same_point p q ≡ true → p ≡ q
point_is p q h =
    let both = and_parts (same p.x q.x) (same p.y q.y) h in
    let x = same_is p.x q.x both.0 in
    let y = same_is p.y q.y both.1 in
    λ i. record { x = x i; y = y i }

pub edge_is : (e f : Edge) → same_edge e f ≡ true → e ≡ f
unfolding same_edge
edge_is e f h =
    let both = and_parts (same_point e.from f.from) (same_point e.to f.to) h in
    let from = point_is e.from f.from both.0 in
    let to = point_is e.to f.to both.1 in
    λ i. record { from = from i; to = to i }

-- ---- of any test that decides it: it is the same from right to left, and fails on two things
module _ {A : Type 0} (test : A → A → Bool) (alike : (a : A) → test a a ≡ true) (is : (a b : A) → test a b ≡ true → a ≡ b) where
  passes : (a b : A) → a ≡ b → test a b ≡ true
  passes a b e = ap (test a) (sym e) ∙ alike a

  symmetric : (a b : A) → test a b ≡ test b a
  symmetric a b = both_ways (test a b) (test b a) (λ t. passes b a (sym (is a b t))) (λ t. passes a b (sym (is b a t)))

  fails : (a b : A) → (a ≡ b → ⊥) → test a b ≡ false
  fails a b differ = false_from_ne_true (test a b) (λ t. differ (is a b t))

pub same_point_from : (p q : Point) → p ≡ q → same_point p q ≡ true
same_point_from = passes same_point same_point_refl point_is

pub same_edge_from : (e f : Edge) → e ≡ f → same_edge e f ≡ true
same_edge_from = passes same_edge same_edge_refl edge_is

pub same_edge_sym : (e f : Edge) → same_edge e f ≡ same_edge f e
same_edge_sym = symmetric same_edge same_edge_refl edge_is

pub same_edge_not : (e f : Edge) → (e ≡ f → ⊥) → same_edge e f ≡ false
same_edge_not = fails same_edge same_edge_refl edge_is

-- an edge is the back of another just where that is the back of it
pub same_edge_back : (e f : Edge) → same_edge (back e) f ≡ same_edge (back f) e
same_edge_back e f = grind (arith, same_edge_from, edge_is)
