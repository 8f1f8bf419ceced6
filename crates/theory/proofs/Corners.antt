-- Corners and middles of a proper triangle: how high they lie above its edges, and that no two are one. Assumes nothing.
use Rattle.std.proofs.Common.{◌≡◌, ℕ, true, ltb, List, [], ◌∷◌, ℤ, pos, ◌+ℤ◌, ◌*ℤ◌, ◌≤ℤ◌, ◌<ℤ◌, sym, refl, ap, ◌∙◌, subst, arith}
use borrow.Author.Differences.{ints}
use lib.IntN.{+ℤ_comm}
use lib.Signed.{lt_z}
use Rattle.std.proofs.lemmas.Int.{by_lt_z}
use Rattle.std.proofs.lemmas.Bool.{and_parts}
use Rattle.exact.proofs.Certificates.{◌≼◌, ◌≺◌, ◌≈◌, hyp, sqr, ◌⊞◌, ◌⊠◌, prove⊥, prove≡}
use Rattle.exact.proofs.Order.{factor_out}
use Rattle.exact.proofs.Ring.{Expr, con, ◌⊕◌, ◌⊗◌, ◌⊝◌, ⊖◌, solve}
use Rattle.rules.specs.declared.Point.{Point}
use Rattle.rules.specs.declared.Triangle.{Triangle}
use Rattle.rules.specs.declared.Vector.{Vector}
use Rattle.rules.specs.declared.Corner.{Corner}
use Rattle.rules.specs.declared.Corner.TheVariants.{A, B, C}
use Rattle.rules.specs.Edges.{next, corner, edge, direction, vector, across}
use Rattle.rules.specs.Parts.{middle}
use Rattle.rules.specs.Triangles.{area2, proper}
use Rattle.theory.proofs.Plane.{Pair, pair, Across, Along, To, Straight, squared}

abbrev pub prev : Corner → Corner
prev i = next (next i)

pub thrice : (i : Corner) → next (prev i) ≡ i
thrice i = grind arith

-- a corner is another one, the next or the one before
pub near : (P : Corner → Corner → Type 0) → ((j : Corner) → P j j) → ((j : Corner) → P j (next j)) → ((j : Corner) → P j (prev j)) → (j k : Corner) → P j k
near P same after before A A = same A
near P same after before A B = after A
near P same after before A C = before A
near P same after before B A = before B
near P same after before B B = same B
near P same after before B C = after B
near P same after before C A = after C
near P same after before C B = before C
near P same after before C C = same C

-- the middle of an edge, doubled
abbrev pub mid : Triangle → Corner → Point
mid t i = middle (corner t i) (corner t (next i))

pub middle_comm : (p q : Point) → middle p q ≡ middle q p
middle_comm p q = λ i. record { x = +ℤ_comm p.x q.x i; y = +ℤ_comm p.y q.y i }

-- ---- the area, from whichever corner it is taken
abbrev pub P : Pair
P = pair 0 1

abbrev pub Q : Pair
Q = pair 2 3

abbrev pub R : Pair
R = pair 4 5

abbrev pub numbers : Point → Point → Point → List ℤ
numbers p q r = p.x ∷ p.y ∷ q.x ∷ q.y ∷ r.x ∷ r.y ∷ []

abbrev pub Area : Pair → Pair → Pair → Expr
Area p q r = ((q.x ⊝ p.x) ⊗ (r.y ⊝ p.y)) ⊝ ((r.x ⊝ p.x) ⊗ (q.y ⊝ p.y))

abbrev from_corner : Triangle → Corner → Triangle
from_corner t i = record { a = corner t i; b = corner t (next i); c = corner t (prev i); k = t.k }

turned_area : (t : Triangle) (i : Corner) → area2 (from_corner t i) ≡ area2 t
unfolding area2
turned_area t A = refl
turned_area t B = solve (numbers t.a t.b t.c) (Area Q R P) (Area P Q R) tt
turned_area t C = solve (numbers t.a t.b t.c) (Area R P Q) (Area P Q R) tt

-- ---- heights above an edge: nought at its ends, and the area at the corner opposite
pub over : (p q r : Point) (k : ℕ) → (across (vector p q) q ≡ across (vector p q) p) × (across (vector p q) r ≡ across (vector p q) p +ℤ area2 (record { a = p; b = q; c = r; k = k }))
unfolding across area2
over p q r k =
    (solve (numbers p q r) (Across (To P Q) Q) (Across (To P Q) P) tt, solve (numbers p q r) (Across (To P Q) R) (Across (To P Q) P ⊕ Area P Q R) tt)

pub level : (t : Triangle) (i : Corner) → across (direction (edge t i)) (corner t (next i)) ≡ across (direction (edge t i)) (corner t i)
level t i = (over (corner t i) (corner t (next i)) (corner t (prev i)) t.k).0

pub higher : (t : Triangle) (i : Corner) → across (direction (edge t i)) (corner t (prev i)) ≡ across (direction (edge t i)) (corner t i) +ℤ area2 t
higher t i = (over (corner t i) (corner t (next i)) (corner t (prev i)) t.k).1 ∙ ap (λ z. across (direction (edge t i)) (corner t i) +ℤ z) (turned_area t i)

pub area_above : (t : Triangle) → proper t ≡ true → pos 0 <ℤ area2 t
area_above t ok = let is = (and_parts (lt_z (pos 0) (area2 t)) (ltb 0 t.k) ok).0 in omega (arith, ints)

-- no corner lies below an edge
pub none_below : (t : Triangle) → proper t ≡ true → (i j : Corner) → across (direction (edge t i)) (corner t i) ≤ℤ across (direction (edge t i)) (corner t j)
none_below t ok =
    near (λ i j. across (direction (edge t i)) (corner t i) ≤ℤ across (direction (edge t i)) (corner t j))
    (λ i. omega (arith, ints)) (λ i. let e = level t i in omega (arith, ints)) (λ i. let e = higher t i in let up = area_above t ok in omega (arith, ints))

-- ---- no two corners are one, and no two middles
which : (f : Corner → Point) → ((i : Corner) → f i ≡ f (next i) → ⊥) → (i j : Corner) → f i ≡ f j → i ≡ j
which f differ = grind (arith, thrice)

no_way : (p r : Point) → across (vector p p) r ≡ pos 0
unfolding across
no_way p r = solve (numbers p r r) (Across (To P P) Q) (con (pos 0)) tt

corners_differ : (t : Triangle) → proper t ≡ true → (i : Corner) → corner t i ≡ corner t (next i) → ⊥
corners_differ t ok i e =
    let p = corner t i in
    let flat : (r : Point) → across (direction (edge t i)) r ≡ pos 0 = λ r. sym (ap (λ q. across (vector p q) r) e) ∙ no_way p r in
    let area = area_above t ok in
    let up = higher t i in
    let at = flat (corner t (prev i)) in
    let low = flat p in
    omega (arith, ints)

pub corner_index : (t : Triangle) → proper t ≡ true → (i j : Corner) → corner t i ≡ corner t j → i ≡ j
corner_index t ok = which (corner t) (corners_differ t ok)

pub middle_cancel : (p q r : Point) → middle p q ≡ middle q r → p ≡ r
middle_cancel p q r e =
    let ex = ap (λ m. m.x) e in
    let ey = ap (λ m. m.y) e in
    let x : p.x ≡ r.x = omega (arith, ints) in
    let y : p.y ≡ r.y = omega (arith, ints) in
    λ i. record { x = x i; y = y i }

middles_differ : (t : Triangle) → proper t ≡ true → (i : Corner) → mid t i ≡ mid t (next i) → ⊥
middles_differ t ok i e = grind (arith, corners_differ, middle_cancel)

pub middle_index : (t : Triangle) → proper t ≡ true → (i j : Corner) → mid t i ≡ mid t j → i ≡ j
middle_index t ok = which (mid t) (middles_differ t ok)

-- ---- each edge has a direction, and no direction has all corners equally far across
spread : (p q r : Point) (k : ℕ) → pos 0 <ℤ area2 (record { a = p; b = q; c = r; k = k }) → Straight (vector p q)
unfolding area2
spread p q r k above =
    let d = vector p q in
    by_lt_z (pos 0) (squared d) (λ straight. straight)
    (λ none. absurd (prove⊥ (numbers p q r) ((Along (To P Q) (To P Q) ≼ con (pos 0)) ∷ (con (pos 0) ≺ Area P Q R) ∷ [])
    ((hyp 0 ⊠ (sqr (R.x ⊝ P.x) ⊞ sqr (R.y ⊝ P.y))) ⊞ (hyp 1 ⊠ hyp 1) ⊞ hyp 1 ⊞ hyp 1 ⊞ sqr (Along (To P Q) (To P R))) tt (none, (above, tt))))

pub straight_edge : (t : Triangle) → proper t ≡ true → (i : Corner) → Straight (direction (edge t i))
straight_edge t ok i = spread (corner t i) (corner t (next i)) (corner t (prev i)) t.k (subst (λ z. pos 0 <ℤ z) (sym (turned_area t i)) (area_above t ok))

flat_area : (d : Vector) (t : Triangle) → across d t.b ≡ across d t.a → across d t.c ≡ across d t.a → (squared d) *ℤ area2 t ≡ pos 0
unfolding across area2
flat_area d t h k =
    let D = pair 6 7 in
    prove≡ (t.a.x ∷ t.a.y ∷ t.b.x ∷ t.b.y ∷ t.c.x ∷ t.c.y ∷ d.x ∷ d.y ∷ []) ((Across D Q ≈ Across D P) ∷ (Across D R ≈ Across D P) ∷ [])
    ((⊖ (Along D (To P R))) ∷ Along D (To P Q) ∷ []) (Along D D ⊗ Area P Q R) (con (pos 0)) tt (h, (k, tt))

pub not_flat : (d : Vector) (t : Triangle) (i : Corner) → Straight d → proper t ≡ true →
    across d (corner t (next i)) ≡ across d (corner t i) → across d (corner t (prev i)) ≡ across d (corner t i) → ⊥
not_flat d t i straight ok h k =
    let none = factor_out (squared d) (area2 (from_corner t i)) straight (flat_area d (from_corner t i) h k) in
    let same = turned_area t i in
    let area = area_above t ok in
    omega (arith, ints)
