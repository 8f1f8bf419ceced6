-- What a lawful plate is known to have, as named facts; the proofs about plates cite only these. Assumes nothing.
use Rattle.std.proofs.Common.{◌≡◌, ◌+◌, true, false, ◌⊎◌, List, [], ◌∷◌, sym, refl, ◌∙◌, subst, inl, inr, arith}
use mathlib.Core.List.Memᴰ
use mathlib.Core.List.{Memᴰ}
use Rattle.std.proofs.lemmas.Bool.{and_parts}
use Rattle.exact.specs.Lists.{every}
use Rattle.exact.proofs.Members.{every_out, count_one, flat_map_member, member_flat_map}
use Rattle.rules.specs.declared.Point.{Point}
use Rattle.rules.specs.declared.Edge.{Edge}
use Rattle.rules.specs.declared.Triangle.{Triangle}
use Rattle.rules.specs.declared.Corner.{Corner}
use Rattle.rules.specs.declared.Corner.TheVariants.{A, B, C}
use Rattle.rules.specs.Edges.{each_corner, corner, edge, corners_in, edges_in, back, same_edge, inside}
use Rattle.rules.specs.Lawful.{edges, outline_edges, times, paired, outlined, held, agree, one_temperature, apart, parted, clear, all_clear, lawful}
use Rattle.rules.specs.Plates.{Plate, PointValue}
use Rattle.rules.specs.Triangles.{proper}
use Rattle.theory.proofs.Sameness.{same_point_from, edge_is}

pub record Facts (m : Plate) : Type 0 where
  pub is_proper : (t : Triangle) → Memᴰ t m.triangles → proper t ≡ true
  -- a directed edge stands in one triangle
  pub once : (e : Edge) → Memᴰ e (edges m.triangles) → times e (edges m.triangles) ≡ 1
  pub is_paired : (e : Edge) → Memᴰ e (edges m.triangles) → times (back e) (edges m.triangles) + times e (outline_edges m) ≡ 1
  -- an outline edge is a triangle's edge, and stands in the outline once
  pub borders : (e : Edge) → Memᴰ e (outline_edges m) → Memᴰ e (edges m.triangles)
  pub outlined_once : (e : Edge) → Memᴰ e (outline_edges m) → times e (outline_edges m) ≡ 1
  pub one_temperature_lem : (p q : PointValue) → Memᴰ p (held m) → Memᴰ q (held m) → p.at ≡ q.at → p.value ≡ q.value
  pub is_apart : (s t : Triangle) → Memᴰ s m.triangles → Memᴰ t m.triangles → (s ≡ t) ⊎ ((parted s t ≡ true) ⊎ (parted t s ≡ true))
  pub kept_apart : apart m.triangles ≡ true
  pub is_clear : (e : Edge) (t : Triangle) (i : Corner) → Memᴰ e (edges m.triangles) → Memᴰ t m.triangles → inside e (corner t i) ≡ false

-- ---- an edge of the plate is the edge of a triangle
pub index_in : (i : Corner) → Memᴰ i each_corner
index_in A = Memᴰ.head refl
index_in B = Memᴰ.tail (Memᴰ.head refl)
index_in C = Memᴰ.tail (Memᴰ.tail (Memᴰ.head refl))

pub edge_among : (t : Triangle) (i : Corner) → Memᴰ (edge t i) (edges_in t)
edge_among t i = Memᴰ.map (edge t) (index_in i)

pub edge_in : (ts : List Triangle) (t : Triangle) (i : Corner) → Memᴰ t ts → Memᴰ (edge t i) (edges ts)
unfolding edges
edge_in ts t i m = member_flat_map edges_in ts t (edge t i) m (edge_among t i)

pub edge_index : (t : Triangle) (e : Edge) → Memᴰ e (edges_in t) → (i : Corner) × (e ≡ edge t i)
edge_index t e m = let at = Memᴰ.of_map (edge t) each_corner m in (at.0, sym at.2)

pub edge_out : (ts : List Triangle) (e : Edge) → Memᴰ e (edges ts) → (t : Triangle) × (i : Corner) × Memᴰ t ts × (e ≡ edge t i)
unfolding edges
edge_out ts e m =
    let at = flat_map_member edges_in ts e m in
    let which = edge_index at.0 e at.2 in
    (at.0, which.0, at.1, which.1)

pub corner_in : (t : Triangle) (i : Corner) → Memᴰ (corner t i) (corners_in t)
corner_in t i = Memᴰ.map (corner t) (index_in i)

pub corner_out : (t : Triangle) (p : Point) → Memᴰ p (corners_in t) → (i : Corner) × (p ≡ corner t i)
corner_out t p m = let at = Memᴰ.of_map (corner t) each_corner m in (at.0, sym at.2)

-- ---- two triangles of the plate are one, or parted
apart_out : (ts : List Triangle) → apart ts ≡ true → (s t : Triangle) → Memᴰ s ts → Memᴰ t ts → (s ≡ t) ⊎ ((parted s t ≡ true) ⊎ (parted t s ≡ true))
unfolding apart
apart_out [] h s t m n = elim m [ ]
apart_out (r ∷ rs) h s t (Memᴰ.head p) (Memᴰ.head q) = inl (p ∙ sym q)
apart_out (r ∷ rs) h s t (Memᴰ.head p) (Memᴰ.tail n) =
    inr (inl (subst (λ w. parted w t ≡ true) (sym p) (every_out (parted r) rs (and_parts (every (parted r) rs) (apart rs) h).0 t n)))
apart_out (r ∷ rs) h s t (Memᴰ.tail m) (Memᴰ.head q) =
    inr (inr (subst (λ w. parted w s ≡ true) (sym q) (every_out (parted r) rs (and_parts (every (parted r) rs) (apart rs) h).0 s m)))
apart_out (r ∷ rs) h s t (Memᴰ.tail m) (Memᴰ.tail n) = apart_out rs (and_parts (every (parted r) rs) (apart rs) h).1 s t m n

temperature_out : (ps : List PointValue) → one_temperature ps ≡ true → (p q : PointValue) → Memᴰ p ps → Memᴰ q ps → p.at ≡ q.at → p.value ≡ q.value
unfolding one_temperature agree
temperature_out ps h p q m n same_place = grind (arith, every_out, same_point_from)

clear_out : (ts : List Triangle) → all_clear ts ≡ true → (e : Edge) (t : Triangle) (i : Corner) → Memᴰ e (edges ts) → Memᴰ t ts → inside e (corner t i) ≡ false
unfolding all_clear clear
clear_out ts h e t i m n = grind (arith, every_out)

there : (e : Edge) (es : List Edge) → times e es ≡ 1 → Memᴰ e es
unfolding times
there e es h =
    let found = count_one (same_edge e) es (omega (arith, h)) in
    Memᴰ.cast (edge_is e found.0 found.2) found.1

-- ---- the tests of a lawful plate, one by one
pub facts : (m : Plate) → lawful m ≡ true → Facts m
unfolding lawful paired outlined outline_edges times
facts m ok = grind (arith, every_out, there, temperature_out, apart_out, clear_out)
