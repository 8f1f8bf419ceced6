-- How often each edge stands in a finer plate and in its outline, and that all of them are paired there. Assumes nothing.
use Rattle.std.proofs.Common.{◌≡◌, ◌+◌, Bool, true, false, eqb, List, [], ◌∷◌, map, sym, refl, ap, ◌∙◌, subst, arith}
use mathlib.Core.List.{flat_map, Memᴰ}
use Rattle.std.proofs.lemmas.Bool.{and_from, eq-eqb}
use Rattle.std.proofs.lemmas.List.Folds.{list_all-map}
use Rattle.exact.specs.Lists.{count, every}
use Rattle.exact.proofs.Members.{one, every_in, every_flat_map, flat_map_member, flat_map_flat_map, count_each, count_none, count_flat_map}
use Rattle.rules.specs.declared.Point.{Point}
use Rattle.rules.specs.declared.Edge.{Edge}
use Rattle.rules.specs.declared.Triangle.{Triangle}
use Rattle.rules.specs.declared.OutlineEdge.{OutlineEdge}
use Rattle.rules.specs.declared.OutlineEdge.TheVariants.{Closed, Held}
use Rattle.rules.specs.declared.Corner.{Corner}
use Rattle.rules.specs.Edges.{next, corner, edge, edges_in, back, same_edge}
use Rattle.rules.specs.Finer.{parts, half1, half2, halves, finer}
use Rattle.rules.specs.Lawful.{edges, edge_of, outline_edges, times, paired, outlined}
use Rattle.rules.specs.Parts.{middle, twice}
use Rattle.rules.specs.Plates.{Plate}
use Rattle.theory.proofs.Corners.{mid}
use Rattle.theory.proofs.Facts.{Facts, edge_in, edge_out}
use Rattle.theory.proofs.Halves.{Side, begin, end, other, half, tip, tip_other, back_half}
use Rattle.theory.proofs.Links.{links}
use Rattle.theory.proofs.Meetings.{link, no_middle}
use Rattle.theory.proofs.Pieces.{Piece, piece, pieces, part_edges, half_count, same_halves, half_differs, tips_differ}

-- ---- the edges of the finer plate, triangle by triangle and edge by edge
pub fine_edges : (m : Plate) → edges (finer m).triangles ≡ flat_map (λ t. map (piece t) pieces) m.triangles
unfolding edges finer
fine_edges m = flat_map_flat_map parts edges_in m.triangles ∙ (λ i. flat_map (λ t. part_edges t i) m.triangles)

abbrev both_halves : Edge → List Edge
both_halves e = half1 e ∷ half2 e ∷ []

pub fine_outline : (m : Plate) → outline_edges (finer m) ≡ flat_map both_halves (outline_edges m)
unfolding outline_edges finer flat_map
fine_outline m = go m.outline
  where
    go : (bs : List OutlineEdge) → map edge_of (flat_map halves bs) ≡ flat_map both_halves (map edge_of bs)
    go [] = refl
    go (Closed e ∷ bs) = ap (λ es. half1 e ∷ half2 e ∷ es) (go bs)
    go (Held e g h ∷ bs) = ap (λ es. half1 e ∷ half2 e ∷ es) (go bs)

count_fine : (m : Plate) (p q : Edge → Bool) → ((t : Triangle) → Memᴰ t m.triangles → count p (map (piece t) pieces) ≡ count q (edges_in t)) →
    count p (edges (finer m).triangles) ≡ count q (edges m.triangles)
unfolding edges
count_fine m p q h = ap (count p) (fine_edges m) ∙ count_flat_map p q (λ t. map (piece t) pieces) edges_in m.triangles h

two : (s : Side) (p : Edge → Bool) (e : Edge) → count p (both_halves e) ≡ one (p (half s e)) + one (p (half (other s) e))
two s p e = grind arith

module _ (m : Plate) (known : Facts m) where
  -- a corner of the plate
  abbrev Named : Point → Type 0
  Named p = (t : Triangle) × (i : Corner) × Memᴰ t m.triangles × (p ≡ corner t i)

  never : (p : Point) → Named p → (t : Triangle) → Memᴰ t m.triangles → (j : Corner) → twice p ≡ mid t j → ⊥
  never p named t nt j e = no_middle m known named.0 t named.1 j named.2 nt (ap twice (sym named.3) ∙ e)

  pub times_half : (s : Side) (e : Edge) → Named (tip s e) → times (half s e) (edges (finer m).triangles) ≡ times e (edges m.triangles)
  unfolding times
  times_half s e named = count_fine m (same_edge (half s e)) (same_edge e) (λ t nt. half_count s e t (never (tip s e) named t nt))

  pub times_link : (s : Triangle) (i j : Corner) → Memᴰ s m.triangles → (i ≡ j → ⊥) → times (link s i j) (edges (finer m).triangles) ≡ 1
  unfolding times
  times_link s i j ns differ =
      count_fine m (same_edge (link s i j)) (same_edge (edge s i)) (λ t nt. links m known s t i j ns nt differ) ∙ known.once (edge s i) (edge_in m.triangles s i ns)

  -- ---- the outline
  -- an outline edge is a triangle's
  triangle_of : (b : Edge) → Memᴰ b (outline_edges m) → (t : Triangle) × (j : Corner) × Memᴰ t m.triangles × (b ≡ edge t j)
  triangle_of b nb = edge_out m.triangles b (known.borders b nb)

  never_outline : (p : Point) → Named p → (b : Edge) → Memᴰ b (outline_edges m) → twice p ≡ middle b.from b.to → ⊥
  never_outline p named b nb e = let at = triangle_of b nb in never p named at.0 at.2 at.1 (e ∙ ap (λ f. middle f.from f.to) at.3)

  pub times_half_outline : (s : Side) (e : Edge) → Named (tip s e) → times (half s e) (outline_edges (finer m)) ≡ times e (outline_edges m)
  unfolding times
  times_half_outline s e named =
      ap (count (same_edge (half s e))) (fine_outline m) ∙ count_each (same_edge (half s e)) (same_edge e) both_halves (outline_edges m) (λ b nb.
      let sum = two s (same_edge (half s e)) b in
      let same = ap one (same_halves s e b) in
      let others = ap one (half_differs s e (half (other s) b) (middle b.from b.to) (tip_other s b) (never_outline (tip s e) named b nb)) in
      omega arith)

  times_link_outline : (s : Triangle) (i j : Corner) → Memᴰ s m.triangles → times (link s i j) (outline_edges (finer m)) ≡ 0
  unfolding times
  times_link_outline s i j ns =
      ap (count (same_edge (link s i j))) (fine_outline m) ∙ count_none (same_edge (link s i j)) (flat_map both_halves (outline_edges m)) (λ f nf.
      let at = flat_map_member both_halves (outline_edges m) f nf in
      half_not at.0 (triangle_of at.0 at.1) f at.2)
    where
      half_not : (b : Edge) → (t : Triangle) × (l : Corner) × Memᴰ t m.triangles × (b ≡ edge t l) → (f : Edge) → Memᴰ f (both_halves b) → same_edge (link s i j) f ≡ false
      half_not b at f (Memᴰ.head e) =
          tips_differ begin (link s i j) f (λ h. no_middle m known at.0 s at.1 i at.2 ns (sym (h ∙ ap (λ g. g.from) e ∙ ap (λ g. twice g.from) at.3)))
      half_not b at f (Memᴰ.tail (Memᴰ.head e)) =
          tips_differ end (link s i j) f (λ h. no_middle m known at.0 s (next at.1) j at.2 ns (sym (h ∙ ap (λ g. g.to) e ∙ ap (λ g. twice g.to) at.3)))
      half_not b at f (Memᴰ.tail (Memᴰ.tail n)) = elim n [ ]

  -- ---- the tests of a lawful plate, for the finer one
  end_named : (side : Side) (s : Triangle) (i : Corner) → Memᴰ s m.triangles → Named (tip side (edge s i))
  end_named begin s i ns = (s, i, ns, refl)
  end_named end s i ns = (s, next i, ns, refl)

  paired_from : (e : Edge) → times e (edges (finer m).triangles) ≡ 1 → times (back e) (edges (finer m).triangles) + times e (outline_edges (finer m)) ≡ 1 → paired (finer m) e ≡ true
  unfolding paired
  paired_from e h k = and_from (eqb (times e (edges (finer m).triangles)) 1) _ (eq-eqb _ 1 h) (eq-eqb _ 1 k)

  link_paired : (s : Triangle) (i j : Corner) → Memᴰ s m.triangles → (i ≡ j → ⊥) → paired (finer m) (link s i j) ≡ true
  link_paired s i j ns differ = grind (arith, times_link, times_link_outline, paired_from)

  piece_paired : (s : Triangle) → Memᴰ s m.triangles → (p : Piece) → paired (finer m) (piece s p) ≡ true
  piece_paired s ns p = grind (arith, edge_in, back_half, times_half, times_half_outline, paired_from, link_paired)

  pub all_paired : every (paired (finer m)) (edges (finer m).triangles) ≡ true
  all_paired =
      ap (every (paired (finer m))) (fine_edges m) ∙ every_flat_map (paired (finer m)) (λ t. map (piece t) pieces) m.triangles (λ t nt.
      list_all-map (paired (finer m)) (piece t) pieces ∙ every_in (λ p. paired (finer m) (piece t p)) pieces (λ p np. piece_paired t nt p))

  outlined_from : (e : Edge) → times e (edges (finer m).triangles) ≡ 1 → times e (outline_edges (finer m)) ≡ 1 → outlined (finer m) e ≡ true
  unfolding outlined
  outlined_from e h k = and_from (eqb (times e (edges (finer m).triangles)) 1) _ (eq-eqb _ 1 h) (eq-eqb _ 1 k)

  pub all_outlined : every (outlined (finer m)) (outline_edges (finer m)) ≡ true
  all_outlined =
      ap (every (outlined (finer m))) (fine_outline m) ∙ every_flat_map (outlined (finer m)) both_halves (outline_edges m) (λ b nb.
      let at = triangle_of b nb in
      let named : (side : Side) → Named (tip side b) = λ side. subst (λ e. Named (tip side e)) (sym at.3) (end_named side at.0 at.1 at.2) in
      let once = known.once b (known.borders b nb) in
      let once' = known.outlined_once b nb in
      let each : (side : Side) → outlined (finer m) (half side b) ≡ true =
      λ side. outlined_from (half side b) (times_half side b (named side) ∙ once) (times_half_outline side b (named side) ∙ once') in
      and_from (outlined (finer m) (half1 b)) _ (each begin) (and_from (outlined (finer m) (half2 b)) true (each end) refl))
