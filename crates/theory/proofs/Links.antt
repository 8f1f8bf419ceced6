-- The edges from middle to middle in a finer plate: each stands there once. Assumes nothing.
use Rattle.std.proofs.Common.{◌≡◌, ◌<◌, Bool, true, false, ◌&&◌, ◌⊎◌, map, neg_ℤ, sym, ap, ◌∙◌, subst, ⊎_elim, eq-zero-or-pos, arith}
use Rattle.std.specs.Cmp.{both_ways}
use borrow.Author.Differences.{ints}
use Rattle.std.proofs.lemmas.Bool.{and_from, and_parts, true≢false}
use Rattle.exact.specs.Lists.{count}
use Rattle.exact.proofs.Members.{count_map, count_cong, count_none, count_some, count_one, only_one}
use Rattle.rules.specs.declared.Point.{Point}
use Rattle.rules.specs.declared.Edge.{Edge}
use Rattle.rules.specs.declared.Triangle.{Triangle}
use Rattle.rules.specs.declared.Corner.{Corner}
use Rattle.rules.specs.declared.Corner.TheVariants.{A, B, C}
use Rattle.rules.specs.Edges.{next, corner, edge, edges_in, back, same_edge, direction, across}
use Rattle.rules.specs.Lawful.{edges, times}
use Rattle.rules.specs.Plates.{Plate}
use Rattle.rules.specs.Triangles.{proper}
use Rattle.theory.proofs.Corners.{prev, mid, level, higher, area_above, none_below, middle_index, corner_index}
use Rattle.theory.proofs.Facts.{Facts, edge_in, edge_index, edge_among}
use Rattle.theory.proofs.Halves.{Side, begin, end, half}
use Rattle.theory.proofs.Insides.{across_back}
use Rattle.theory.proofs.Meetings.{In, link, no_middle, same_middle}
use Rattle.theory.proofs.Pieces.{Piece, halved, inner, outer, piece, pieces, tips_differ}
use Rattle.theory.proofs.Sameness.{edge_is, same_edge_refl, same_edge_from, same_edge_not}

-- ---- no triangle lies above both sides of an edge
no_back : (s t : Triangle) → proper s ≡ true → proper t ≡ true → (i l c : Corner) → edge t l ≡ back (edge s i) → corner t c ≡ corner s (prev i) → ⊥
no_back s t ps pt i l c e f =
    let d = direction (edge s i) in
    let turned : (r : Point) → across (direction (edge t l)) r ≡ neg_ℤ (across d r) = λ r. ap (λ g. across (direction g) r) e ∙ across_back (corner s i) (corner s (next i)) r in
    let up = none_below t pt l c in
    let here = turned (corner t l) in
    let there = turned (corner t c) in
    let start = ap (λ g. across d g.from) e in
    let end = ap (across d) f in
    let lev = level s i in
    let high = higher s i in
    let area = area_above s ps in
    omega (arith, ints)

-- ---- the two corners of an index are told apart
abbrev same_corner : Corner → Corner → Bool
same_corner A A = true
same_corner A B = false
same_corner A C = false
same_corner B A = false
same_corner B B = true
same_corner B C = false
same_corner C A = false
same_corner C B = false
same_corner C C = true

same_corner_is : (i j : Corner) → same_corner i j ≡ true → i ≡ j
same_corner_is i j h = grind arith

same_corner_from : (i j : Corner) → i ≡ j → same_corner i j ≡ true
same_corner_from i j e = grind arith

pub turns : (i : Corner) → i ≡ next i → ⊥
turns A e = true≢false (ap (same_corner A) e)
turns B e = true≢false (ap (same_corner B) e)
turns C e = true≢false (ap (same_corner C) e)

module _ (m : Plate) (known : Facts m) where
  -- two edges of s whose middles are those of two edges of t: they are the same edges
  linked : (s t : Triangle) (i j l n : Corner) → In m known s → In m known t → (i ≡ j → ⊥) → mid s i ≡ mid t l → mid s j ≡ mid t n → edge t l ≡ edge s i
  linked s t i j l n ns nt differ e f = ⊎_elim (λ h. h) (λ h. absurd (backs h (same_middle m known s t j n ns nt f))) (same_middle m known s t i l ns nt e)
    where
      at_end : (c : Corner) → corner t c ≡ corner s (prev i) → edge t l ≡ back (edge s i) → ⊥
      at_end c is h = no_back s t (known.is_proper s ns) (known.is_proper t nt) i l c h is

      backs : edge t l ≡ back (edge s i) → (edge t n ≡ edge s j) ⊎ (edge t n ≡ back (edge s j)) → ⊥
      backs h at = grind (arith, at_end)

  -- triangles with a directed edge in common are one
  pub shared : (s t : Triangle) (i l : Corner) → In m known s → In m known t → edge t l ≡ edge s i → s ≡ t
  unfolding times edges
  shared s t i l ns nt e =
      let test = same_edge (edge s i) in
      only_one test edges_in m.triangles (known.once (edge s i) (edge_in m.triangles s i ns)) s t ns nt
      (count_some test (edges_in s) (edge s i) (edge_among s i) (same_edge_refl (edge s i))) (count_some test (edges_in t) (edge t l) (edge_among t l) (same_edge_from (edge s i) (edge t l) (sym e)))

  -- no half of an edge is one between middles
  not_half : (s t : Triangle) (i j : Corner) (side : Side) (l : Corner) → In m known s → In m known t → same_edge (link s i j) (piece t (halved side l)) ≡ false
  not_half s t i j begin l ns nt = tips_differ begin (link s i j) (half begin (edge t l)) (λ e. no_middle m known t s l i nt ns (sym e))
  not_half s t i j end l ns nt = tips_differ end (link s i j) (half end (edge t l)) (λ e. no_middle m known t s (next l) j nt ns (sym e))

  -- ---- in its own triangle an edge between middles stands once
  abbrev own : Corner → Corner → Piece → Bool
  own i j (halved side l) = false
  own i j (inner k) = same_corner i (next k) && same_corner j (prev k)
  own i j (outer k) = same_corner i (prev k) && same_corner j (next k)

  own_link : (s : Triangle) (i j l n : Corner) → In m known s → same_edge (link s i j) (link s l n) ≡ (same_corner i l && same_corner j n)
  own_link s i j l n ns =
      let index = middle_index s (known.is_proper s ns) in
      both_ways (same_edge (link s i j) (link s l n)) (same_corner i l && same_corner j n)
      (λ h. let e = edge_is (link s i j) (link s l n) h in
      and_from (same_corner i l) (same_corner j n) (same_corner_from i l (index i l (ap (λ g. g.from) e))) (same_corner_from j n (index j n (ap (λ g. g.to) e))))
      (λ h. let both = and_parts (same_corner i l) (same_corner j n) h in
      same_edge_from (link s i j) (link s l n) (λ z. link s (same_corner_is i l both.0 z) (same_corner_is j n both.1 z)))

  own_piece : (s : Triangle) (i j : Corner) → In m known s → (p : Piece) → same_edge (link s i j) (piece s p) ≡ own i j p
  own_piece s i j ns p = grind (arith, not_half, own_link)

  own_count : (i j : Corner) → (i ≡ j → ⊥) → count (own i j) pieces ≡ 1
  own_count i j h = grind arith

  own_edge : (s : Triangle) (i : Corner) → In m known s → count (same_edge (edge s i)) (edges_in s) ≡ 1
  own_edge s i ns = grind (arith, corner_index, edge_is, same_edge_from)

  -- ---- in any triangle it stands as often as the edge whose middle it begins at
  pub links : (s t : Triangle) (i j : Corner) → In m known s → In m known t → (i ≡ j → ⊥) → count (same_edge (link s i j)) (map (piece t) pieces) ≡ count (same_edge (edge s i)) (edges_in t)
  links s t i j ns nt differ = ⊎_elim elsewhere here (eq-zero-or-pos (count (same_edge (edge s i)) (edges_in t)))
    where
      test : Edge → Bool
      test = same_edge (link s i j)

      here : 0 < count (same_edge (edge s i)) (edges_in t) → count test (map (piece t) pieces) ≡ count (same_edge (edge s i)) (edges_in t)
      here some =
          let found = count_one (same_edge (edge s i)) (edges_in t) some in
          let which = edge_index t found.0 found.1 in
          let one = shared s t i which.0 ns nt (sym (edge_is (edge s i) found.0 found.2 ∙ which.1)) in
          subst (λ r. count test (map (piece r) pieces) ≡ count (same_edge (edge s i)) (edges_in r)) one
          (count_map test (piece s) pieces ∙ count_cong (λ p. test (piece s p)) (own i j) pieces (λ p at. own_piece s i j ns p) ∙ own_count i j differ ∙ sym (own_edge s i ns))

      elsewhere : count (same_edge (edge s i)) (edges_in t) ≡ 0 → count test (map (piece t) pieces) ≡ count (same_edge (edge s i)) (edges_in t)
      elsewhere empty = count_map test (piece t) pieces ∙ count_none (λ p. test (piece t p)) pieces (λ p at. not_there p) ∙ sym empty
        where
          apart : (l n : Corner) → test (link t l n) ≡ false
          apart l n = same_edge_not (link s i j) (link t l n) (λ e.
              let is = linked s t i j l n ns nt differ (ap (λ g. g.from) e) (ap (λ g. g.to) e) in
              let some = count_some (same_edge (edge s i)) (edges_in t) (edge t l) (edge_among t l) (same_edge_from (edge s i) (edge t l) (sym is)) in
              absurd (omega arith))

          not_there : (p : Piece) → test (piece t p) ≡ false
          not_there p = grind (arith, not_half, apart)
