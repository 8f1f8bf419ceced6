-- How corners, middles and edges of a lawful plate meet: only where they should. Assumes nothing.
use Rattle.std.proofs.Common.{◌≡◌, true, ◌⊎◌, pos, ◌+ℤ◌, sym, refl, ap, ◌∙◌, subst, inl, inr, ⊎_elim, arith}
use mathlib.Core.List.{Memᴰ}
use borrow.Author.Differences.{ints}
use lib.IntN.{+ℤ_comm}
use Rattle.rules.specs.declared.Point.{Point}
use Rattle.rules.specs.declared.Edge.{Edge}
use Rattle.rules.specs.declared.Triangle.{Triangle}
use Rattle.rules.specs.declared.Vector.{Vector}
use Rattle.rules.specs.declared.Corner.{Corner}
use Rattle.rules.specs.Edges.{next, corner, edge, back, direction, across}
use Rattle.rules.specs.Parts.{middle, twice}
use Rattle.rules.specs.Plates.{Plate, Values}
use Rattle.rules.specs.Triangles.{area2, proper}
use Rattle.theory.proofs.Corners.{prev, near, mid, thrice, middle_comm, level, higher, area_above, straight_edge, not_flat}
use Rattle.theory.proofs.Facts.{Facts, edge_in}
use Rattle.theory.proofs.Halves.{Side, half}
use Rattle.theory.proofs.Insides.{outside, half_inside, doubled, across_doubled, across_link, inside_doubled, middle_inside, halved_inside, middle_outside}
use Rattle.theory.proofs.Plane.{Inside, across_middle, touch, same_ends}
use Rattle.theory.proofs.Separated.{Separated, parted_out, separated_sym}

-- ---- in one triangle: a corner is at an end of edge k, as high as it, or opposite
low_or_high : (t : Triangle) (k j : Corner) → ((across (direction (edge t k)) (corner t j) ≡ across (direction (edge t k)) (corner t k)) × ((j ≡ k) ⊎ (j ≡ next k))) ⊎ (j ≡ prev k)
low_or_high t = grind (arith, level)

-- a middle inside an edge is that edge's own
own_middle : (t : Triangle) → proper t ≡ true → (i j : Corner) → Inside (doubled (edge t i)) (mid t j) → j ≡ i
own_middle t ok i j at = grind (arith, ints, low_or_high, across_doubled, across_middle, higher)

-- the edge from middle to middle
abbrev pub link : Triangle → Corner → Corner → Edge
link t i j = record { from = mid t i; to = mid t j }

-- the one that runs along edge k, by its corners
abbrev turned_link : Triangle → Corner → Edge
turned_link t k = record { from = middle (corner t (next k)) (corner t (prev k)); to = middle (corner t (prev k)) (corner t k) }

link_turned : (t : Triangle) (k : Corner) (x : Point) → Inside (link t (next k) (prev k)) x → Inside (turned_link t k) x
link_turned t k x = subst (λ l. Inside (record { from = mid t (next k); to = middle (corner t (prev k)) (corner t l) }) x) (thrice k)

-- no corner or middle of the triangle lies inside such an edge
own_link : (t : Triangle) → proper t ≡ true → (k i j : Corner) → Inside (link t (next k) (prev k)) (middle (corner t i) (corner t j)) → ⊥
own_link t ok k i j at =
    ⊎_elim (λ li. ⊎_elim (λ lj. both_low li.0 lj.0) (λ hj. one_low i li.1 (middle_comm (corner t i) (corner t j) ∙ ap (λ l. middle (corner t l) (corner t i)) hj)) (low_or_high t k j))
    (λ hi. ⊎_elim (λ lj. one_low j lj.1 (ap (λ l. middle (corner t l) (corner t j)) hi)) (both_high hi) (low_or_high t k j)) (low_or_high t k i)
  where
    d : Vector
    d = direction (edge t k)

    x : Point
    x = middle (corner t i) (corner t j)

    at' : Inside (turned_link t k) x
    at' = link_turned t k x at

    height : across d (corner t i) +ℤ across d (corner t j) ≡ (across d (corner t k) +ℤ across d (corner t k)) +ℤ area2 t
    height =
        let on = across_link (corner t k) (corner t (next k)) (corner t (prev k)) x at' in
        let sum = across_middle d (corner t i) (corner t j) in
        let low = level t k in
        let high = higher t k in
        omega (arith, ints)

    both_low : across d (corner t i) ≡ across d (corner t k) → across d (corner t j) ≡ across d (corner t k) → ⊥
    both_low li lj = let up = area_above t ok in let here = height in omega (arith, ints)

    both_high : i ≡ prev k → j ≡ prev k → ⊥
    both_high hi hj =
        let up = area_above t ok in
        let here = height in
        let high = higher t k in
        let ei = ap (λ l. across d (corner t l)) hi in
        let ej = ap (λ l. across d (corner t l)) hj in
        omega (arith, ints)

    one_low : (l : Corner) → (l ≡ k) ⊎ (l ≡ next k) → x ≡ middle (corner t (prev k)) (corner t l) → ⊥
    one_low l low is = grind (arith, middle_comm)

-- two corners are one, or neighbours
neighbours : (i j : Corner) → (j ≡ i) ⊎ ((j ≡ next i) ⊎ (i ≡ next j))
neighbours = near (λ i j. (j ≡ i) ⊎ ((j ≡ next i) ⊎ (i ≡ next j))) (λ i. inl refl) (λ i. inr (inl refl)) (λ i. inr (inr (sym (thrice i))))

-- a sum of two corners is a corner doubled, or a middle; and values, summed in the same way, are those there
pub record SameSum (u : Values) (t : Triangle) (i j : Corner) (k l : Corner) : Type 0 where
  pub place : middle (corner t i) (corner t j) ≡ middle (corner t k) (corner t l)
  pub sum : u (corner t i) +ℤ u (corner t j) ≡ u (corner t k) +ℤ u (corner t l)

pub corner_or_middle : (u : Values) (t : Triangle) (i j : Corner) → ((l : Corner) × SameSum u t i j l l) ⊎ ((l : Corner) × SameSum u t i j l (next l))
corner_or_middle u t i j =
    ⊎_elim (λ e. inl (i, record { place = ap (λ l. middle (corner t i) (corner t l)) e; sum = ap (λ l. u (corner t i) +ℤ u (corner t l)) e }))
    (λ n. inr (⊎_elim (λ e. (i, record { place = ap (λ l. middle (corner t i) (corner t l)) e; sum = ap (λ l. u (corner t i) +ℤ u (corner t l)) e }))
    (λ e. (
      j,
      record {
        place = middle_comm (corner t i) (corner t j) ∙ ap (λ l. middle (corner t j) (corner t l)) e;
        sum = +ℤ_comm (u (corner t i)) (u (corner t j)) ∙ ap (λ l. u (corner t j) +ℤ u (corner t l)) e;
      },
    )) n)) (neighbours i j)

module _ (m : Plate) (known : Facts m) where
  abbrev pub In : Triangle → Type 0
  In t = Memᴰ t m.triangles

  ok : (t : Triangle) → In t → proper t ≡ true
  ok t n = known.is_proper t n

  one_or_separated : (s t : Triangle) → In s → In t → (s ≡ t) ⊎ Separated s t
  one_or_separated s t ns nt = grind (arith, parted_out, separated_sym)

  free : (s t : Triangle) (i j : Corner) → In s → In t → Inside (edge s i) (corner t j) → ⊥
  free s t i j ns nt = outside (edge s i) (corner t j) (known.is_clear (edge s i) t j (edge_in m.triangles s i ns) nt)

  -- no corner, doubled, is a middle
  pub no_middle : (s t : Triangle) (i j : Corner) → In s → In t → twice (corner s i) ≡ mid t j → ⊥
  no_middle s t i j ns nt e = free t s j i nt ns (half_inside (corner t j) (corner t (next j)) (corner s i) (straight_edge t (ok t nt) j) e)

  -- a middle inside an edge is its middle, that of the same edge or of its back
  pub inside_middle : (s t : Triangle) (i j : Corner) → In s → In t → Inside (doubled (edge s i)) (mid t j) → (edge t j ≡ edge s i) ⊎ (edge t j ≡ back (edge s i))
  inside_middle s t i j ns nt at = ⊎_elim own other (one_or_separated s t ns nt)
    where
      own : s ≡ t → (edge t j ≡ edge s i) ⊎ (edge t j ≡ back (edge s i))
      own e = grind (arith, own_middle)

      other : Separated s t → (edge t j ≡ edge s i) ⊎ (edge t j ≡ back (edge s i))
      other sep =
          let h = sep.sides in
          ⊎_elim (λ e. inl (λ z. record { from = e.0 z; to = e.1 z })) (λ e. inr (λ z. record { from = e.0 z; to = e.1 z }))
          (same_ends sep.way (corner s i) (corner s (next i)) (corner t j) (corner t (next j)) sep.straight (h i j) (h i (next j)) (h (next i) j) (h (next i) (next j)) at
          (free s t i j ns nt) (free s t i (next j) ns nt) (free t s j i nt ns) (free t s j (next i) nt ns))

  pub same_middle : (s t : Triangle) (i j : Corner) → In s → In t → mid s i ≡ mid t j → (edge t j ≡ edge s i) ⊎ (edge t j ≡ back (edge s i))
  same_middle s t i j ns nt e =
      inside_middle s t i j ns nt (subst (Inside (doubled (edge s i))) e (middle_inside (corner s i) (corner s (next i)) (straight_edge s (ok s ns) i)))

  middle_of : (s t : Triangle) (i j : Corner) → (edge t j ≡ edge s i) ⊎ (edge t j ≡ back (edge s i)) → mid t j ≡ mid s i
  middle_of s t i j e = grind arith

  -- ---- no corner of the finer plate lies inside an edge of it
  -- a corner or middle inside an edge is its middle
  inside_edge : (s t : Triangle) (i a b : Corner) → In s → In t → Inside (doubled (edge s i)) (middle (corner t a) (corner t b)) → middle (corner t a) (corner t b) ≡ mid s i
  inside_edge s t i a b ns nt at = ⊎_elim corners middles (corner_or_middle (λ p. pos 0) t a b)
    where
      x : Point
      x = middle (corner t a) (corner t b)

      corners : ((l : Corner) × SameSum (λ p. pos 0) t a b l l) → x ≡ mid s i
      corners c = absurd (free s t i c.0 ns nt (inside_doubled (edge s i) (corner t c.0) (subst (Inside (doubled (edge s i))) c.1.place at)))

      middles : ((l : Corner) × SameSum (λ p. pos 0) t a b l (next l)) → x ≡ mid s i
      middles c = c.1.place ∙ middle_of s t i c.0 (inside_middle s t i c.0 ns nt (subst (Inside (doubled (edge s i))) c.1.place at))

  pub half_clear : (side : Side) (s t : Triangle) (i a b : Corner) → In s → In t → Inside (half side (edge s i)) (middle (corner t a) (corner t b)) → ⊥
  half_clear side s t i a b ns nt at = middle_outside side (edge s i) _ (inside_edge s t i a b ns nt (halved_inside side (edge s i) _ at)) at

  pub link_clear : (s t : Triangle) (k a b : Corner) → In s → In t → Inside (link s (next k) (prev k)) (middle (corner t a) (corner t b)) → ⊥
  link_clear s t k a b ns nt at = ⊎_elim own other (one_or_separated s t ns nt)
    where
      own : s ≡ t → ⊥
      own e = own_link s (ok s ns) k a b (subst (λ r. Inside (link s (next k) (prev k)) (middle (corner r a) (corner r b))) (sym e) at)

      other : Separated s t → ⊥
      other sep =
          let d = sep.way in
          let x = middle (corner t a) (corner t b) in
          let sum = across_middle d (corner t a) (corner t b) in
          let one = across_middle d (corner s (next k)) (corner s (prev k)) in
          let two = across_middle d (corner s (prev k)) (corner s k) in
          let at' = link_turned s k x at in
          let kb = sep.sides k b in
          let na = sep.sides (next k) a in
          let pa = sep.sides (prev k) a in
          let pb = sep.sides (prev k) b in
          let flat = touch d _ x at' (omega (arith, ints)) (omega (arith, ints)) in
          not_flat d s k sep.straight (ok s ns) (omega (arith, ints)) (omega (arith, ints))
