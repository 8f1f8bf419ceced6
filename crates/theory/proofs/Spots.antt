-- Spots: points at any scale, how high they lie above the edges of a triangle, and mixes of them. Assumes nothing.
use Rattle.std.proofs.Common.{◌≡◌, true, List, [], ◌∷◌, ℤ, pos, ◌+ℤ◌, ◌-ℤ◌, ◌*ℤ◌, ◌≤ℤ◌, ◌<ℤ◌, sym, ap, ◌∙◌, subst, arith}
use borrow.Author.Differences.{ints}
use Rattle.exact.proofs.Mixes.{mix_above}
use Rattle.exact.proofs.Ring.{Expr, var, con, ◌⊕◌, ◌⊗◌, ◌⊝◌, solve}
use Rattle.rules.specs.declared.Point.{Point}
use Rattle.rules.specs.declared.Triangle.{Triangle}
use Rattle.rules.specs.declared.Vector.{Vector}
use Rattle.rules.specs.declared.Corner.{Corner}
use Rattle.rules.specs.Edges.{next, corner, edge, direction, vector, across}
use Rattle.rules.specs.Triangles.{area2, proper}
use Rattle.theory.proofs.Corners.{Area, prev, level, higher, none_below}
use Rattle.theory.proofs.Parted.{rise, Rise}
use Rattle.theory.proofs.Plane.{Pair, pair, Across, To}
use Rattle.theory.proofs.Threes.{sum, sum_from}

-- a point, and how many times as fine its coordinates are
pub record Spot : Type 0 where
  pub n : ℤ
  pub at : Point

abbrev pub spot : Point → Spot
spot p = record { n = pos 1; at = p }

abbrev pub mix : ℤ → Spot → ℤ → Spot → Spot
mix a h b k = record { n = (a *ℤ h.n) +ℤ (b *ℤ k.n); at = record { x = (a *ℤ h.at.x) +ℤ (b *ℤ k.at.x); y = (a *ℤ h.at.y) +ℤ (b *ℤ k.at.y) } }

abbrev pub height : Triangle → Corner → Spot → ℤ
height t i h = rise t i h.n h.at

pub height_mix : (t : Triangle) (i : Corner) (a b : ℤ) (h k : Spot) → height t i (mix a h b k) ≡ (a *ℤ height t i h) +ℤ (b *ℤ height t i k)
unfolding rise across
height_mix t i a b h k =
    let p = corner t i in
    let q = corner t (next i) in
    let up : Expr → Pair → Expr = λ n z. Rise n z (pair 0 1) (pair 2 3) in
    let H = pair 4 5 in let K = pair 6 7 in let a' = var 10 in let b' = var 11 in
    solve (p.x ∷ p.y ∷ q.x ∷ q.y ∷ h.at.x ∷ h.at.y ∷ k.at.x ∷ k.at.y ∷ h.n ∷ k.n ∷ a ∷ b ∷ [])
    (up ((a' ⊗ var 8) ⊕ (b' ⊗ var 9)) (record { x = (a' ⊗ H.x) ⊕ (b' ⊗ K.x); y = (a' ⊗ H.y) ⊕ (b' ⊗ K.y) })) ((a' ⊗ up (var 8) H) ⊕ (b' ⊗ up (var 9) K)) tt

pub height_sum : (t : Triangle) (h : Spot) → sum (λ i. height t i h) ≡ h.n *ℤ area2 t
unfolding rise across area2
height_sum t h =
    let P = pair 0 1 in let Q = pair 2 3 in let R = pair 4 5 in
    let up : Pair → Pair → Expr = Rise (var 8) (pair 6 7) in
    solve (t.a.x ∷ t.a.y ∷ t.b.x ∷ t.b.y ∷ t.c.x ∷ t.c.y ∷ h.at.x ∷ h.at.y ∷ h.n ∷ [])
    (up P Q ⊕ (up Q R ⊕ up R P)) (var 8 ⊗ Area P Q R) tt

-- ---- heights of a triangle's own corners
at_start : (t : Triangle) (i : Corner) → height t i (spot (corner t i)) ≡ pos 0
unfolding rise
at_start t i = omega (arith, ints)

at_end : (t : Triangle) (i : Corner) → height t i (spot (corner t (next i))) ≡ pos 0
unfolding rise
at_end t i = let e = level t i in omega (arith, ints)

pub at_top : (t : Triangle) (i : Corner) → height t i (spot (corner t (prev i))) ≡ area2 t
unfolding rise
at_top t i = let e = higher t i in omega (arith, ints)

pub own_height : (t : Triangle) → proper t ≡ true → (i j : Corner) → pos 0 ≤ℤ height t i (spot (corner t j))
unfolding rise
own_height t ok i j = let e = none_below t ok i j in omega (arith, ints)

-- ---- in a triangle or on its border
pub record Within (t : Triangle) (h : Spot) : Type 0 where
  pub above : pos 0 <ℤ h.n
  pub least : (i : Corner) → pos 0 ≤ℤ height t i h

pub corner_within : (t : Triangle) → proper t ≡ true → (j : Corner) → Within t (spot (corner t j))
corner_within t ok j = record { above = omega (arith, ints); least = λ i. own_height t ok i j }

pub mix_within : (t : Triangle) (a b : ℤ) (h k : Spot) → pos 0 ≤ℤ a → pos 0 ≤ℤ b → pos 0 <ℤ (a +ℤ b) → Within t h → Within t k → Within t (mix a h b k)
mix_within t a b h k ha hb some wh wk = grind (arith, mix_above, height_mix)

pub mixed_height : (t : Triangle) (i : Corner) (a b : ℤ) (h k : Spot) → pos 0 <ℤ ((a *ℤ height t i h) +ℤ (b *ℤ height t i k)) → pos 0 <ℤ height t i (mix a h b k)
mixed_height t i a b h k = subst (λ z. pos 0 <ℤ z) (sym (height_mix t i a b h k))

-- the sum of the corners lies above each edge by the area
abbrev pub centre : Triangle → Spot
centre t = mix (pos 1) (spot t.a) (pos 1) (mix (pos 1) (spot t.b) (pos 1) (spot t.c))

pub centre_height : (t : Triangle) (i : Corner) → height t i (centre t) ≡ area2 t
centre_height t i =
    let later = mix (pos 1) (spot t.b) (pos 1) (spot t.c) in
    let two = height_mix t i (pos 1) (pos 1) (spot t.b) (spot t.c) in
    let all = height_mix t i (pos 1) (pos 1) (spot t.a) later in
    let turned = sum_from (λ j. height t i (spot (corner t j))) i in
    let start = at_start t i in
    let end = at_end t i in
    let top = at_top t i in
    omega (arith, ints)

-- ---- heights above two edges of s are coordinates: of a way from a to b, and of a point z seen from it
module _ (d e : Vector) (c c' : ℤ) (a b z : Point) where
  abbrev f : Point → ℤ
  f p = across d p -ℤ (pos 1 *ℤ c)

  abbrev g : Point → ℤ
  g p = across e p -ℤ (pos 1 *ℤ c')

  abbrev F : Pair → Expr
  F p = Across (pair 0 1) p ⊝ (con (pos 1) ⊗ var 4)

  abbrev G : Pair → Expr
  G p = Across (pair 2 3) p ⊝ (con (pos 1) ⊗ var 5)

  abbrev P : Pair
  P = pair 6 7

  abbrev Q : Pair
  Q = pair 8 9

  abbrev Z : Pair
  Z = pair 10 11

  abbrev numbers : List ℤ
  numbers = d.x ∷ d.y ∷ e.x ∷ e.y ∷ c ∷ c' ∷ a.x ∷ a.y ∷ b.x ∷ b.y ∷ z.x ∷ z.y ∷ []

  abbrev Seen : Expr
  Seen = ((var 0 ⊗ var 3) ⊝ (var 1 ⊗ var 2)) ⊗ Rise (con (pos 1)) Z P Q

  turn_is : ((d.x *ℤ e.y) -ℤ (d.y *ℤ e.x)) *ℤ (across (vector a b) z -ℤ (pos 1 *ℤ across (vector a b) a)) ≡ ((f b -ℤ f a) *ℤ (g z -ℤ g a)) -ℤ ((g b -ℤ g a) *ℤ (f z -ℤ f a))
  unfolding across
  turn_is = solve numbers Seen (((F Q ⊝ F P) ⊗ (G Z ⊝ G P)) ⊝ ((G Q ⊝ G P) ⊗ (F Z ⊝ F P))) tt

-- the two edges that meet at a corner span the area
way_across : (d : Vector) (p q : Point) → (d.x *ℤ (q.y -ℤ p.y)) -ℤ (d.y *ℤ (q.x -ℤ p.x)) ≡ across d q -ℤ across d p
unfolding across
way_across d p q =
    let D = pair 0 1 in let P = pair 2 3 in let Q = pair 4 5 in
    solve (d.x ∷ d.y ∷ p.x ∷ p.y ∷ q.x ∷ q.y ∷ []) (Across D (To P Q)) (Across D Q ⊝ Across D P) tt

corner_area : (s : Triangle) (i : Corner) → let d = direction (edge s i) in let e = direction (edge s (next i)) in (d.x *ℤ e.y) -ℤ (d.y *ℤ e.x) ≡ area2 s
corner_area s i =
    let d = direction (edge s i) in
    let q = corner s (next i) in
    let r = corner s (prev i) in
    let span = way_across d q r in
    let low = level s i in
    let high = higher s i in
    omega (arith, ints)

-- how high z lies above an edge of t, by heights above two edges of s
pub seen : (s t : Triangle) (i j : Corner) (z : Point) → let f : Point → ℤ = λ p. height s i (spot p) in let g : Point → ℤ = λ p. height s (next i) (spot p) in
    let a = corner t j in let b = corner t (next j) in
    area2 s *ℤ height t j (spot z) ≡ ((f b -ℤ f a) *ℤ (g z -ℤ g a)) -ℤ ((g b -ℤ g a) *ℤ (f z -ℤ f a))
unfolding rise
seen s t i j z =
    let d = direction (edge s i) in
    let e = direction (edge s (next i)) in
    sym (ap (λ n. n *ℤ height t j (spot z)) (corner_area s i)) ∙ turn_is d e (across d (corner s i)) (across e (corner s (next i))) (corner t j) (corner t (next j)) z
