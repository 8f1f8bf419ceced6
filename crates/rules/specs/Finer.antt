-- Finer plates: each triangle into four and each outline edge into two, by the middles of the edges; coordinates, temperatures and
-- values are doubled, so that they stay whole. Assumes nothing.
use Rattle.std.specs.Prelude.{◌≡◌, ℕ, zero, suc, cond, List, [], ◌∷◌, ℤ, pos, ◌+ℤ◌}
use mathlib.Core.List.{flat_map, Memᴰ}
use Rattle.rules.specs.declared.Point.{Point}
use Rattle.rules.specs.declared.Edge.{Edge}
use Rattle.rules.specs.declared.Triangle.{Triangle}
use Rattle.rules.specs.declared.OutlineEdge.{OutlineEdge}
use Rattle.rules.specs.declared.OutlineEdge.TheVariants.{Closed, Held}
use Rattle.rules.specs.declared.Corner.{Corner}
use Rattle.rules.specs.declared.Corner.TheVariants.{A, B, C}
use Rattle.rules.specs.Edges.{corner}
use Rattle.rules.specs.Parts.{middle, twice, at_a, at_b, at_c, between, part}
use Rattle.rules.specs.Plates.{Plate, PointValue, Values, same_point}

abbrev pub parts : Triangle → List Triangle
parts t = part at_a t ∷ part at_b t ∷ part at_c t ∷ part between t ∷ []

-- the first and the second half of an edge
abbrev pub half1 : Edge → Edge
half1 e = record { from = twice e.from; to = middle e.from e.to }

abbrev pub half2 : Edge → Edge
half2 e = record { from = middle e.from e.to; to = twice e.to }

abbrev pub halves : OutlineEdge → List OutlineEdge
halves (Closed e) = Closed (half1 e) ∷ Closed (half2 e) ∷ []
halves (Held e g h) = Held (half1 e) (g +ℤ g) (g +ℤ h) ∷ Held (half2 e) (g +ℤ h) (h +ℤ h) ∷ []

unfoldable pub finer : Plate → Plate
finer m = record { triangles = flat_map parts m.triangles; outline = flat_map halves m.outline }

-- n times finer
unfoldable pub finest : ℕ → Plate → Plate
finest zero m = m
finest (suc n) m = finest n (finer m)

-- v is u carried to the finer plate of m: at the middle of two corners of a triangle the sum, so at a corner itself the double
pub record Carried (u v : Values) (m : Plate) : Type 0 where
  pub sums : (t : Triangle) → Memᴰ t m.triangles → (i j : Corner) → v (middle (corner t i) (corner t j)) ≡ u (corner t i) +ℤ u (corner t j)

-- ---- one way to carry: each point has the sum of the first triangle that names it, corners before middles
abbrev pub sum_at : Values → Triangle → Corner → Corner → PointValue
sum_at u t i j = record { at = middle (corner t i) (corner t j); value = u (corner t i) +ℤ u (corner t j) }

abbrev pub sums_in : Values → Triangle → List PointValue
sums_in u t = sum_at u t A A ∷ sum_at u t B B ∷ sum_at u t C C ∷ sum_at u t A B ∷ sum_at u t B C ∷ sum_at u t C A ∷ []

-- the value of the first that is at q, and nought where none is
abbrev pub first_at : List PointValue → Point → ℤ
first_at [] q = pos 0
first_at (p ∷ ps) q = cond (same_point q p.at) p.value (first_at ps q)

unfoldable pub carried : Values → Plate → Values
carried u m q = first_at (flat_map (sums_in u) m.triangles) q
