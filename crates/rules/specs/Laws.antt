-- What is promised of one triangle, and of values in a row. Each is a type; a proof of it is the theorem. Assumes nothing.
use Rattle.std.specs.Prelude.{◌≡◌, ℕ, ◌<◌, true, false, ◌&&◌, List, length, ℤ, pos, ◌+ℤ◌, ◌-ℤ◌, ◌*ℤ◌, int_le, slice_index_or}
use mathlib.Core.List.{Memᴰ}
use Rattle.exact.specs.Fractions.{whole, ◌+F◌, ◌≤F◌}
use Rattle.rules.specs.declared.Point.{Point}
use Rattle.rules.specs.declared.Triangle.{Triangle}
use Rattle.rules.specs.declared.Corners.{Corners}
use Rattle.rules.specs.Bounds.{upper_in, up_drag_in}
use Rattle.rules.specs.declared.Corner.{Corner}
use Rattle.rules.specs.Edges.{corner}
use Rattle.rules.specs.Plates.{Plate, same, same_point, among, points_of, values_at, values_of}
use Rattle.rules.specs.Triangles.{area2, proper, turned, norm, spent_in, drag_in, around}
use Rattle.rules.specs.Parts.{Part, part, carried_to}

-- two numbers are the same just where each is at most the other
abbrev pub SameBothWays : Type 0
SameBothWays = (y z : ℤ) → same y z ≡ (int_le y z && int_le z y)

abbrev pub square : ℤ → ℤ
square z = z *ℤ z

-- the two turned gradients span twice the area times the exchange around the triangle
abbrev pub Cross : Type 0
Cross =
    (t : Triangle) (u s : Corners) → ((turned t u).x *ℤ (turned t s).y) -ℤ ((turned t u).y *ℤ (turned t s).x) ≡ area2 t *ℤ around u s

-- a sum of two squares is 2dk times what is spent and dragged less the exchange, d being twice the area
abbrev pub Squares : Type 0
Squares =
    (t : Triangle) (u s : Corners) → let k = pos t.k in
    square ((k *ℤ (turned t u).x) -ℤ (turned t s).y) +ℤ square ((k *ℤ (turned t u).y) +ℤ (turned t s).x) ≡
    ((square k *ℤ pos (norm (turned t u))) +ℤ pos (norm (turned t s))) -ℤ (pos 2 *ℤ (k *ℤ (area2 t *ℤ around u s)))

-- THE LAW OF ONE TRIANGLE: no field spends less there than its exchange with any stream, less the stream's drag
abbrev pub LocalLaw : Type 0
LocalLaw = (t : Triangle) → proper t ≡ true → (u s : Corners) → whole (around u s) ≤F (spent_in t u +F drag_in t s)

-- each part of a triangle has, for carried values, the triangle's own turned gradient and area
abbrev pub PartsAlike : Type 0
PartsAlike =
    (p : Part) (t : Triangle) (u : Corners) → (turned (part p t) (carried_to p u) ≡ turned t u) × (area2 (part p t) ≡ area2 t)

-- rounded up, what is spent and what is dragged in a triangle are at least themselves: the upper number errs upwards, the lower one downwards
abbrev pub RoundedUp : Type 0
RoundedUp =
    (t : Triangle) → proper t ≡ true → (u : Corners) → (spent_in t u ≤F whole (pos (upper_in t u))) × (drag_in t u ≤F whole (pos (up_drag_in t u)))

-- at a listed point that is no earlier one, the value is the number at its place
abbrev pub ValuesListed : Type 0
ValuesListed =
    (ps : List Point) (zs : List ℤ) (i : ℕ) (d : Point) → i < length ps → ((j : ℕ) → j < i → same_point (slice_index_or ps i d) (slice_index_or ps j d) ≡ false) →
    values_at ps zs (slice_index_or ps i d) ≡ slice_index_or zs i (pos 0)

-- the points of a plate are no two the same, so the values of a row of numbers are these numbers, at the points in their order
abbrev pub PointsListed : Type 0
PointsListed =
    (m : Plate) (zs : List ℤ) (i : ℕ) (d : Point) → let ps = points_of m.triangles in i < length ps → values_of m zs (slice_index_or ps i d) ≡ slice_index_or zs i (pos 0)

-- and these points are just the corners of its triangles
abbrev pub PointsAreCorners : Type 0
PointsAreCorners =
    (m : Plate) → ((p : Point) → among p (points_of m.triangles) ≡ true → (t : Triangle) × (i : Corner) × Memᴰ t m.triangles × (p ≡ corner t i)) ×
    ((t : Triangle) (i : Corner) → Memᴰ t m.triangles → among (corner t i) (points_of m.triangles) ≡ true)
