-- Plates, the points of a plate, and values at its points. Assumes nothing.
use Rattle.std.specs.Prelude.{ℕ, Bool, cond, not, ◌&&◌, List, [], ◌∷◌, ◌++◌, length, ℤ, pos, fold, nat_lt, slice_index_or}
use Rattle.std.specs.List.{prefix_len}
use Rattle.std.specs.Ordering.{int_eq}
use Rattle.rules.specs.declared.Point.{Point}
use Rattle.rules.specs.declared.Triangle.{Triangle}
use Rattle.rules.specs.declared.OutlineEdge.{OutlineEdge}
use Rattle.rules.specs.declared.Corners.{Corners}

pub record Plate : Type 0 where
  pub triangles : List Triangle
  pub outline : List OutlineEdge

abbrev pub same : ℤ → ℤ → Bool
same = int_eq

-- at one place
abbrev pub same_point : Point → Point → Bool
same_point p q = same p.x q.x && same p.y q.y

-- a number at a point
pub record PointValue : Type 0 where
  pub at : Point
  pub value : ℤ

-- how many points come before the first that is p: all of them, where none is
abbrev pub place_of : Point → List Point → ℕ
place_of p ps = prefix_len (λ q. not (same_point p q)) ps

-- p is one of the points ps
abbrev pub among : Point → List Point → Bool
among p ps = nat_lt (place_of p ps) (length ps)

-- p behind the points ps, unless it is one of them
unfoldable pub noted : List Point → Point → List Point
noted ps p = cond (among p ps) ps (ps ++ p ∷ [])

abbrev pub corners_noted : List Point → Triangle → List Point
corners_noted ps t = noted (noted (noted ps t.a) t.b) t.c

-- the points of a plate, in the order in which its triangles first name them
abbrev pub points_of : List Triangle → List Point
points_of ts = fold corners_noted [] ts

-- a number at each point, drawn linearly over each triangle
abbrev pub Values : Type 0
Values = Point → ℤ

-- the numbers zs in the order of the points ps: at p the number at its place, and nought where there is none
abbrev pub values_at : List Point → List ℤ → Values
values_at ps zs p = slice_index_or zs (place_of p ps) (pos 0)

-- the numbers zs in the order of the plate's points
abbrev pub values_of : Plate → List ℤ → Values
values_of m zs = values_at (points_of m.triangles) zs

abbrev pub corners_of : Values → Triangle → Corners
corners_of u t = record { a = u t.a; b = u t.b; c = u t.c }
