-- Plates written as numbers, and the finer plate and the values carried to it as numbers. Assumes nothing.
use Rattle.std.specs.Prelude.{List, [], ◌∷◌, ◌++◌, map, length, ℤ, pos}
use mathlib.Core.List.{flat_map}
use Rattle.rules.specs.declared.Triangle.{Triangle}
use Rattle.rules.specs.declared.OutlineEdge.{OutlineEdge}
use Rattle.rules.specs.declared.OutlineEdge.TheVariants.{Closed, Held}
use Rattle.rules.specs.Finer.{finer, carried}
use Rattle.rules.specs.Numbers.{plate_of}
use Rattle.rules.specs.Plates.{Plate, points_of, values_of}

abbrev pub written_triangle : Triangle → List ℤ
written_triangle t = t.a.x ∷ t.a.y ∷ t.b.x ∷ t.b.y ∷ t.c.x ∷ t.c.y ∷ pos t.k ∷ []

-- a closed edge has 0 0 for its temperatures
abbrev pub written_edge : OutlineEdge → List ℤ
written_edge (Closed e) = pos 0 ∷ e.from.x ∷ e.from.y ∷ e.to.x ∷ e.to.y ∷ pos 0 ∷ pos 0 ∷ []
written_edge (Held e g h) = pos 1 ∷ e.from.x ∷ e.from.y ∷ e.to.x ∷ e.to.y ∷ g ∷ h ∷ []

unfoldable pub written : Plate → List ℤ
written m =
    pos (length m.triangles) ∷ pos (length m.outline) ∷
    (flat_map written_triangle m.triangles ++ flat_map written_edge m.outline)

unfoldable pub finer_numbers : List ℤ → List ℤ
finer_numbers zs = written (finer (plate_of zs))

-- the values us carried, in the order of the finer plate's points
unfoldable pub carried_numbers : List ℤ → List ℤ → List ℤ
carried_numbers zs us = let m = plate_of zs in map (carried (values_of m us) m) (points_of (finer m).triangles)
