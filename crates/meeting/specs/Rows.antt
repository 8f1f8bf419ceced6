-- The corners and edges of a row of triangles by one number: corner c of triangle i, and the edge that begins there, have the number
-- 3 i + c. Assumes nothing.
use Rattle.std.specs.Prelude.{ℕ, zero, suc, ◌/◌, ◌%◌}
use Rattle.rules.specs.declared.Edge.{Edge}
use Rattle.rules.specs.declared.Point.{Point}
use Rattle.rules.specs.declared.Triangle.{Triangle}
use Rattle.rules.specs.declared.Corner.{Corner}
use Rattle.rules.specs.declared.Corner.TheVariants.{A, B, C}
use Rattle.rules.specs.Edges.{corner, edge}

abbrev pub which : ℕ → Corner
which zero = A
which (suc zero) = B
which (suc (suc n)) = C

unfoldable pub corner_at : (ℕ → Triangle) → ℕ → Point
corner_at f n = corner (f (n / 3)) (which (n % 3))

unfoldable pub edge_at : (ℕ → Triangle) → ℕ → Edge
edge_at f n = edge (f (n / 3)) (which (n % 3))
