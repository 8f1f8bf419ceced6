-- A plate as a row of numbers: how many triangles, how many outline edges; then seven numbers for each triangle, the corners'
-- coordinates and k; then seven for each outline edge, 0 closed or 1 held, the ends' coordinates and the two temperatures. Assumes nothing.
use Rattle.std.specs.Prelude.{ℕ, ◌+◌, ◌*◌, cond, List, map, ℤ, pos, negsuc, ◌==◌, slice_index_or}
use Rattle.std.specs.List.{range_with_len}
use Rattle.rules.specs.declared.Point.{Point}
use Rattle.rules.specs.declared.Edge.{Edge}
use Rattle.rules.specs.declared.Triangle.{Triangle}
use Rattle.rules.specs.declared.OutlineEdge.{OutlineEdge}
use Rattle.rules.specs.declared.OutlineEdge.TheVariants.{Closed, Held}
use Rattle.rules.specs.Plates.{Plate}

abbrev pub number_at : List ℤ → ℕ → ℤ
number_at zs i = slice_index_or zs i (pos 0)

-- the number, or 0 where it is negative: so a triangle with a negative k is not proper
abbrev pub natural : ℤ → ℕ
natural (pos n) = n
natural (negsuc n) = 0

abbrev pub triangle_count : List ℤ → ℕ
triangle_count zs = natural (number_at zs 0)

abbrev pub outline_count : List ℤ → ℕ
outline_count zs = natural (number_at zs 1)

-- where triangle i begins, and outline edge i
abbrev pub triangle_start : ℕ → ℕ
triangle_start i = 2 + 7 * i

abbrev pub outline_start : List ℤ → ℕ → ℕ
outline_start zs i = triangle_start (triangle_count zs + i)

unfoldable pub point_at : List ℤ → ℕ → Point
point_at zs i = record { x = number_at zs i; y = number_at zs (i + 1) }

unfoldable pub triangle_at : List ℤ → ℕ → Triangle
triangle_at zs i =
    let at = triangle_start i in
    record { a = point_at zs at; b = point_at zs (at + 2); c = point_at zs (at + 4); k = natural (number_at zs (at + 6)) }

unfoldable pub outline_at : List ℤ → ℕ → OutlineEdge
outline_at zs i =
    let at = outline_start zs i in
    let edge : Edge = record { from = point_at zs (at + 1); to = point_at zs (at + 3) } in
    cond (natural (number_at zs at) == 1) (Held edge (number_at zs (at + 5)) (number_at zs (at + 6))) (Closed edge)

abbrev pub triangles_of : List ℤ → List Triangle
triangles_of zs = map (triangle_at zs) (range_with_len 0 (triangle_count zs))

abbrev pub outline_of : List ℤ → List OutlineEdge
outline_of zs = map (outline_at zs) (range_with_len 0 (outline_count zs))

abbrev pub plate_of : List ℤ → Plate
plate_of zs = record { triangles = triangles_of zs; outline = outline_of zs }
