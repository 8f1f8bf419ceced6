-- The sizes up to which a plate and values are taken. Assumes nothing.
use Rattle.std.specs.Prelude.{ℕ, ◌+◌, ◌*◌, ◌^◌, Bool, true, ◌&&◌, List, length, ℤ, pos, ◌==◌, int_le, nat_le, nat_lt, unsigned_abs}
use Rattle.exact.specs.Lists.{every}
use Rattle.std.specs.List.{range_with_len}
use Rattle.rules.specs.declared.Point.{Point}
use Rattle.rules.specs.declared.Edge.{Edge}
use Rattle.rules.specs.declared.Triangle.{Triangle}
use Rattle.rules.specs.declared.Corners.{Corners}
use Rattle.rules.specs.declared.Vector.{Vector}
use Rattle.rules.specs.declared.OutlineEdge.{OutlineEdge}
use Rattle.rules.specs.declared.OutlineEdge.TheVariants.{Closed, Held}
use Rattle.rules.specs.Plates.{Plate, Values}
use Rattle.rules.specs.Numbers.{number_at, triangle_count, outline_count, outline_start}
use Rattle.rules.specs.Triangles.{proper, turned}

-- at most b from nought
abbrev pub near : ℕ → ℤ → Bool
near b z = nat_le (unsigned_abs z) b

-- a value, or a temperature
abbrev pub near_value : ℤ → Bool
near_value z = near (2 ^ 20) z

-- below 2^62, where sums of quotients end
abbrev pub below_cap : ℕ → Bool
below_cap n = nat_lt n (2 ^ 62)

abbrev pub near_point : Point → Bool
near_point p = near 32768 p.x && near 32768 p.y

-- a triangle whose coordinates and conductivity are within the limits
unfoldable pub modest : Triangle → Bool
modest t = (near_point t.a && near_point t.b) && (near_point t.c && nat_lt t.k 4096)

abbrev pub near_edge : Edge → Bool
near_edge e = near_point e.from && near_point e.to

-- an outline edge whose coordinates and, where it is held, temperatures are within the limits
unfoldable pub mild : OutlineEdge → Bool
mild (Closed e) = near_edge e
mild (Held e g h) = near_edge e && (near_value g && near_value h)

unfoldable pub modest_plate : Plate → Bool
modest_plate m = every modest m.triangles && every mild m.outline

-- as many numbers as the two counts need, from 1 to 65,536 triangles and up to 65,536 outline edges
abbrev pub counts : List ℤ → Bool
counts zs =
    (nat_le 2 (length zs) && (int_le (pos 1) (number_at zs 0) && int_le (number_at zs 0) (pos 65536))) && ((int_le (pos 0) (number_at zs 1) && int_le (number_at zs 1) (pos 65536)) &&
    (length zs == 2 + 7 * (triangle_count zs + outline_count zs)))

-- outline edge i is marked 0, closed, or 1, held
unfoldable pub marked : List ℤ → ℕ → Bool
marked zs i = let kind = number_at zs (outline_start zs i) in int_le (pos 0) kind && int_le kind (pos 1)

abbrev pub all_marked : List ℤ → Bool
all_marked zs = every (marked zs) (range_with_len 0 (outline_count zs))

abbrev pub near_corners : Corners → Bool
near_corners u = near_value u.a && (near_value u.b && near_value u.c)

-- as far as a point within the limits can be from another, in each coordinate
abbrev pub short : Vector → Bool
short d = near (2 ^ 16) d.x && near (2 ^ 16) d.y

-- not too steep: what is squared stays below 2^30
abbrev pub gentle : Vector → Bool
gentle v = nat_lt (unsigned_abs v.x) (2 ^ 30) && nat_lt (unsigned_abs v.y) (2 ^ 30)

-- a triangle and values at its corners of which the numbers are computed: within the limits, proper, and not too steep
unfoldable pub in_reach : Triangle → Corners → Bool
in_reach t u = (modest t && near_corners u) && (proper t && gentle (turned t u))

-- an outline edge and values of which the work is computed: the temperatures and the values at the ends of a held edge are within the limits
unfoldable pub in_reach_along : Values → OutlineEdge → Bool
in_reach_along s (Closed e) = true
in_reach_along s (Held e g h) = (near_value g && near_value h) && (near_value (s e.from) && near_value (s e.to))
