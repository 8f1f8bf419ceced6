-- Settled fields and streams: no admitted change by one betters them. Assumes nothing.
use Rattle.std.specs.Prelude.{Bool, cond, not, ◌&&◌, ◌||◌, List, [], ◌∷◌, ℤ, pos, negsuc, ◌+ℤ◌, fold, int_le, nat_le}
use Rattle.exact.specs.Lists.{every}
use Rattle.rules.specs.declared.Point.{Point}
use Rattle.rules.specs.declared.OutlineEdge.{OutlineEdge}
use Rattle.rules.specs.declared.OutlineEdge.TheVariants.{Closed, Held}
use Rattle.rules.specs.Bounds.{upper, lower}
use Rattle.rules.specs.Energy.{is_field, is_stream}
use Rattle.rules.specs.Limits.{near_value}
use Rattle.rules.specs.Numbers.{plate_of}
use Rattle.rules.specs.Plates.{Plate, Values, same_point, among, noted, points_of, values_of}
use Rattle.rules.specs.Verdicts.{upper_of, lower_of}
use Rattle.rules.specs.Within.{upper_within, drag_within}

-- up and down by one
abbrev pub ones : List ℤ
ones = pos 1 ∷ negsuc 0 ∷ []

-- ---- fields: one point is changed
abbrev pub changed : Values → Point → ℤ → Values
changed u p d q = cond (same_point p q) (u q +ℤ d) (u q)

-- v, which differs only at p from a field within the limits, is one too
unfoldable pub admitted : Plate → Point → Values → Bool
admitted m p v = is_field v m && (near_value (v p) && upper_within v m)

-- changed at p by d, u isn't admitted or no better
unfoldable pub resists : Plate → Values → Point → ℤ → Bool
resists m u p d = let v = changed u p d in not (admitted m p v) || nat_le (upper u m.triangles) (upper v m.triangles)

-- of a field that is not refused: no admitted change betters it
unfoldable pub settled : List ℤ → List ℤ → Bool
settled zs us = let m = plate_of zs in every (λ p. every (resists m (values_of m us) p) ones) (points_of m.triangles)

-- the upper number of vs is not larger than that of us
abbrev pub no_more : List ℤ → List ℤ → List ℤ → Bool
no_more zs us vs = int_le (upper_of zs vs) (upper_of zs us)

-- ---- streams: points that closed edges join are changed together
-- the points ps, and both ends of a closed edge that has one end among them
unfoldable pub joined : List Point → OutlineEdge → List Point
joined ps (Closed e) = cond (among e.from ps || among e.to ps) (noted (noted ps e.from) e.to) ps
joined ps (Held e g h) = ps

-- p and all points that closed edges join to it, found by going along the outline once for each of its edges
unfoldable pub group : Plate → Point → List Point
group m p = fold (λ ps e. fold joined ps m.outline) (p ∷ []) m.outline

abbrev pub changed_all : Values → List Point → ℤ → Values
changed_all s ps d q = cond (among q ps) (s q +ℤ d) (s q)

unfoldable pub admitted_stream : Plate → Point → Values → Bool
admitted_stream m p v = is_stream v m && (near_value (v p) && drag_within v m)

unfoldable pub resists_stream : Plate → Values → Point → ℤ → Bool
resists_stream m s p d = let v = changed_all s (group m p) d in not (admitted_stream m p v) || int_le (lower v m) (lower s m)

-- of a stream that is not refused: no admitted change of a group betters it
unfoldable pub settled_stream : List ℤ → List ℤ → Bool
settled_stream zs ss = let m = plate_of zs in every (λ p. every (resists_stream m (values_of m ss) p) ones) (points_of m.triangles)

-- the lower number of vs is not smaller than that of ss
abbrev pub no_less : List ℤ → List ℤ → List ℤ → Bool
no_less zs ss vs = int_le (lower_of zs ss) (lower_of zs vs)
