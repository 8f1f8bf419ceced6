-- The table of cases: what the definitions give for plates and values that can be checked by hand. Each row is a type, with an
-- equation for each fact. Assumes nothing.
use Rattle.std.specs.Prelude.{◌≡◌, ℕ, ◌+◌, ◌-◌, ◌^◌, Bool, true, false, not, List, [], ◌∷◌, ◌++◌, map, length, ℤ, pos, neg_ℤ, filter}
use mathlib.Core.List.{flatten}
use Rattle.exact.specs.Lists.{every}
use Rattle.rules.specs.declared.Point.{Point}
use Rattle.rules.specs.Lawful.{edges, outline_edges, paired, outlined, held, one_temperature, apart, all_clear}
use Rattle.rules.specs.Numbers.{plate_of}
use Rattle.rules.specs.Plates.{Plate}
use Rattle.rules.specs.Settled.{settled, no_more, group, settled_stream, no_less}
use Rattle.rules.specs.Triangles.{proper}
use Rattle.rules.specs.Verdicts.{plate_verdict, field_verdict, stream_verdict, bounds_verdict, settle_verdict, settle_stream_verdict, finer_verdict, carry_verdict, upper_of, lower_of}
use Rattle.rules.specs.Written.{finer_numbers, carried_numbers}

-- ---- plates and values as numbers
abbrev pub minus : ℕ → ℤ
minus n = neg_ℤ (pos n)

abbrev pub at : ℕ → ℕ → Point
at x y = record { x = pos x; y = pos y }

-- the seven numbers of a triangle
abbrev pub triangle : Point → Point → Point → ℕ → List ℤ
triangle a b c k = a.x ∷ a.y ∷ b.x ∷ b.y ∷ c.x ∷ c.y ∷ pos k ∷ []

-- the seven numbers of an outline edge
abbrev pub edge_of_kind : ℕ → Point → Point → ℕ → ℕ → List ℤ
edge_of_kind kind p q g h = pos kind ∷ p.x ∷ p.y ∷ q.x ∷ q.y ∷ pos g ∷ pos h ∷ []

abbrev pub closed : Point → Point → List ℤ
closed p q = edge_of_kind 0 p q 0 0

abbrev pub held_at : Point → Point → ℕ → ℕ → List ℤ
held_at p q g h = edge_of_kind 1 p q g h

-- two counts, and the numbers of triangles and edges
abbrev pub counted : ℕ → ℕ → List (List ℤ) → List ℤ
counted n e rows = pos n ∷ pos e ∷ flatten rows

abbrev pub plate : List (List ℤ) → List (List ℤ) → List ℤ
plate triangles outline = counted (length triangles) (length outline) (triangles ++ outline)

abbrev pub three : ℕ → ℕ → ℕ → List ℤ
three a b c = map pos (a ∷ b ∷ c ∷ [])

abbrev pub four : ℕ → ℕ → ℕ → ℕ → List ℤ
four a b c d = map pos (a ∷ b ∷ c ∷ d ∷ [])

-- ---- the square of side s in two triangles with k and m, left held at g, right at 0
abbrev pub two_halves : ℕ → ℕ → ℕ → List (List ℤ)
two_halves k m s = triangle (at 0 0) (at s 0) (at s s) k ∷ triangle (at 0 0) (at s s) (at 0 s) m ∷ []

abbrev pub sides : ℕ → ℕ → List (List ℤ)
sides s g = held_at (at 0 s) (at 0 0) g g ∷ held_at (at s 0) (at s s) 0 0 ∷ closed (at 0 0) (at s 0) ∷ closed (at s s) (at 0 s) ∷ []

abbrev pub square : ℕ → ℕ → ℕ → ℕ → List ℤ
square k m s g = plate (two_halves k m s) (sides s g)

abbrev pub unit : List ℤ
unit = square 1 1 1 16

-- from g on the left to 0 on the right
abbrev pub falling : ℕ → List ℤ
falling g = four g 0 0 g

-- 0 at the bottom, n below it at the top
abbrev pub flow : ℕ → List ℤ
flow n = pos 0 ∷ pos 0 ∷ minus n ∷ minus n ∷ []

abbrev pub still : List ℤ
still = four 0 0 0 0

abbrev pub RowA : Type 0
RowA =
    (bounds_verdict unit (falling 16) (flow 16) ≡ 0) × (lower_of unit (flow 16) ≡ pos 256) × (upper_of unit (falling 16) ≡ pos 256) ×
    (settled_stream unit (flow 16) ≡ true) ×
    (bounds_verdict unit (falling 16) still ≡ 0) × (lower_of unit still ≡ pos 0) × (settled_stream unit still ≡ false)

abbrev pub RowB : Type 0
RowB =
    (upper_of (square 1 3 1 16) (falling 16) ≡ pos 512) × (lower_of (square 1 3 1 16) (flow 16) ≡ pos 341) ×
    (lower_of (square 1 3 1 16) (flow 24) ≡ pos 384) × (lower_of (square 1 3 1 16) (flow 25) ≡ pos 382) ×
    (upper_of (square 3 3 1 1) (falling 1) ≡ pos 6)

abbrev pub RowC : Type 0
RowC =
    (finer_verdict unit 114 ≡ 0) × (carry_verdict unit (falling 16) 0 9 ≡ 0) × (carry_verdict unit (flow 16) 1 9 ≡ 0) ×
    (bounds_verdict (finer_numbers unit) (carried_numbers unit (falling 16)) (carried_numbers unit (flow 16)) ≡ 0) ×
    (upper_of (finer_numbers unit) (carried_numbers unit (falling 16)) ≡ pos 1024) ×
    (lower_of (finer_numbers unit) (carried_numbers unit (flow 16)) ≡ pos 1024)

-- ---- the square of side 2 in four triangles that meet in its middle; its points are (0, 0), (2, 0), (1, 1), (2, 2) and (0, 2)
abbrev pub quarters : List (List ℤ)
quarters =
    triangle (at 0 0) (at 2 0) (at 1 1) 1 ∷ triangle (at 2 0) (at 2 2) (at 1 1) 1 ∷
    triangle (at 2 2) (at 0 2) (at 1 1) 1 ∷ triangle (at 0 2) (at 0 0) (at 1 1) 1 ∷ []

abbrev pub cross : List ℤ
cross = plate quarters (sides 2 16)

-- from 16 on the left to 0 on the right, with c in the middle
abbrev pub falling_via : ℕ → List ℤ
falling_via c = map pos (16 ∷ 0 ∷ c ∷ 0 ∷ 16 ∷ [])

abbrev pub RowD : Type 0
RowD =
    (upper_of cross (falling_via 8) ≡ pos 256) × (settled cross (falling_via 8) ≡ true) ×
    (upper_of cross (falling_via 7) ≡ pos 260) × (settled cross (falling_via 7) ≡ false) ×
    (upper_of cross (falling_via 9) ≡ pos 260) × (settled cross (falling_via 9) ≡ false) ×
    (upper_of cross (falling_via 0) ≡ pos 512)

-- ---- what is refused
abbrev pub closed_around : Point → Point → Point → List (List ℤ)
closed_around a b c = closed a b ∷ closed b c ∷ closed c a ∷ []

abbrev pub west : Point
west = record { x = minus 2; y = pos 0 }

abbrev pub south : Point
south = record { x = pos 0; y = minus 3 }

-- two triangles that touch along a part of an edge: a corner of each lies on an edge of the other
abbrev pub touching : List ℤ
touching =
    plate (triangle (at 0 0) (at 4 0) (at 0 4) 1 ∷ triangle (at 2 0) west south 1 ∷ [])
    (closed_around (at 0 0) (at 4 0) (at 0 4) ++ closed_around (at 2 0) west south)

-- both sides held, the bottom closed, the top missing
abbrev pub open_sides : List (List ℤ)
open_sides = held_at (at 0 1) (at 0 0) 16 16 ∷ held_at (at 1 0) (at 1 1) 0 0 ∷ closed (at 0 0) (at 1 0) ∷ []

abbrev pub slipping : List ℤ
slipping = pos 0 ∷ pos 1 ∷ minus 16 ∷ minus 16 ∷ []

abbrev pub RowE : Type 0
RowE =
    (plate_verdict (counted 2 4 (triangle (at 0 0) (at 1 0) (at 1 1) 1 ∷ sides 1 16)) ≡ 1) ×
    (plate_verdict (plate (triangle (at 0 0) (at 32769 0) (at 1 1) 1 ∷ triangle (at 0 0) (at 1 1) (at 0 1) 1 ∷ []) (sides 1 16)) ≡ 2) ×
    (plate_verdict (square 0 1 1 16) ≡ 3) × (plate_verdict (plate (two_halves 1 1 1) open_sides) ≡ 3) × (plate_verdict touching ≡ 3) ×
    (field_verdict unit (four 16 0 0 15) ≡ 4) × (bounds_verdict unit (four 16 0 0 15) (flow 16) ≡ 4) ×
    (stream_verdict unit slipping ≡ 5) × (bounds_verdict unit (falling 16) slipping ≡ 5)

abbrev pub RowF : Type 0
RowF = bounds_verdict (square 1 1 32768 (2 ^ 20)) (falling (2 ^ 20)) still ≡ 6

-- ---- a triangle whose corners are held at 3, 5 and 10: both temperatures of an edge count, and quotients are rounded up, not to nearest
abbrev pub held_corner : List ℤ
held_corner =
    plate (triangle (at 0 0) (at 2 0) (at 0 2) 3 ∷ [])
    (held_at (at 0 0) (at 2 0) 3 5 ∷ held_at (at 2 0) (at 0 2) 5 10 ∷ held_at (at 0 2) (at 0 0) 10 3 ∷ [])

abbrev pub Slanted : Type 0
Slanted =
    (bounds_verdict held_corner (three 3 5 10) (three 0 2 4) ≡ 0) × (upper_of held_corner (three 3 5 10) ≡ pos 81) × (lower_of held_corner (three 0 2 4) ≡ minus 10)

-- ---- each part of what is lawful, broken alone
pub data Law : Type 0 where
  Proper : Law
  Paired : Law
  Outlined : Law
  OneTemperature : Law
  Apart : Law
  Clear : Law

abbrev pub obeys : Plate → Law → Bool
obeys m Proper = every proper m.triangles
obeys m Paired = every (paired m) (edges m.triangles)
obeys m Outlined = every (outlined m) (outline_edges m)
obeys m OneTemperature = one_temperature (held m)
obeys m Apart = apart m.triangles
obeys m Clear = all_clear m.triangles

abbrev pub broken : List ℤ → List Law
broken zs = filter (λ law. not (obeys (plate_of zs) law)) (Proper ∷ Paired ∷ Outlined ∷ OneTemperature ∷ Apart ∷ Clear ∷ [])

abbrev pub BreaksOnly : List ℤ → Law → Type 0
BreaksOnly zs law = (plate_verdict zs ≡ 3) × (broken zs ≡ law ∷ [])

-- one triangle, named with the clock
abbrev pub clockwise : List ℤ
clockwise = plate (triangle (at 0 0) (at 0 1) (at 1 0) 1 ∷ []) (closed_around (at 0 0) (at 0 1) (at 1 0))

-- both sides of an edge between two triangles are in the outline
abbrev pub slit : List ℤ
slit = plate quarters (sides 2 16 ++ closed (at 0 0) (at 1 1) ∷ closed (at 1 1) (at 0 0) ∷ [])

-- the outline has the square's other diagonal, which is no triangle's edge
abbrev pub stray : List ℤ
stray = plate (two_halves 1 1 1) (sides 1 16 ++ closed (at 1 0) (at 0 1) ∷ [])

abbrev pub two_temperatures : List ℤ
two_temperatures =
    plate (two_halves 1 1 1)
    (held_at (at 0 1) (at 0 0) 16 16 ∷ held_at (at 0 0) (at 1 0) 15 0 ∷ closed (at 1 0) (at 1 1) ∷ closed (at 1 1) (at 0 1) ∷ [])

-- two triangles that overlap as a star of six points
abbrev pub star : List ℤ
star =
    plate (triangle (at 0 2) (at 6 2) (at 3 8) 1 ∷ triangle (at 3 0) (at 6 6) (at 0 6) 1 ∷ [])
    (closed_around (at 0 2) (at 6 2) (at 3 8) ++ closed_around (at 3 0) (at 6 6) (at 0 6))

-- two triangles beside a third, which has their common corner in the middle of its edge
abbrev pub hanging : List ℤ
hanging =
    plate (triangle (at 0 2) (at 4 2) (at 0 6) 1 ∷ triangle (at 0 2) (at 2 0) (at 2 2) 1 ∷ triangle (at 2 2) (at 2 0) (at 4 2) 1 ∷ [])
    (closed_around (at 0 2) (at 4 2) (at 0 6) ++ closed (at 0 2) (at 2 0) ∷ closed (at 2 0) (at 4 2) ∷ closed (at 4 2) (at 2 2) ∷ closed (at 2 2) (at 0 2) ∷ [])

abbrev pub LawsAlone : Type 0
LawsAlone =
    (broken unit ≡ []) × BreaksOnly clockwise Proper × BreaksOnly slit Paired × BreaksOnly stray Outlined × BreaksOnly two_temperatures OneTemperature ×
    BreaksOnly star Apart × BreaksOnly hanging Clear × BreaksOnly touching Clear

-- ---- the limits of plates and of values, from both sides
abbrev pub with_outline : List (List ℤ) → List ℤ
with_outline outline = plate (two_halves 1 1 1) outline

abbrev pub PlateLimits : Type 0
PlateLimits =
    (plate_verdict [] ≡ 1) × (plate_verdict (counted 0 4 (sides 1 16)) ≡ 1) × (plate_verdict (unit ++ pos 0 ∷ []) ≡ 1) ×
    (plate_verdict (with_outline (edge_of_kind 2 (at 0 1) (at 0 0) 16 16 ∷ [])) ≡ 1) × (plate_verdict (with_outline ((minus 1 ∷ map pos (0 ∷ 1 ∷ 0 ∷ 0 ∷ 0 ∷ 0 ∷ [])) ∷ [])) ≡ 1) ×
    (plate_verdict (square 1 1 32768 16) ≡ 0) × (plate_verdict (square 1 1 32769 16) ≡ 2) ×
    (plate_verdict (with_outline (closed (at 32769 0) (at 0 0) ∷ [])) ≡ 2) × (plate_verdict (with_outline (held_at (at 0 0) (at 0 32769) 0 0 ∷ [])) ≡ 2) ×
    (plate_verdict (square 1 4095 1 16) ≡ 0) × (plate_verdict (square 1 4096 1 16) ≡ 2) × (plate_verdict (square 1 1 1 (2 ^ 20)) ≡ 0) ×
    (plate_verdict (with_outline (held_at (at 0 1) (at 0 0) (2 ^ 20 + 1) 0 ∷ [])) ≡ 2) × (plate_verdict (with_outline (held_at (at 0 1) (at 0 0) 0 (2 ^ 20 + 1) ∷ [])) ≡ 2) ×
    -- the last two numbers of a closed edge are free
    (plate_verdict (with_outline (open_sides ++ edge_of_kind 0 (at 1 1) (at 0 1) (2 ^ 40) 1 ∷ [])) ≡ 0)

-- a triangle of half a unit, and values that are nought but at its tip
abbrev pub thin : (Point → Point → Point → List (List ℤ)) → ℕ → List ℤ
thin outline k = plate (triangle (at 0 0) (at 32768 1) (at 32767 1) k ∷ []) (outline (at 0 0) (at 32768 1) (at 32767 1))

abbrev pub cold : Point → Point → Point → List (List ℤ)
cold a b c = held_at a b 0 0 ∷ held_at b c 0 0 ∷ held_at c a 0 0 ∷ []

abbrev pub tip : ℕ → List ℤ
tip n = three 0 0 n

-- a thinner one, whose drags add up when it is made finer
abbrev pub sliver : List ℤ
sliver = plate (triangle (at 0 0) (at 8192 1) (at 8191 1) 1 ∷ []) (cold (at 0 0) (at 8192 1) (at 8191 1))

abbrev pub finer_twice : List ℤ → List ℤ
finer_twice zs = finer_numbers (finer_numbers zs)

abbrev pub carried_twice : List ℤ → List ℤ → List ℤ
carried_twice zs us = carried_numbers (finer_numbers zs) (carried_numbers zs us)

abbrev pub ValueLimits : Type 0
ValueLimits =
    (field_verdict unit (three 16 0 0) ≡ 4) × (field_verdict unit (falling 16 ++ pos 0 ∷ []) ≡ 4) ×
    (field_verdict cross (falling_via (2 ^ 20)) ≡ 0) × (field_verdict cross (falling_via (2 ^ 20 + 1)) ≡ 4) ×
    (stream_verdict unit (three 0 0 0) ≡ 5) × (stream_verdict unit (still ++ pos 0 ∷ []) ≡ 5) ×
    (stream_verdict unit (flow (2 ^ 20)) ≡ 0) × (stream_verdict unit (flow (2 ^ 20 + 1)) ≡ 5) ×
    -- a turned gradient of 2^30
    (settle_verdict (square 1 1 32768 (2 ^ 15)) (falling (2 ^ 15)) ≡ 6) × (settle_verdict (square 1 1 32768 (2 ^ 15 - 1)) (falling (2 ^ 15 - 1)) ≡ 0) ×
    (settle_stream_verdict (square 1 1 32768 0) (flow (2 ^ 15)) ≡ 6) × (settle_stream_verdict (square 1 1 32768 0) (flow (2 ^ 15 - 1)) ≡ 0) ×
    (bounds_verdict (square 1 1 32768 0) still (flow (2 ^ 15)) ≡ 6) ×
    -- an upper number just below 2^62 and one above, where nothing is too steep; the drag of the same values is far below
    (settle_verdict (thin closed_around 31) (tip (2 ^ 14)) ≡ 0) × (settle_verdict (thin closed_around 32) (tip (2 ^ 14)) ≡ 6) ×
    (settle_stream_verdict (thin cold 32) (tip (2 ^ 14)) ≡ 0) ×
    -- a sum of rounded drags just below 2^62 and one above
    (settle_stream_verdict (finer_twice sliver) (carried_twice sliver (tip 92681)) ≡ 0) × (settle_stream_verdict (finer_twice sliver) (carried_twice sliver (tip 92682)) ≡ 6)

-- ---- finer plates and carried values
abbrev pub wedge : List ℤ
wedge =
    plate (triangle (at 0 0) (at 4 0) (at 1 3) 5 ∷ [])
    (held_at (at 0 0) (at 4 0) 2 9 ∷ edge_of_kind 0 (at 4 0) (at 1 3) 7 7 ∷ closed (at 1 3) (at 0 0) ∷ [])

abbrev pub finer_wedge : List ℤ
finer_wedge =
    plate
    (triangle (at 0 0) (at 4 0) (at 1 3) 5 ∷ triangle (at 4 0) (at 8 0) (at 5 3) 5 ∷
    triangle (at 1 3) (at 5 3) (at 2 6) 5 ∷ triangle (at 4 0) (at 5 3) (at 1 3) 5 ∷ [])
    (held_at (at 0 0) (at 4 0) 4 11 ∷ held_at (at 4 0) (at 8 0) 11 18 ∷ closed (at 8 0) (at 5 3) ∷ closed (at 5 3) (at 2 6) ∷
    closed (at 2 6) (at 1 3) ∷ closed (at 1 3) (at 0 0) ∷ [])

abbrev pub FinerAndCarried : Type 0
FinerAndCarried =
    (finer_numbers wedge ≡ finer_wedge) × (plate_verdict finer_wedge ≡ 0) ×
    (carried_numbers wedge (three 2 9 5) ≡ map pos (4 ∷ 11 ∷ 7 ∷ 18 ∷ 14 ∷ 10 ∷ [])) ×
    -- a place that isn't just as long as it has to be
    (finer_verdict unit 113 ≡ 7) × (finer_verdict unit 115 ≡ 7) × (carry_verdict unit (falling 16) 0 8 ≡ 7) × (carry_verdict unit (flow 16) 1 10 ≡ 7) ×
    -- a kind that isn't 0 or 1, before all else
    (carry_verdict unit (falling 16) 2 9 ≡ 1) × (carry_verdict (square 1 4096 1 16) (falling 16) 2 9 ≡ 1) ×
    -- values that are no field, or no stream
    (carry_verdict unit still 0 9 ≡ 4) × (carry_verdict unit (falling 16) 1 9 ≡ 5) ×
    -- a finer plate within the limits, and beyond
    (finer_verdict (square 1 1 (2 ^ 14) 16) 114 ≡ 0) × (finer_verdict (square 1 1 (2 ^ 14 + 1) 16) 114 ≡ 2) × (finer_verdict (square 1 1 (2 ^ 14 + 1) 16) 113 ≡ 7) ×
    (finer_verdict (square 1 1 1 (2 ^ 19)) 114 ≡ 0) × (finer_verdict (square 1 1 1 (2 ^ 19 + 1)) 114 ≡ 2) ×
    -- carried values within the limits, and beyond
    (carry_verdict (square 1 1 1 (2 ^ 19)) (falling (2 ^ 19)) 0 9 ≡ 0) × (carry_verdict (square 1 1 1 (2 ^ 19 + 1)) (falling (2 ^ 19 + 1)) 0 9 ≡ 4) ×
    (carry_verdict unit (flow (2 ^ 19)) 1 9 ≡ 0) × (carry_verdict unit (flow (2 ^ 19 + 1)) 1 9 ≡ 5) × (carry_verdict unit (flow (2 ^ 19 + 1)) 1 8 ≡ 7)

-- ---- settling
-- a triangle whose first edge is held at g and h
abbrev pub one_held : Point → Point → Point → ℕ → ℕ → List ℤ
one_held a b c g h = plate (triangle a b c 1 ∷ []) (held_at a b g h ∷ closed b c ∷ closed c a ∷ [])

-- c lies behind a, seen from b: the best value there is 10 above that at a
abbrev pub behind : ℕ → List ℤ
behind g = one_held (at 1 0) (at 2 0) (at 0 1) g (g - 10)

-- one more at c makes one coordinate of the turned gradient larger, the other one smaller by more
abbrev pub steep : List ℤ
steep = one_held (at 0 2) (at 1 0) (at 2048 2050) (2 ^ 19 - 1) 0

abbrev pub SettledFields : Type 0
SettledFields =
    -- no value goes beyond 2^20, and no turned gradient to 2^30, though the upper number would get smaller
    (settled (behind (2 ^ 20)) (three (2 ^ 20) (2 ^ 20 - 10) (2 ^ 20)) ≡ true) ×
    (settled (behind (2 ^ 20 - 1)) (three (2 ^ 20 - 1) (2 ^ 20 - 11) (2 ^ 20 - 1)) ≡ false) ×
    (settled steep (three (2 ^ 19 - 1) 0 (2 ^ 19 + 2046)) ≡ true) × (settled steep (three (2 ^ 19 - 1) 0 (2 ^ 19 + 2045)) ≡ false) ×
    -- a change that leaves the number as it is betters nothing
    (settled (plate quarters (sides 2 1)) (map pos (1 ∷ 0 ∷ 0 ∷ 0 ∷ 1 ∷ [])) ≡ true) ×
    (settled (plate quarters (sides 2 1)) (map pos (1 ∷ 0 ∷ 1 ∷ 0 ∷ 1 ∷ [])) ≡ true) ×
    (no_more cross (falling_via 7) (falling_via 8) ≡ true) × (no_more cross (falling_via 8) (falling_via 7) ≡ false) × (no_more cross (falling_via 8) (falling_via 8) ≡ true)

-- closed on three sides, each of them named before the one that joins it to (0, 0)
abbrev pub pocket : List ℤ
pocket = plate quarters (closed (at 2 2) (at 0 2) ∷ closed (at 2 0) (at 2 2) ∷ closed (at 0 0) (at 2 0) ∷ held_at (at 0 2) (at 0 0) 16 16 ∷ [])

-- 0 at the bottom, 16 below it at the top, n below it in the middle
abbrev pub flow_via : ℕ → List ℤ
flow_via n = pos 0 ∷ pos 0 ∷ minus n ∷ minus 16 ∷ minus 16 ∷ []

-- n above 0 at the bottom, n below 0 at the top
abbrev pub spread : ℕ → List ℤ
spread n = pos n ∷ pos n ∷ minus n ∷ minus n ∷ []

abbrev pub SettledStreams : Type 0
SettledStreams =
    (group (plate_of unit) (at 1 1) ≡ at 1 1 ∷ at 0 1 ∷ []) × (group (plate_of pocket) (at 0 0) ≡ at 0 0 ∷ at 2 0 ∷ at 2 2 ∷ at 0 2 ∷ []) ×
    (group (plate_of pocket) (at 1 1) ≡ at 1 1 ∷ []) ×
    (settled_stream unit (flow 15) ≡ false) × (settled_stream unit (flow 17) ≡ false) ×
    -- a point that no closed edge joins to another is changed alone
    (settled_stream cross (flow_via 8) ≡ true) × (settled_stream cross (flow_via 7) ≡ false) × (settled_stream cross (flow_via 9) ≡ false) ×
    -- no value goes beyond 2^20, and no turned gradient to 2^30, though the lower number would get larger
    (settled_stream (square 4095 4095 1 1024) (spread (2 ^ 20)) ≡ true) × (settled_stream (square 4095 4095 1 1024) (spread (2 ^ 20 - 1)) ≡ false) ×
    (settled_stream (square 4095 4095 1024 1024) (flow (2 ^ 20 - 1)) ≡ true) × (settled_stream (square 4095 4095 1024 1024) (flow (2 ^ 20 - 2)) ≡ false) ×
    -- a change that leaves the number as it is betters nothing
    (settled_stream (square 3 3 1 1) (flow 2) ≡ true) × (lower_of (square 3 3 1 1) (flow 2) ≡ pos 2) × (lower_of (square 3 3 1 1) (flow 3) ≡ pos 2) ×
    (no_less unit still (flow 16) ≡ true) × (no_less unit (flow 16) still ≡ false) × (no_less unit (flow 16) (flow 16) ≡ true)

-- ---- of two refusals that apply, the first one in the order of the rules
abbrev pub FirstRefusals : Type 0
FirstRefusals =
    (settle_verdict (square 0 1 1 16) still ≡ 3) × (settle_stream_verdict (square 0 1 1 16) still ≡ 3) ×
    (settle_verdict (square 1 1 32768 0) (falling (2 ^ 15)) ≡ 4) × (settle_stream_verdict (square 1 1 32768 0) (four 0 0 (2 ^ 15) 0) ≡ 5) ×
    (bounds_verdict (square 0 1 1 16) still (tip 1) ≡ 3) × (bounds_verdict unit still (tip 1) ≡ 4) × (bounds_verdict (square 1 1 32768 0) still (four 0 0 (2 ^ 15) 0) ≡ 5) ×
    (finer_verdict (square 0 1 1 16) 113 ≡ 3) × (carry_verdict (square 0 1 1 16) still 1 8 ≡ 3) × (carry_verdict unit still 0 8 ≡ 4)

-- THE TABLE
pub record TableHolds : Type 0 where
  pub a : RowA
  pub b : RowB
  pub c : RowC
  pub d : RowD
  pub e : RowE
  pub f : RowF
  pub slanted : Slanted
  pub laws_alone : LawsAlone
  pub plate_limits : PlateLimits
  pub value_limits : ValueLimits
  pub finer_and_carried : FinerAndCarried
  pub settled_fields : SettledFields
  pub settled_streams : SettledStreams
  pub first_refusals : FirstRefusals
