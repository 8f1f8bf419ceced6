-- What each call answers: 0, or the number of the first refusal that applies; and the two numbers of plates and values in rows. Assumes nothing.
use Rattle.std.specs.Prelude.{ℕ, ◌+◌, Bool, cond, ◌&&◌, List, length, ℤ, pos, ◌==◌, nat_eq, nat_lt}
use Rattle.exact.specs.Lists.{every}
use Rattle.rules.specs.Bounds.{upper, lower}
use Rattle.rules.specs.Energy.{is_field, is_stream}
use Rattle.rules.specs.Finer.{finer}
use Rattle.rules.specs.Lawful.{lawful}
use Rattle.rules.specs.Limits.{near_value, counts, all_marked, modest_plate}
use Rattle.rules.specs.Numbers.{plate_of}
use Rattle.rules.specs.Plates.{Plate, Values, points_of, values_of}
use Rattle.rules.specs.Within.{upper_within, drag_within}
use Rattle.rules.specs.Written.{finer_numbers, carried_numbers}

-- the refusal n, and 0 where the test passes
infix 22 ◌unless◌
abbrev pub ◌unless◌ : ℕ → Bool → ℕ
n unless test = cond test 0 n

-- a verdict, and the next one where it is 0
infixr 21 ◌or_else◌
abbrev pub ◌or_else◌ : ℕ → ℕ → ℕ
verdict or_else next = cond (verdict == 0) next verdict

-- ---- a plate
unfoldable pub plate_verdict : List ℤ → ℕ
plate_verdict zs =
    1 unless counts zs && all_marked zs or_else
    2 unless modest_plate (plate_of zs) or_else
    3 unless lawful (plate_of zs)

-- ---- values
abbrev pub all_near : List ℤ → Bool
all_near zs = every near_value zs

-- a number for each point of the plate, none of them too large
unfoldable pub fills : Plate → List ℤ → Bool
fills m zs = length zs == length (points_of m.triangles) && all_near zs

-- and they pass a test of values on the plate: of being a field, or a stream
unfoldable pub gives : (Values → Plate → Bool) → Plate → List ℤ → Bool
gives test m us = fills m us && test (values_of m us) m

unfoldable pub field_verdict : List ℤ → List ℤ → ℕ
field_verdict zs us = plate_verdict zs or_else 4 unless gives is_field (plate_of zs) us

unfoldable pub stream_verdict : List ℤ → List ℤ → ℕ
stream_verdict zs ss = plate_verdict zs or_else 5 unless gives is_stream (plate_of zs) ss

-- ---- the two numbers
abbrev pub upper_of : List ℤ → List ℤ → ℤ
upper_of zs us = let m = plate_of zs in pos (upper (values_of m us) m.triangles)

abbrev pub lower_of : List ℤ → List ℤ → ℤ
lower_of zs ss = let m = plate_of zs in lower (values_of m ss) m

unfoldable pub bounds_verdict : List ℤ → List ℤ → List ℤ → ℕ
bounds_verdict zs us ss =
    let m = plate_of zs in
    field_verdict zs us or_else
    5 unless gives is_stream m ss or_else
    6 unless upper_within (values_of m us) m && drag_within (values_of m ss) m

-- ---- settling
unfoldable pub settle_verdict : List ℤ → List ℤ → ℕ
settle_verdict zs us = let m = plate_of zs in field_verdict zs us or_else 6 unless upper_within (values_of m us) m

unfoldable pub settle_stream_verdict : List ℤ → List ℤ → ℕ
settle_stream_verdict zs ss = let m = plate_of zs in stream_verdict zs ss or_else 6 unless drag_within (values_of m ss) m

-- ---- the finer plate, in a place of so many numbers
unfoldable pub finer_verdict : List ℤ → ℕ → ℕ
finer_verdict zs room =
    plate_verdict zs or_else
    7 unless nat_eq room (length (finer_numbers zs)) or_else
    1 unless counts (finer_numbers zs) or_else
    2 unless modest_plate (finer (plate_of zs))

-- ---- values carried to it, those of a field where the kind is 0 and of a stream where it is 1
abbrev pub values_verdict : ℕ → List ℤ → List ℤ → ℕ
values_verdict kind zs us = cond (kind == 0) (field_verdict zs us) (stream_verdict zs us)

-- what is carried is a field or a stream again, so that only its size is in question
unfoldable pub carry_verdict : List ℤ → List ℤ → ℕ → ℕ → ℕ
carry_verdict zs us kind room =
    1 unless nat_lt kind 2 or_else
    values_verdict kind zs us or_else
    7 unless nat_eq room (length (carried_numbers zs us)) or_else
    (4 + kind) unless all_near (carried_numbers zs us)
