-- What is promised of plates and values as rows of numbers, as the calls have them. Assumes nothing.
use Rattle.std.specs.Prelude.{◌≡◌, ℕ, List, ℤ, pos, ◌*ℤ◌}
use Rattle.rules.specs.Numbers.{plate_of}
use Rattle.rules.specs.Plates.{Plate}
use Rattle.rules.specs.Promises.{Brackets}
use Rattle.rules.specs.Verdicts.{plate_verdict, bounds_verdict, finer_verdict, values_verdict, carry_verdict, upper_of, lower_of}
use Rattle.rules.specs.Written.{written, finer_numbers, carried_numbers}

-- a plate is read as it was written
abbrev pub ReadAsWritten : Type 0
ReadAsWritten = (m : Plate) → plate_of (written m) ≡ m

-- THE TWO NUMBERS BRACKET the heat that goes through the plate, where plate, field and stream are not refused
abbrev pub AnswersBracket : Type 0
AnswersBracket = (zs us ss : List ℤ) → bounds_verdict zs us ss ≡ 0 → Brackets (plate_of zs) (lower_of zs ss) (upper_of zs us)

-- a finer plate that is not refused is lawful and within the limits of a plate
abbrev pub FinerTaken : Type 0
FinerTaken = (zs : List ℤ) (room : ℕ) → finer_verdict zs room ≡ 0 → plate_verdict (finer_numbers zs) ≡ 0

-- values carried to it that are not refused are a field, or a stream, there
abbrev pub CarriedTaken : Type 0
CarriedTaken =
    (zs us : List ℤ) (kind room room' : ℕ) → finer_verdict zs room ≡ 0 → carry_verdict zs us kind room' ≡ 0 → values_verdict kind (finer_numbers zs) (carried_numbers zs us) ≡ 0

-- whose numbers are exactly four times as large
abbrev pub CarriedFourTimes : Type 0
CarriedFourTimes =
    (zs us : List ℤ) → plate_verdict zs ≡ 0 →
    (upper_of (finer_numbers zs) (carried_numbers zs us) ≡ pos 4 *ℤ upper_of zs us) × (lower_of (finer_numbers zs) (carried_numbers zs us) ≡ pos 4 *ℤ lower_of zs us)
