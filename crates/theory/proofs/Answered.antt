-- Plates and values as rows of numbers: what the calls answer is what the promises speak of. Assumes nothing.
use Rattle.std.proofs.Common.{◌≡◌, ℕ, ◌+◌, ◌<◌, Bool, true, eqb, ltb, List, [], length, ℤ, pos, sym, refl, ap, ◌∙◌, ⊎_elim, arith}
use mathlib.Core.List.Memᴰ
use mathlib.Core.List.{flat_map, Memᴰ}
use lib.ListN.{length-map}
use Rattle.std.proofs.lemmas.Bool.{and_from, cases_Bool, cond-true, cond-false}
use Rattle.exact.proofs.Members.{member_flat_map}
use Rattle.rules.specs.declared.Point.{Point}
use Rattle.rules.specs.declared.Triangle.{Triangle}
use Rattle.rules.specs.Bounds.{upper, lower}
use Rattle.rules.specs.Calls.{AnswersBracket, FinerTaken, CarriedTaken, CarriedFourTimes}
use Rattle.rules.specs.declared.Corner.{Corner}
use Rattle.rules.specs.declared.Corner.TheVariants.{A, B, C}
use Rattle.rules.specs.Edges.{corner}
use Rattle.rules.specs.Energy.{is_field, is_stream}
use Rattle.rules.specs.Finer.{finer, finest, Carried, carried, parts}
use Rattle.rules.specs.Lawful.{lawful}
use Rattle.rules.specs.Limits.{all_marked}
use Rattle.rules.specs.Numbers.{plate_of}
use Rattle.rules.specs.Parts.{Part, at_a, at_b, at_c, between, middle, twice, part}
use Rattle.rules.specs.Plates.{Plate, Values, points_of, values_of}
use Rattle.rules.specs.Verdicts.{◌unless◌, ◌or_else◌, plate_verdict, field_verdict, stream_verdict, bounds_verdict, finer_verdict, carry_verdict, values_verdict, fills, gives, all_near}
use Rattle.rules.specs.Written.{finer_numbers, carried_numbers}
use Rattle.theory.proofs.Carried.{fields_carried, streams_carried, printed_carried}
use Rattle.theory.proofs.Carries.{carried_there}
use Rattle.theory.proofs.Corners.{mid}
use Rattle.theory.proofs.Finenesses.{bracketed}
use Rattle.theory.proofs.FinerLawful.{finer_lawful}
use Rattle.theory.proofs.Meetings.{corner_or_middle}
use Rattle.theory.proofs.Points.{found, corner_listed}
use Rattle.theory.proofs.ReadBack.{read_as_written, all_marked_lem}

-- ---- a verdict of 0
passed : (n : ℕ) (test : Bool) → 0 < n → n unless test ≡ 0 → test ≡ true
passed n test above h = grind arith

both_passed : (a b : ℕ) → a or_else b ≡ 0 → (a ≡ 0) × (b ≡ 0)
both_passed a b h = grind arith

both_pass : (a b : ℕ) → a ≡ 0 → b ≡ 0 → a or_else b ≡ 0
both_pass a b h k = grind arith

passes : (n : ℕ) (test : Bool) → test ≡ true → n unless test ≡ 0
passes n test h = grind arith

plate_passed : (zs : List ℤ) → plate_verdict zs ≡ 0 → lawful (plate_of zs) ≡ true
unfolding plate_verdict
plate_passed zs h = grind arith

-- the verdict on values that are to pass a test
judged : (n : ℕ) (test : Values → Plate → Bool) → List ℤ → List ℤ → ℕ
judged n test zs us = plate_verdict zs or_else n unless gives test (plate_of zs) us

judged_passed : (n : ℕ) (test : Values → Plate → Bool) → 0 < n → (zs us : List ℤ) → judged n test zs us ≡ 0 → (plate_verdict zs ≡ 0) × (test (values_of (plate_of zs) us) (plate_of zs) ≡ true)
unfolding judged gives
judged_passed n test above zs us h = grind arith

-- ---- the two numbers
pub answers_bracket : AnswersBracket
unfolding bounds_verdict field_verdict judged finest
answers_bracket zs us ss h =
    let m = plate_of zs in
    let first = both_passed (field_verdict zs us) _ h in
    let field = judged_passed 4 is_field (omega arith) zs us first.0 in
    let stream = judged_passed 5 is_stream (omega arith) zs ss (both_pass (plate_verdict zs) _ field.0 (both_passed (5 unless gives is_stream m ss) _ first.1).0) in
    bracketed m (plate_passed zs field.0) 0 (values_of m us) (values_of m ss) field.1 stream.1

-- ---- carried values, written in the order of the finer plate's points, are carried
-- each of them is a corner of one of the parts
corner_of_part : (t : Triangle) (l : Corner) → (p : Part) × Memᴰ (part p t) (parts t) × (twice (corner t l) ≡ corner (part p t) l)
corner_of_part t A = (at_a, Memᴰ.head refl, refl)
corner_of_part t B = (at_b, Memᴰ.tail (Memᴰ.head refl), refl)
corner_of_part t C = (at_c, Memᴰ.tail (Memᴰ.tail (Memᴰ.head refl)), refl)

middle_of_part : (t : Triangle) (l : Corner) → (p : Part) × Memᴰ (part p t) (parts t) × (mid t l ≡ corner (part p t) l)
middle_of_part t l = (between, Memᴰ.tail (Memᴰ.tail (Memᴰ.tail (Memᴰ.head refl))), same l)
  where
    same : (l : Corner) → mid t l ≡ corner (part between t) l
    same l = grind arith

middle_listed : (m : Plate) (t : Triangle) → Memᴰ t m.triangles → (i j : Corner) → Memᴰ (middle (corner t i) (corner t j)) (points_of (finer m).triangles)
unfolding finer
middle_listed m t n i j =
    ⊎_elim (λ c. listed c.0 c.1.place (corner_of_part t c.0)) (λ c. listed c.0 c.1.place (middle_of_part t c.0)) (corner_or_middle (λ p. pos 0) t i j)
  where
    listed : {x : Point} (l : Corner) → middle (corner t i) (corner t j) ≡ x → (p : Part) × Memᴰ (part p t) (parts t) × (x ≡ corner (part p t) l) →
        Memᴰ (middle (corner t i) (corner t j)) (points_of (flat_map parts m.triangles))
    listed l e at =
        Memᴰ.cast (e ∙ at.2) (corner_listed [] (flat_map parts m.triangles) (part at.0 t) l (member_flat_map parts m.triangles t (part at.0 t) n at.1))

pub carried_written : (zs us : List ℤ) → lawful (plate_of zs) ≡ true → Carried (values_of (plate_of zs) us) (values_of (finer (plate_of zs)) (carried_numbers zs us)) (plate_of zs)
unfolding carried_numbers
carried_written zs us ok = record {
  sums = λ t n i j.
      let m = plate_of zs in
      let u = values_of m us in
      found (points_of (finer m).triangles) (carried u m) (middle (corner t i) (corner t j)) (middle_listed m t n i j) ∙ (carried_there m ok u).sums t n i j;
}

-- ---- the finer plate's numbers are read as the finer plate
finer_read : (zs : List ℤ) → plate_of (finer_numbers zs) ≡ finer (plate_of zs)
unfolding finer_numbers
finer_read zs = read_as_written (finer (plate_of zs))

pub carried_four_times : CarriedFourTimes
carried_four_times zs us h =
    let m = plate_of zs in
    let ok = plate_passed zs h in
    let u = values_of m us in
    let cs = carried_numbers zs us in
    let four = printed_carried m ok u (values_of (finer m) cs) (carried_written zs us ok) in
    (ap (λ n. pos (upper (values_of n cs) n.triangles)) (finer_read zs) ∙ ap pos four.0, ap (λ n. lower (values_of n cs) n) (finer_read zs) ∙ four.3)

marked_written : (zs : List ℤ) → all_marked (finer_numbers zs) ≡ true
unfolding finer_numbers
marked_written zs = all_marked_lem (finer (plate_of zs))

pub finer_taken : FinerTaken
unfolding finer_verdict plate_verdict
finer_taken zs room h = grind (arith, both_passed, marked_written, finer_read, finer_lawful)

carried_fill : (zs us : List ℤ) → all_near (carried_numbers zs us) ≡ true → fills (plate_of (finer_numbers zs)) (carried_numbers zs us) ≡ true
unfolding fills carried_numbers
carried_fill zs us near = grind (arith, length-map, finer_read)

-- what is carried from values that pass a test, and passes it there, is not refused there
judged_there : (n : ℕ) (test : Values → Plate → Bool) (zs us : List ℤ) → 0 < n →
    ((m : Plate) → lawful m ≡ true → (u v : Values) → Carried u v m → test u m ≡ true → test v (finer m) ≡ true) →
    plate_verdict (finer_numbers zs) ≡ 0 → all_near (carried_numbers zs us) ≡ true → judged n test zs us ≡ 0 → judged n test (finer_numbers zs) (carried_numbers zs us) ≡ 0
unfolding judged gives
judged_there n test zs us above carry plate near h =
    let ns = finer_numbers zs in
    let cs = carried_numbers zs us in
    let before = judged_passed n test above zs us h in
    let ok = plate_passed zs before.0 in
    let after : test (values_of (plate_of ns) cs) (plate_of ns) ≡ true =
    ap (λ m. test (values_of m cs) m) (finer_read zs) ∙ carry (plate_of zs) ok (values_of (plate_of zs) us) _ (carried_written zs us ok) before.1 in
    both_pass (plate_verdict ns) _ plate (passes n (gives test (plate_of ns) cs) (and_from (fills (plate_of ns) cs) _ (carried_fill zs us near) after))

pub carried_taken : CarriedTaken
unfolding carry_verdict field_verdict stream_verdict judged
carried_taken zs us kind room room' finer-given h =
    let cs = carried_numbers zs us in
    let plate = finer_taken zs room finer-given in
    let first = both_passed (1 unless ltb kind 2) _ h in
    let second = both_passed (values_verdict kind zs us) _ first.1 in
    let near = passed (4 + kind) (all_near cs) (omega arith) (both_passed (7 unless eqb room' (length cs)) _ second.1).1 in
    let field = judged_there 4 is_field zs us (omega arith) (λ m ok u v carried is. (fields_carried m ok u v carried is).0) plate near in
    let stream = judged_there 5 is_stream zs us (omega arith) (λ m ok u v carried is. (streams_carried m ok u v carried is).0) plate near in
    ⊎_elim (λ t. cond-true (eqb kind 0) _ _ t ∙ field (sym (cond-true (eqb kind 0) (field_verdict zs us) (stream_verdict zs us) t) ∙ second.0))
    (λ f. cond-false (eqb kind 0) _ _ f ∙ stream (sym (cond-false (eqb kind 0) (field_verdict zs us) (stream_verdict zs us) f) ∙ second.0)) (cases_Bool (eqb kind 0))
