use Rattle.std.proofs.Common.{◌^◌, ◌≤◌, length, map, nat_abs, ap, refl, ◌∙◌, arith, lit<, rules, to_z, w64}
use Rattle.std.proofs.lemmas.List.FromFn.{length-map-range_with_len}
use native.Mathlib.Nat.{sub-zero}
use Rattle.std.specs.List.{range_with_len}
use Rattle.exact.specs.Lists.{listed_from}
use Rattle.exact.proofs.Machine.{operand, sum}
use Rattle.rules.specs.Numbers.{outline_at, outline_of, outline_count}
use Rattle.energy.proofs.Works.{begun, room, one_more}
use Rattle.energy.proofs.values.OnPlate.work.Goals as goal

pub loop-b-init : goal.loop-b-init
loop-b-init g c =
    let plate = c.args.self.now.plate in
    let zs = plate.numbers.now in
    let count = length-map-range_with_len (outline_at zs) 0 (outline_count zs) in
    let few : length (outline_of zs) ≤ 65536 = omega (arith, count, plate.few, plate.edges_counted) in
    let parts = c.parts-b-items.ensures in
    begun (g.V.Values.value c.args.self.now.values)
    (ap (λ it. listed_from (outline_at it.plate.numbers.now) (outline_count it.plate.numbers.now) it.places.start) c.into_iter-b-iterator.ensures.into_iter_gives
    ∙ (λ i. listed_from (outline_at (parts.plate i)) (outline_count (parts.plate i)) (parts.all i)) ∙ ap (λ n. map (outline_at zs) (range_with_len 0 n)) (sub-zero (outline_count zs))) few

pub loop-b-preserved : goal.loop-b-preserved
loop-b-preserved g c =
    let left = room c.loop-b.invariant c.in-Some.ensures.steps in
    let size : nat_abs (to_z w64 c.loop-b.sum-bits) ≤ 2 ^ 58 = omega arith in
    let z = c.in_ok-sum.ensures in
    let next = (sum (record { is = refl; size = size }) (operand c.in_ok-sum.field-0 (2 ^ 42) (search rules) z.2) (lit< tt)).read.is in
    one_more c.loop-b.invariant c.in-Some.ensures.steps c.in_ok-sum.field-0 _ next z.0 z.1 z.2
