use Rattle.exact.specs.Lists.{every, sum_z, listed_from}
use Rattle.rules.specs.Bounds.{work_along}
use Rattle.rules.specs.Limits.{in_reach_along}
use Rattle.rules.specs.Numbers.{outline_count, outline_at, outline_of}
use Rattle.energy.proofs.Works.{Turn}
use Rattle.energy.proofs.values.OnPlate.work.Given as goal

abbrev pub invariant-loop-b : goal.invariant-loop-b
invariant-loop-b g l =
    let bs = outline_of l.self.plate.numbers.now in
    let s = g.V.Values.value l.self.values in
    Turn s (every (in_reach_along s) bs) (sum_z (work_along s) bs) l.sum (listed_from (outline_at l.b-iterator.plate.numbers.now) (outline_count l.b-iterator.plate.numbers.now) l.b-iterator.places.start)
