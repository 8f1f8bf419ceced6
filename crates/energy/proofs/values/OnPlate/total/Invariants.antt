use Rattle.std.proofs.Common.{ℕ, sum_by}
use Rattle.exact.specs.Lists.{listed_from}
use Rattle.rules.specs.declared.Triangle.{Triangle}
use Rattle.rules.specs.Bounds.{all_in_reach}
use Rattle.rules.specs.Limits.{in_reach}
use Rattle.rules.specs.Numbers.{triangle_count, triangle_at, triangles_of}
use Rattle.rules.specs.Plates.{corners_of}
use Rattle.triangle.specs.Terms.{term_of}
use Rattle.energy.proofs.Totals.{Turn}
use Rattle.energy.proofs.values.OnPlate.total.Given as goal

abbrev pub invariant-loop-t : goal.invariant-loop-t
invariant-loop-t g l =
    let ts = triangles_of l.self.plate.numbers.now in
    let u = g.V.Values.value l.self.values in
    let f : Triangle → ℕ = λ t. term_of l.kind t (corners_of u t) in
    Turn (λ t. in_reach t (corners_of u t)) f (all_in_reach u ts) (sum_by f ts) l.sum (listed_from (triangle_at l.t-iterator.plate.numbers.now) (triangle_count l.t-iterator.plate.numbers.now) l.t-iterator.places.start)
