use Rattle.std.proofs.Common.{◌∙◌, rules, tests}
use Rattle.std.proofs.lemmas.Iterator.{YieldsList-from_slice}
use Rattle.std.proofs.lemmas.Iterator.Search.{any_from_yields_List}
use Rattle.exact.proofs.Lists.{any_map}
use Rattle.rules.specs.Lawful.{one_side}
use Rattle.meeting.proofs.apart.one_parts.Goals as goal

pub returns : goal.returns
returns c =
    let parts = one_side c.args.s.now.value c.args.t.now.value in
    let ds = c.args.ds.now in
    any_from_yields_List (λ d. parts d.value) _ _ c.any.result c.any.ensures.ran (YieldsList-from_slice ds cc) (λ x b q k. search (rules, tests))
    ∙ any_map parts (λ d. d.value) ds
