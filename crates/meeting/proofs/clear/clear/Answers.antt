use Rattle.std.proofs.Common.{not, ◌∙◌, rules, tests}
use Rattle.std.proofs.lemmas.Iterator.{YieldsList-from_slice}
use Rattle.std.proofs.lemmas.Iterator.Search.{all_from_yields_List}
use Rattle.exact.proofs.Lists.{every_through}
use Rattle.rules.specs.Edges.{inside}
use Rattle.rules.specs.Lawful.{clear}
use Rattle.meeting.proofs.clear.clear.Goals as goal

pub returns : goal.returns
unfolding clear
returns c =
    let e = c.args.e.now.value in
    let rs = c.corners.result in
    all_from_yields_List (λ r. not (inside e r.value)) _ _ c.all.result c.all.ensures.ran (YieldsList-from_slice rs cc) (λ x b q k. search (rules, tests))
    ∙ every_through (λ r. not (inside e r)) (λ r. r.value) rs c.corners.ensures
