use Rattle.std.proofs.Common.{◌∙◌, rules, tests}
use Rattle.std.proofs.lemmas.Iterator.{YieldsList-from_slice}
use Rattle.std.proofs.lemmas.Iterator.Search.{all_from_yields_List}
use Rattle.exact.proofs.Lists.{every_through}
use Rattle.rules.specs.Lawful.{clear}
use Rattle.meeting.specs.Meeting.{clear_of}
use Rattle.meeting.proofs.clear.clear_of.Goals as goal

pub returns : goal.returns
unfolding clear_of
returns c =
    let t = c.args.t.now.value in
    let es = c.edges.result in
    all_from_yields_List (λ e. clear e.value t) _ _ c.all.result c.all.ensures.ran (YieldsList-from_slice es cc) (λ x b q k. search (rules, tests))
    ∙ every_through (λ e. clear e t) (λ e. e.value) es c.edges.ensures
