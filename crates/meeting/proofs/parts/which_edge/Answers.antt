use Rattle.std.proofs.Common.{sym, ◌∙◌, rules, tests}
use Rattle.std.proofs.lemmas.Iterator.{YieldsList-from_slice}
use Rattle.std.proofs.lemmas.Iterator.Consumers.{YieldsList-from_copied}
use Rattle.std.proofs.lemmas.Iterator.Search.{find_from_yields_List}
use Rattle.rules.specs.Edges.{each_corner, edge, same_edge}
use Rattle.theory.proofs.Sameness.{edge_is}
use Rattle.meeting.specs.Meeting.{has_edge}
use Rattle.meeting.proofs.Three.{itself, found}
use Rattle.meeting.proofs.parts.which_edge.Goals as goal

pub returns : goal.returns
unfolding has_edge same_edge
returns c =
    let e = c.args.e.now in
    let t = c.args.t.now in
    let first =
    sym (itself c.find.result)
    ∙ find_from_yields_List (λ i. same_edge e (edge t i)) _ _ c.find.result c.find.ensures.ran (YieldsList-from_copied (YieldsList-from_slice each_corner cc)) (λ i b q k. search (rules, tests)) in
    record { first = first; is = found same_edge edge_is e (edge t) c.find.result first }
