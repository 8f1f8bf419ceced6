use Rattle.std.proofs.Common.{sym, ◌∙◌, rules, tests}
use Rattle.std.proofs.lemmas.Iterator.{YieldsList-from_slice}
use Rattle.std.proofs.lemmas.Iterator.Consumers.{YieldsList-from_copied}
use Rattle.std.proofs.lemmas.Iterator.Search.{find_from_yields_List}
use Rattle.rules.specs.Edges.{each_corner, corner}
use Rattle.rules.specs.Plates.{same_point}
use Rattle.theory.proofs.Sameness.{point_is}
use Rattle.meeting.specs.Meeting.{has_corner}
use Rattle.meeting.proofs.Three.{itself, found}
use Rattle.meeting.proofs.parts.which_corner.Goals as goal

pub returns : goal.returns
unfolding has_corner
returns c =
    let p = c.args.p.now in
    let t = c.args.t.now in
    let first =
    sym (itself c.find.result)
    ∙ find_from_yields_List (λ i. same_point p (corner t i)) _ _ c.find.result c.find.ensures.ran (YieldsList-from_copied (YieldsList-from_slice each_corner cc)) (λ i b q k. search (rules, tests)) in
    record { first = first; is = found same_point point_is p (corner t) c.find.result first }
