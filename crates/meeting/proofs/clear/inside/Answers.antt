use Rattle.std.proofs.Common.{sym, ap, ◌∙◌, w64, of_z}
use Rattle.rules.specs.Edges.{across}
use Rattle.meeting.proofs.Insides.{off}
use Rattle.meeting.proofs.clear.inside.Goals as goal

pub returns-then-across : goal.returns-then-across
returns-then-across c =
    let d = c.direction-d in
    sym (off c.args.e.now.value c.args.r.now.value d.result.value d.ensures c.across.result c.across-2.result c.across.ensures
    (c.across-2.ensures ∙ ap (across d.result.value) c.start-from.ensures) (λ same. c.if-across.true (ap (of_z w64) same)))
