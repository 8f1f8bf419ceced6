use Rattle.std.proofs.Common.{◌∙◌}
use Rattle.meeting.proofs.Sides.{this_way, other_way}
use Rattle.meeting.proofs.apart.one_side.Goals as goal

pub returns-then-below : goal.returns-then-below
returns-then-below c =
    c.if-below.true
    ∙ this_way c.args.d.now.value c.args.s.now.value c.args.t.now.value c.heights-u.result c.heights-v.result c.heights-u.ensures c.heights-v.ensures c.if-below.ensures

pub returns-else-below : goal.returns-else-below
returns-else-below c =
    c.below-else-below.ensures
    ∙ other_way c.args.d.now.value c.args.s.now.value c.args.t.now.value c.heights-u.result c.heights-v.result c.heights-u.ensures c.heights-v.ensures c.if-below.ensures
