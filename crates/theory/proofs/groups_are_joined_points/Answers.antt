use Rattle.theory.proofs.Groups.{groups_joined, groups_kept, groups_alike}
use Rattle.theory.proofs.groups_are_joined_points.Goals as goal

pub returns : goal.returns
returns c = record { joined = groups_joined; kept = groups_kept; alike = groups_alike }
