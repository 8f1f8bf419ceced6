use Rattle.theory.proofs.Parted.{parted_means}
use Rattle.theory.proofs.parted_triangles_share_no_inner_point.Goals as goal

pub returns : goal.returns
returns c = parted_means
