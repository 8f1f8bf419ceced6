use Rattle.theory.proofs.NotParted.{not_parted_means}
use Rattle.theory.proofs.not_parted_triangles_share_an_inner_point.Goals as goal

pub returns : goal.returns
returns c = not_parted_means
