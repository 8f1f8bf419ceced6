use Rattle.theory.proofs.Triangles.{parts_alike}
use Rattle.theory.proofs.parts_are_alike.Goals as goal

pub returns : goal.returns
returns c = parts_alike
