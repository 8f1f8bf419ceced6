use Rattle.theory.proofs.Triangles.{local_law, cross, squares}
use Rattle.theory.proofs.law_of_one_triangle.Goals as goal

pub returns : goal.returns
returns c = record { law = local_law; cross = cross; squares = squares }
