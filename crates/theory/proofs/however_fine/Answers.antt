use Rattle.theory.proofs.Finenesses.{however_fine}
use Rattle.theory.proofs.however_fine.Goals as goal

pub returns : goal.returns
returns c = however_fine
