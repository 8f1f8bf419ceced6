use Rattle.theory.proofs.Carries.{carried_there}
use Rattle.theory.proofs.FinerLawful.{finer_lawful}
use Rattle.theory.proofs.finer_plates_are_lawful.Goals as goal

pub returns : goal.returns
returns c = record { lawful = finer_lawful; carried = carried_there }
