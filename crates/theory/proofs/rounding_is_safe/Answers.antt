use Rattle.theory.proofs.Rounding.{rounded_up}
use Rattle.theory.proofs.rounding_is_safe.Goals as goal

pub returns : goal.returns
returns c = rounded_up
