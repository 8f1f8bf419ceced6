use Rattle.theory.proofs.Below.{below, denominators_above}
use Rattle.theory.proofs.no_field_spends_less.Goals as goal

pub returns : goal.returns
returns c = record { below = below; denominators = denominators_above }
