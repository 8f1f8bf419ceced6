use Rattle.theory.proofs.Printed.{printed}
use Rattle.theory.proofs.printed_numbers_are_safe.Goals as goal

pub returns : goal.returns
returns c = printed
