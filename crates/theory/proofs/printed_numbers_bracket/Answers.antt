use Rattle.theory.proofs.Finenesses.{between, bracketed}
use Rattle.theory.proofs.printed_numbers_bracket.Goals as goal

pub returns : goal.returns
returns c = record { between = between; bracketed = bracketed }
