use Rattle.theory.proofs.Table.{table_holds}
use Rattle.theory.proofs.table_of_cases.Goals as goal

pub returns : goal.returns
returns c = table_holds
