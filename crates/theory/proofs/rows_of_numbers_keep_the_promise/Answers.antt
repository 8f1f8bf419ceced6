use Rattle.theory.proofs.Answered.{answers_bracket, finer_taken, carried_taken, carried_four_times}
use Rattle.theory.proofs.ReadBack.{read_as_written}
use Rattle.theory.proofs.rows_of_numbers_keep_the_promise.Goals as goal

pub returns : goal.returns
returns c = record { read = read_as_written; bracket = answers_bracket; finer = finer_taken; carried = carried_taken; four = carried_four_times }
