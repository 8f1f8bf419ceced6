use Rattle.theory.proofs.Sameness.{same_both_ways}
use Rattle.theory.proofs.equal_numbers_are_at_most_each_other.Goals as goal

pub returns : goal.returns
returns c = same_both_ways
