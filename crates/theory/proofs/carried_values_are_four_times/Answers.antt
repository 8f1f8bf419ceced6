use Rattle.theory.proofs.Carried.{fields_carried, streams_carried, printed_carried}
use Rattle.theory.proofs.carried_values_are_four_times.Goals as goal

pub returns : goal.returns
returns c = record { fields = fields_carried; streams = streams_carried; printed = printed_carried }
