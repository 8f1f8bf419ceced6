use Rattle.theory.proofs.Listed.{values_listed, points_listed}
use Rattle.theory.proofs.Points.{points_are_corners}
use Rattle.theory.proofs.values_are_listed.Goals as goal

pub returns : goal.returns
returns c = record { listed = values_listed; points = points_listed; corners = points_are_corners }
