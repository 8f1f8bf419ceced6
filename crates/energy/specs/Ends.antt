-- Numbers at the ends of an edge that are within the limits. Assumes nothing.
use Rattle.std.specs.Prelude.{◌^◌, Bool, ◌&&◌}
use Rattle.rules.specs.Limits.{near}
use Rattle.energy.specs.declared.ends.Ends.{Ends}

abbrev pub near_ends : Ends → Bool
near_ends e = near (2 ^ 20) e.from && near (2 ^ 20) e.to
