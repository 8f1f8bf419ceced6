-- How far a difference of two coordinates within the limits can go. Assumes nothing.
use Rattle.std.specs.Prelude.{◌^◌, ◌≤◌, unsigned_abs}
use Rattle.rules.specs.declared.Corners.{Corners}

pub record Short (w : Corners) : Type 0 where
  pub a : unsigned_abs w.a ≤ 2 ^ 16
  pub b : unsigned_abs w.b ≤ 2 ^ 16
  pub c : unsigned_abs w.c ≤ 2 ^ 16
