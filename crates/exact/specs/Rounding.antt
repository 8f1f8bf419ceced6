-- Division of naturals rounded up. Assumes nothing.
use Rattle.std.specs.Prelude.{ℕ, ◌+◌, ◌-◌, ◌/◌}

-- the quotient n / d, rounded up
abbrev pub up : ℕ → ℕ → ℕ
up n d = (n + (d - 1)) / d
