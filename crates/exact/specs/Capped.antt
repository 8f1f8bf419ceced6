-- Numbers that are kept only below a fixed cap. Assumes nothing.
use Rattle.std.specs.Prelude.{ℕ, ◌^◌, cond, Some, None, Option, nat_lt}

-- n where it is below 2 ^ 62, and nothing from there on
abbrev pub capped : ℕ → Option ℕ
capped n = cond (nat_lt n (2 ^ 62)) (Some n) None
