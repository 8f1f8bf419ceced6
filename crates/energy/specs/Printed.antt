-- The two numbers as text. Assumes nothing.
use Rattle.std.specs.Prelude.{ℕ, List, ◌++◌, ℤ, codes}
use Rattle.std.specs.Fmt.{decimal, signed_decimal}

-- a line for each
abbrev pub bracket_text : ℤ → ℕ → List ℕ
bracket_text low high = codes "lower " ++ (signed_decimal low ++ (codes "\nupper " ++ decimal high))
