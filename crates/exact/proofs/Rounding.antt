-- The quotient rounded up is the least number whose multiple reaches the dividend. Assumes nothing.
use Rattle.std.proofs.Common.{◌≡◌, ℕ, zero, suc, ◌+◌, ◌-◌, ◌*◌, ◌/◌, ◌%◌, ◌<◌, ◌≤◌, min, sym, ap, ◌∙◌, div-lt_iff_lt-mul, arith}
use native.Mathlib.Nat.{div-eq_of_lt-le}
use Rattle.exact.specs.Rounding.{up}

pub up_reaches : (n d : ℕ) → 0 < d → n ≤ up n d * d
up_reaches n d h = omega arith

pub up_least : (n d m : ℕ) → 0 < d → (n ≤ m * d → up n d ≤ m) × (up n d ≤ m → n ≤ m * d)
up_least n d m h =
    let below = div-lt_iff_lt-mul {x = n + (d - 1)} {y = m + 1} h in
    (λ k. omega (arith, below.1 (omega arith)), λ k. omega (arith, below.0 (omega arith)))

-- a remainder r rounds the quotient q up by one, if it is not 0
up_of_parts : (q r d : ℕ) → r < d → up (q * d + r) d ≡ q + min 1 r
up_of_parts q zero d h = div-eq_of_lt-le {k = q} d (omega arith) (omega arith) ∙ omega arith
up_of_parts q (suc r) d h = div-eq_of_lt-le {k = q + 1} d (omega arith) (omega arith) ∙ omega arith

pub up_is : (n d : ℕ) → 0 < d → n / d + min 1 (n % d) ≡ up n d
up_is n d h =
    let parts : n / d * d + n % d ≡ n = omega arith in
    sym (up_of_parts (n / d) (n % d) d (omega arith)) ∙ ap (λ m. up m d) parts
