-- How many fail a test before the first that passes it, as `position` gives it. Assumes nothing.
use Rattle.std.proofs.Common.{◌≡◌, ℕ, ◌≤◌, cond, ltb, Some, None, ap, ◌∙◌, ⊎_elim, arith}
use Rattle.std.specs.Option.{unwrap_or}
use Rattle.std.proofs.lemmas.Bool.{lt-ltb, le-ltb, cases_lt}

pub first_or_all : (n all : ℕ) → n ≤ all → unwrap_or (cond (ltb n all) (Some n) None) all ≡ n
first_or_all n all most =
    ⊎_elim (λ less. ap (λ b. unwrap_or (cond b (Some n) None) all) (lt-ltb n all less))
    (λ past. let same : all ≡ n = omega arith in ap (λ b. unwrap_or (cond b (Some n) None) all) (le-ltb n all past) ∙ same) (cases_lt n all)
