-- The work along the outline, edge by edge. Assumes nothing.
use Rattle.std.proofs.Common.{◌≡◌, ℕ, ◌+◌, ◌*◌, ◌^◌, ◌≤◌, Bool, true, List, ◌∷◌, length, ℤ, pos, ◌+ℤ◌, nat_abs, sym, ap, ◌∙◌, arith}
use borrow.Author.Differences.{ints}
use Rattle.exact.specs.Lists.{every, sum_z}
use Rattle.rules.specs.declared.OutlineEdge.{OutlineEdge}
use Rattle.rules.specs.Bounds.{work_along}
use Rattle.rules.specs.Limits.{in_reach_along}
use Rattle.rules.specs.Plates.{Values}

abbrev small : ℤ → Type 0
small z = nat_abs z ≤ 2 ^ 42

-- ---- along some edges, of which `rest` are left: those before came to x
pub record Turn (s : Values) (test : Bool) (all x : ℤ) (rest : List OutlineEdge) : Type 0 where
  pub tested : every (in_reach_along s) rest ≡ test
  pub total : x +ℤ sum_z (work_along s) rest ≡ all
  pub size : nat_abs x + length rest * 2 ^ 42 ≤ 2 ^ 58

pub begun : (s : Values) {bs rest : List OutlineEdge} → rest ≡ bs → length bs ≤ 65536 → Turn s (every (in_reach_along s) bs) (sum_z (work_along s) bs) (pos 0) rest
begun s {bs} {rest} e few =
    let count = ap length e in
    record { tested = ap (every (in_reach_along s)) e; total = ap (λ z. pos 0 +ℤ z) (ap (sum_z (work_along s)) e) ∙ nothing (sum_z (work_along s) bs); size = omega (arith, count) }
  where
    nothing : (z : ℤ) → pos 0 +ℤ z ≡ z
    nothing z = omega (arith, ints)

module _ {s : Values} {test : Bool} {all x : ℤ} {rest : List OutlineEdge} (turn : Turn s test all x rest) where
  module _ {b : OutlineEdge} {others : List OutlineEdge} (first : rest ≡ b ∷ others) where
    pub room : nat_abs x + 2 ^ 42 ≤ 2 ^ 58
    room = let count = ap length first in let size = turn.size in omega (arith, count)

    -- y is the next sum, as the machine has it
    pub one_more : (z y : ℤ) → y ≡ x +ℤ z → in_reach_along s b ≡ true → z ≡ work_along s b → small z → Turn s test all y others
    one_more z y next reach is less =
        record {
          tested = goes_on;
          total = regroup x (sum_z (work_along s) rest) z (sum_z (work_along s) others) y all turn.total (ap (sum_z (work_along s)) first ∙ ap (λ w. w +ℤ sum_z (work_along s) others) (sym is)) next;
          size = larger x z y (length rest) (length others) turn.size less one_longer next;
        }
      where
        goes_on : every (in_reach_along s) others ≡ test
        goes_on = let tested = turn.tested in let split = ap (every (in_reach_along s)) first in cc

        one_longer : length rest ≡ 1 + length others
        one_longer = let count = ap length first in omega (arith, count)

        regroup : (a c d e y w : ℤ) → a +ℤ c ≡ w → c ≡ d +ℤ e → y ≡ a +ℤ d → y +ℤ e ≡ w
        regroup a c d e y w f g h = omega (arith, ints)

        larger : (a d y : ℤ) (m n : ℕ) → nat_abs a + m * 2 ^ 42 ≤ 2 ^ 58 → nat_abs d ≤ 2 ^ 42 → m ≡ 1 + n → y ≡ a +ℤ d → nat_abs y + n * 2 ^ 42 ≤ 2 ^ 58
        larger a d y m n h k l f = omega (arith, ints)
