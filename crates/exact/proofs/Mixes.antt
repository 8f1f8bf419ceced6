-- Two pairs of numbers mixed so that the sum of the first ones and that of the second ones are both above 0. Assumes nothing.
use Rattle.std.proofs.Common.{◌≡◌, [], ◌∷◌, ℤ, pos, ◌+ℤ◌, ◌-ℤ◌, ◌*ℤ◌, ◌≤ℤ◌, ◌<ℤ◌, sym, subst, arith}
use borrow.Author.Differences.{ints}
use Rattle.std.proofs.lemmas.Int.{by_lt_z}
use Rattle.exact.proofs.Certificates.{◌≼◌, ◌≺◌, hyp, ◌⊞◌, ◌⊠◌, prove≤, prove<}
use Rattle.exact.proofs.Ring.{var, con, ◌⊕◌, ◌⊗◌, ◌⊝◌, solve}

-- a parts of (p, q) and b parts of (p', q')
pub record Mix (p q p' q' : ℤ) : Type 0 where
  pub a : ℤ
  pub b : ℤ
  pub a_least : pos 0 ≤ℤ a
  pub b_least : pos 0 ≤ℤ b
  pub some : pos 0 <ℤ (a +ℤ b)
  pub first : pos 0 <ℤ ((a *ℤ p) +ℤ (b *ℤ p'))
  pub second : pos 0 <ℤ ((a *ℤ q) +ℤ (b *ℤ q'))

pub alone : (p q p' q' : ℤ) → pos 0 <ℤ p → pos 0 <ℤ q → Mix p q p' q'
alone p q p' q' hp hq =
    record { a = pos 1; b = pos 0; a_least = omega (arith, ints); b_least = omega (arith, ints); some = omega (arith, ints); first = omega (arith, ints); second = omega (arith, ints) }

-- the one is above 0 in the first, the other in the second, and between them the way turns left
pub mixed : (p q p' q' : ℤ) → pos 0 <ℤ p → pos 0 <ℤ q' → (q *ℤ p') <ℤ (p *ℤ q') → Mix p q p' q'
mixed p q p' q' hp hq' left =
    by_lt_z (pos 0) q (λ hq. alone p q p' q' hp hq) (λ lq.
    by_lt_z (pos 0) p' (λ hp'. other hp') (λ lp'.
    record {
      a = q' -ℤ p';
      b = p -ℤ q;
      a_least = omega (arith, ints);
      b_least = omega (arith, ints);
      some = omega (arith, ints);
      first = subst (λ z. pos 0 <ℤ z) (sym first_is) difference;
      second = subst (λ z. pos 0 <ℤ z) (sym second_is) difference;
    }))
  where
    other : pos 0 <ℤ p' → Mix p q p' q'
    other hp' =
        record { a = pos 0; b = pos 1; a_least = omega (arith, ints); b_least = omega (arith, ints); some = omega (arith, ints); first = omega (arith, ints); second = omega (arith, ints) }

    difference : pos 0 <ℤ ((p *ℤ q') -ℤ (q *ℤ p'))
    difference = omega (arith, ints)

    first_is : ((q' -ℤ p') *ℤ p) +ℤ ((p -ℤ q) *ℤ p') ≡ (p *ℤ q') -ℤ (q *ℤ p')
    first_is = solve (p ∷ q ∷ p' ∷ q' ∷ []) (((var 3 ⊝ var 2) ⊗ var 0) ⊕ ((var 0 ⊝ var 1) ⊗ var 2)) ((var 0 ⊗ var 3) ⊝ (var 1 ⊗ var 2)) tt

    second_is : ((q' -ℤ p') *ℤ q) +ℤ ((p -ℤ q) *ℤ q') ≡ (p *ℤ q') -ℤ (q *ℤ p')
    second_is = solve (p ∷ q ∷ p' ∷ q' ∷ []) (((var 3 ⊝ var 2) ⊗ var 1) ⊕ ((var 0 ⊝ var 1) ⊗ var 3)) ((var 0 ⊗ var 3) ⊝ (var 1 ⊗ var 2)) tt

-- ---- what is not below 0, or above 0, in both stays so mixed
pub mix_least : (a b x y : ℤ) → pos 0 ≤ℤ a → pos 0 ≤ℤ b → pos 0 ≤ℤ x → pos 0 ≤ℤ y → pos 0 ≤ℤ ((a *ℤ x) +ℤ (b *ℤ y))
mix_least a b x y ha hb hx hy =
    prove≤ (a ∷ b ∷ x ∷ y ∷ []) ((con (pos 0) ≼ var 0) ∷ (con (pos 0) ≼ var 1) ∷ (con (pos 0) ≼ var 2) ∷ (con (pos 0) ≼ var 3) ∷ [])
    ((hyp 0 ⊠ hyp 2) ⊞ (hyp 1 ⊠ hyp 3)) (con (pos 0)) ((var 0 ⊗ var 2) ⊕ (var 1 ⊗ var 3)) tt (ha, (hb, (hx, (hy, tt))))

pub mix_above : (a b x y : ℤ) → pos 0 ≤ℤ a → pos 0 ≤ℤ b → pos 0 <ℤ (a +ℤ b) → pos 0 <ℤ x → pos 0 <ℤ y → pos 0 <ℤ ((a *ℤ x) +ℤ (b *ℤ y))
mix_above a b x y ha hb some hx hy =
    prove< (a ∷ b ∷ x ∷ y ∷ [])
    ((con (pos 0) ≼ var 0) ∷ (con (pos 0) ≼ var 1) ∷ (con (pos 0) ≺ var 2) ∷ (con (pos 0) ≺ var 3) ∷ (con (pos 0) ≺ (var 0 ⊕ var 1)) ∷ [])
    ((hyp 0 ⊠ hyp 2) ⊞ (hyp 1 ⊠ hyp 3) ⊞ hyp 4) (con (pos 0)) ((var 0 ⊗ var 2) ⊕ (var 1 ⊗ var 3)) tt (ha, (hb, (hx, (hy, (some, tt)))))
