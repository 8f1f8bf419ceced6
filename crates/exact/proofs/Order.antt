-- The order of the integers: chains, sums, products, and a factor that cancels. Assumes nothing.
use Rattle.std.proofs.Common.{◌≡◌, ◌⊎◌, [], ◌∷◌, ℤ, pos, ◌+ℤ◌, ◌*ℤ◌, ◌≤ℤ◌, ◌<ℤ◌, arith}
use borrow.Author.Differences.{ints}
use lib.IntN.{*ℤ-zero}
use Rattle.std.proofs.lemmas.Int.{by_lt_z}
use Rattle.exact.proofs.Ring.{var, con, ◌⊕◌, ◌⊗◌}
use Rattle.exact.proofs.Certificates.{◌≼◌, ◌≺◌, hyp, lit, ◌⊞◌, ◌⊠◌, prove≤, prove<, prove⊥}

pub *ℤ_≤ℤ : (c : ℤ) {a b : ℤ} → pos 0 ≤ℤ c → a ≤ℤ b → (c *ℤ a) ≤ℤ (c *ℤ b)
*ℤ_≤ℤ c {a} {b} not_negative h =
    prove≤ (a ∷ b ∷ c ∷ []) ((var 0 ≼ var 1) ∷ (con (pos 0) ≼ var 2) ∷ []) (hyp 0 ⊠ hyp 1) (var 2 ⊗ var 0) (var 2 ⊗ var 1) tt (h, (not_negative, tt))

-- a factor above 0 cancels
pub *ℤ_cancel_≤ℤ : (c : ℤ) {a b : ℤ} → pos 0 <ℤ c → (c *ℤ a) ≤ℤ (c *ℤ b) → a ≤ℤ b
*ℤ_cancel_≤ℤ c {a} {b} above h =
    by_lt_z b a
    (λ less. absurd (prove⊥ (a ∷ b ∷ c ∷ []) ((var 1 ≺ var 0) ∷ (con (pos 0) ≺ var 2) ∷ (var 2 ⊗ var 0 ≼ var 2 ⊗ var 1) ∷ [])
    ((hyp 0 ⊠ hyp 1) ⊞ hyp 0 ⊞ hyp 1 ⊞ hyp 2) tt (less, (above, (h, tt)))))
    (λ most. most)

-- ---- products and 0
-- a product above 0 has factors of one sign
pub one_sign : (a b : ℤ) → pos 0 <ℤ (a *ℤ b) → ((pos 0 <ℤ a) × (pos 0 <ℤ b)) ⊎ ((a <ℤ pos 0) × (b <ℤ pos 0))
one_sign a b h = grind arith

pub product_above : (a b : ℤ) → pos 0 <ℤ a → pos 0 <ℤ b → pos 0 <ℤ (a *ℤ b)
product_above a b ha hb =
    prove< (a ∷ b ∷ []) ((con (pos 0) ≺ var 0) ∷ (con (pos 0) ≺ var 1) ∷ []) ((hyp 0 ⊠ hyp 1) ⊞ hyp 0 ⊞ hyp 1) (con (pos 0)) (var 0 ⊗ var 1) tt (ha, (hb, tt))

pub factor_out : (n a : ℤ) → pos 0 <ℤ n → n *ℤ a ≡ pos 0 → a ≡ pos 0
factor_out n a above e =
    let none = *ℤ-zero n in
    let less : a ≤ℤ pos 0 = *ℤ_cancel_≤ℤ n above (omega (arith, ints)) in
    let more : pos 0 ≤ℤ a = *ℤ_cancel_≤ℤ n above (omega (arith, ints)) in
    omega (arith, ints)

-- of three products none is below 0 and the one factors are above 0, but the sum is not: then the first of the others is 0
pub nought : (a b c x y z : ℤ) → pos 0 <ℤ a → pos 0 <ℤ b → pos 0 <ℤ c → pos 0 ≤ℤ x → pos 0 ≤ℤ y → pos 0 ≤ℤ z → ((a *ℤ x) +ℤ ((b *ℤ y) +ℤ (c *ℤ z))) ≤ℤ pos 0 → x ≡ pos 0
nought a b c x y z ha hb hc hx hy hz most =
    by_lt_z (pos 0) x
    (λ above. absurd (prove⊥ (a ∷ b ∷ c ∷ x ∷ y ∷ z ∷ [])
    ((con (pos 0) ≺ var 0) ∷ (con (pos 0) ≺ var 1) ∷ (con (pos 0) ≺ var 2) ∷ (con (pos 0) ≺ var 3) ∷ (con (pos 0) ≼ var 4) ∷ (con (pos 0) ≼ var 5) ∷
    (((var 0 ⊗ var 3) ⊕ ((var 1 ⊗ var 4) ⊕ (var 2 ⊗ var 5))) ≼ con (pos 0)) ∷ [])
    ((hyp 0 ⊠ (hyp 3 ⊞ lit 1)) ⊞ hyp 3 ⊞ ((hyp 1 ⊞ lit 1) ⊠ hyp 4) ⊞ ((hyp 2 ⊞ lit 1) ⊠ hyp 5) ⊞ hyp 6) tt
    (ha, (hb, (hc, (above, (hy, (hz, (most, tt)))))))))
    (λ low. omega (arith, ints))
