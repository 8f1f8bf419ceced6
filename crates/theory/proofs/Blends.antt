-- Blends of three columns of numbers with all rows above 0. Assumes nothing.
use Rattle.std.proofs.Common.{◌≡◌, List, [], ◌∷◌, ℤ, pos, ◌+ℤ◌, ◌-ℤ◌, ◌*ℤ◌, ◌≤ℤ◌, ◌<ℤ◌, sym, refl, subst, arith}
use borrow.Author.Differences.{ints}
use Rattle.std.proofs.lemmas.Int.{by_lt_z}
use Rattle.exact.proofs.Certificates.{◌≼◌, ◌≺◌, hyp, lit, ◌⊞◌, ◌⊠◌, prove<, prove⊥}
use Rattle.exact.proofs.Mixes.{Mix, alone, mixed}
use Rattle.exact.proofs.Order.{product_above}
use Rattle.exact.proofs.Ring.{Expr, var, con, ◌⊕◌, ◌⊗◌, ◌⊝◌, solve}
use Rattle.rules.specs.declared.Corner.{Corner}
use Rattle.rules.specs.declared.Corner.TheVariants.{A, B, C}
use Rattle.rules.specs.Edges.{next}
use Rattle.theory.proofs.Corners.{prev, near}
use Rattle.theory.proofs.Threes.{highest, sum}

-- ---- a way from (x, y) by (x', y') to (x'', y'') that turns left: where it ends up to the left it does not fall first, nor go back to the right
module _ (x y x' y' x'' y'' : ℤ) (turn : pos 0 <ℤ (((x' -ℤ x) *ℤ (y'' -ℤ y)) -ℤ ((y' -ℤ y) *ℤ (x'' -ℤ x)))) where
  abbrev numbers : List ℤ
  numbers = x ∷ y ∷ x' ∷ y' ∷ x'' ∷ y'' ∷ []

  abbrev Turn : Expr
  Turn = ((var 2 ⊝ var 0) ⊗ (var 5 ⊝ var 1)) ⊝ ((var 3 ⊝ var 1) ⊗ (var 4 ⊝ var 0))

  no_fall : x' ≤ℤ x → x'' ≤ℤ x → y ≤ℤ y'' → y ≤ℤ y'
  no_fall h k m =
      by_lt_z y' y
      (λ falls. absurd (prove⊥ numbers ((con (pos 0) ≺ Turn) ∷ (var 2 ≼ var 0) ∷ (var 4 ≼ var 0) ∷ (var 1 ≼ var 5) ∷ (var 3 ≺ var 1) ∷ [])
      (hyp 0 ⊞ (hyp 1 ⊠ hyp 3) ⊞ ((hyp 4 ⊞ lit 1) ⊠ hyp 2)) tt (turn, (h, (k, (m, (falls, tt)))))))
      (λ rises. rises)

  no_return : x' ≤ℤ x → y ≤ℤ y' → y' ≤ℤ y'' → x'' ≤ℤ x'
  no_return h k m =
      by_lt_z x' x''
      (λ returns. absurd (prove⊥ numbers ((con (pos 0) ≺ Turn) ∷ (var 2 ≼ var 0) ∷ (var 1 ≼ var 3) ∷ (var 3 ≼ var 5) ∷ (var 2 ≺ var 4) ∷ [])
      (hyp 0 ⊞ (hyp 1 ⊠ hyp 3) ⊞ (hyp 2 ⊠ (hyp 4 ⊞ lit 1))) tt (turn, (h, (k, (m, (returns, tt)))))))
      (λ goes_on. goes_on)

not_below : (x y x' y' : ℤ) → pos 0 <ℤ x → x' ≤ℤ pos 0 → y' ≤ℤ pos 0 → (y *ℤ x') <ℤ (x *ℤ y') → pos 0 <ℤ y
not_below x y x' y' hx hx' hy' h =
    by_lt_z (pos 0) y (λ above. above)
    (λ low. absurd (prove⊥ (x ∷ y ∷ x' ∷ y' ∷ [])
    ((con (pos 0) ≺ var 0) ∷ (var 2 ≼ con (pos 0)) ∷ (var 3 ≼ con (pos 0)) ∷ ((var 1 ⊗ var 2) ≺ (var 0 ⊗ var 3)) ∷ (var 1 ≼ con (pos 0)) ∷ [])
    (hyp 3 ⊞ ((hyp 0 ⊞ lit 1) ⊠ hyp 2) ⊞ (hyp 4 ⊠ hyp 1)) tt (hx, (hx', (hy', (h, (low, tt)))))))

-- ---- two rows. The corners (f i, g i) go against the clock; an edge that goes to the left and up has 0 on its left; and each row is
-- above 0 somewhere. Then two corners can be mixed.
module _ (f g : Corner → ℤ)
    (turns : (j : Corner) → pos 0 <ℤ (((f (next j) -ℤ f j) *ℤ (g (prev j) -ℤ g j)) -ℤ ((g (next j) -ℤ g j) *ℤ (f (prev j) -ℤ f j))))
    (left : (j : Corner) → f (next j) ≤ℤ f j → g j ≤ℤ g (next j) → (g j *ℤ f (next j)) <ℤ (f j *ℤ g (next j))) where
  abbrev Two : Type 0
  Two = (u : Corner) × (v : Corner) × Mix (f u) (g u) (f v) (g v)

  corner_alone : (u : Corner) → pos 0 <ℤ f u → pos 0 <ℤ g u → Two
  corner_alone u hf hg = (u, u, alone (f u) (g u) (f u) (g u) hf hg)

  corners_mixed : (u v : Corner) → pos 0 <ℤ f u → pos 0 <ℤ g v → (g u *ℤ f v) <ℤ (f u *ℤ g v) → Two
  corners_mixed u v hf hg h = (u, v, mixed (f u) (g u) (f v) (g v) hf hg h)

  -- from the corner that is farthest right to the one that is farthest up, against the clock, each edge goes to the left and up
  abbrev From : Corner → Corner → Type 0
  From j k = ((i : Corner) → f i ≤ℤ f j) → ((i : Corner) → g i ≤ℤ g k) → pos 0 <ℤ f j → pos 0 <ℤ g k → Two

  one_edge : (j : Corner) → From j (next j)
  one_edge j right up hf hg = corners_mixed j (next j) hf hg (left j (right (next j)) (up j))

  two_edges : (j : Corner) → From j (prev j)
  two_edges j right up hf hg =
      let l = next j in
      let k = prev j in
      let rises = no_fall (f j) (g j) (f l) (g l) (f k) (g k) (turns j) (right l) (right k) (up j) in
      let first = left j (right l) rises in
      let second = left l (no_return (f j) (g j) (f l) (g l) (f k) (g k) (turns j) (right l) rises (up l)) (up l) in
      by_lt_z (pos 0) (f l) (λ hl. corners_mixed l k hl hg second) (λ fl.
      by_lt_z (pos 0) (g l) (λ hl. corners_mixed j l hf hl first) (λ gl.
      corner_alone j hf (not_below (f j) (g j) (f l) (g l) hf fl gl first)))

  pub two_rows : (i k : Corner) → pos 0 <ℤ f i → pos 0 <ℤ g k → Two
  two_rows i k hf hg =
      let right = highest f in
      let up = highest g in
      let j = right.0 in
      let m = up.0 in
      let fi = right.1 i in
      let gk = up.1 k in
      near From (λ j. λ _ _ hf hg. corner_alone j hf hg) one_edge two_edges j m right.1 up.1 (omega (arith, ints)) (omega (arith, ints))

-- ---- three rows. Column k is above 0 but in row k, no two columns can be mixed, and each column has a sum above 0. Then all three can.
-- the weight of column j is the sum over the cross product of the two others
abbrev Weight : (Corner → Corner → Expr) → Corner → Expr
Weight m j =
    let n = next j in let p = prev j in
    ((m n n ⊗ m p p) ⊝ (m n p ⊗ m p n)) ⊕ (((m n p ⊗ m p j) ⊝ (m n j ⊗ m p p)) ⊕ ((m n j ⊗ m p n) ⊝ (m n n ⊗ m p j)))

abbrev Sum : (Corner → Expr) → Expr
Sum f = f A ⊕ (f B ⊕ f C)

abbrev V : Corner → Corner → Expr
V A A = var 0
V A B = var 1
V A C = var 2
V B A = var 3
V B B = var 4
V B C = var 5
V C A = var 6
V C B = var 7
V C C = var 8

abbrev Row : Corner → Expr
Row i = Sum (λ j. Weight V j ⊗ V j i)

crossed : (a b c d e f : ℤ) → pos 0 <ℤ a → b ≤ℤ pos 0 → pos 0 <ℤ c → pos 0 <ℤ d → pos 0 <ℤ e → f ≤ℤ pos 0 → (e *ℤ c) ≤ℤ (f *ℤ b) →
    pos 0 <ℤ (((b *ℤ f) -ℤ (c *ℤ e)) +ℤ (((c *ℤ d) -ℤ (a *ℤ f)) +ℤ ((a *ℤ e) -ℤ (b *ℤ d))))
crossed a b c d e f ha hb hc hd he hf h =
    let a' = var 0 in let b' = var 1 in let c' = var 2 in let d' = var 3 in let e' = var 4 in let f' = var 5 in
    prove< (a ∷ b ∷ c ∷ d ∷ e ∷ f ∷ [])
    ((con (pos 0) ≺ a') ∷ (b' ≼ con (pos 0)) ∷ (con (pos 0) ≺ c') ∷ (con (pos 0) ≺ d') ∷ (con (pos 0) ≺ e') ∷ (f' ≼ con (pos 0)) ∷ ((e' ⊗ c') ≼ (f' ⊗ b')) ∷ [])
    (hyp 6 ⊞ ((hyp 2 ⊞ lit 1) ⊠ hyp 3) ⊞ hyp 2 ⊞ ((hyp 0 ⊞ lit 1) ⊠ hyp 5) ⊞ ((hyp 0 ⊞ lit 1) ⊠ (hyp 4 ⊞ lit 1)) ⊞ (hyp 1 ⊠ (hyp 3 ⊞ lit 1)))
    (con (pos 0)) (((b' ⊗ f') ⊝ (c' ⊗ e')) ⊕ (((c' ⊗ d') ⊝ (a' ⊗ f')) ⊕ ((a' ⊗ e') ⊝ (b' ⊗ d')))) tt
    (ha, (hb, (hc, (hd, (he, (hf, (h, tt)))))))

module _ (m : Corner → Corner → ℤ) where
  abbrev weight : Corner → ℤ
  weight j =
      let n = next j in let p = prev j in
      ((m n n *ℤ m p p) -ℤ (m n p *ℤ m p n)) +ℤ (((m n p *ℤ m p j) -ℤ (m n j *ℤ m p p)) +ℤ ((m n j *ℤ m p n) -ℤ (m n n *ℤ m p j)))

  abbrev entries : List ℤ
  entries = m A A ∷ m A B ∷ m A C ∷ m B A ∷ m B B ∷ m B C ∷ m C A ∷ m C B ∷ m C C ∷ []

  abbrev row : Corner → ℤ
  row i = sum (λ j. weight j *ℤ m j i)

  rows_equal : (i : Corner) → row i ≡ row A
  rows_equal A = refl
  rows_equal B = solve entries (Row B) (Row A) tt
  rows_equal C = solve entries (Row C) (Row A) tt

  rows_total : sum (λ j. sum (m j) *ℤ weight j) ≡ row A +ℤ (row A +ℤ row A)
  rows_total = solve entries (Sum (λ j. Sum (V j) ⊗ Weight V j)) (Row A ⊕ (Row A ⊕ Row A)) tt

  pub three_rows : ((k : Corner) → m k k ≤ℤ pos 0) → ((k : Corner) → pos 0 <ℤ m k (next k)) → ((k : Corner) → pos 0 <ℤ m k (prev k)) →
      ((k : Corner) → (m (next k) k *ℤ m k (next k)) ≤ℤ (m (next k) (next k) *ℤ m k k)) → ((k : Corner) → pos 0 <ℤ sum (m k)) →
      (w : Corner → ℤ) × ((j : Corner) → pos 0 <ℤ w j) × ((i : Corner) → pos 0 <ℤ sum (λ j. w j *ℤ m j i))
  three_rows low high high' minor total =
      (weight, above, λ i. subst (λ z. pos 0 <ℤ z) (sym (rows_equal i)) (third (row A) _ _ _ (part A) (part B) (part C) rows_total))
    where
      above : (j : Corner) → pos 0 <ℤ weight j
      above j = grind (arith, crossed)

      part : (j : Corner) → pos 0 <ℤ (sum (m j) *ℤ weight j)
      part j = product_above (sum (m j)) (weight j) (total j) (above j)

      third : (r a b c : ℤ) → pos 0 <ℤ a → pos 0 <ℤ b → pos 0 <ℤ c → a +ℤ (b +ℤ c) ≡ r +ℤ (r +ℤ r) → pos 0 <ℤ r
      third r a b c ha hb hc e = omega (arith, ints)
