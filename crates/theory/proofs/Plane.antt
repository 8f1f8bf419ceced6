-- Points of the plane by a direction: how far across and how far along it they lie, and when a point is inside an edge. Assumes nothing.
use Rattle.std.proofs.Common.{◌≡◌, ℕ, ◌⊎◌, List, [], ◌∷◌, ℤ, pos, ◌+ℤ◌, ◌-ℤ◌, ◌*ℤ◌, neg_ℤ, ◌≤ℤ◌, ◌<ℤ◌, sym, ◌∙◌, subst, inl, inr, ⊎_elim, arith}
use borrow.Author.Differences.{ints}
use Rattle.exact.proofs.Certificates.{◌≈◌, prove≡}
use Rattle.exact.proofs.Integers.{equal_from_difference}
use Rattle.exact.proofs.Order.{factor_out, one_sign, product_above, nought}
use Rattle.exact.proofs.Ring.{Expr, var, con, ◌⊕◌, ◌⊗◌, ◌⊝◌, ⊖◌, solve}
use Rattle.rules.specs.declared.Point.{Point}
use Rattle.rules.specs.declared.Edge.{Edge}
use Rattle.rules.specs.declared.Vector.{Vector}
use Rattle.rules.specs.Edges.{vector, direction, across, along}
use Rattle.rules.specs.Parts.{middle}

-- ---- points and vectors as expressions
pub record Pair : Type 0 where
  pub x : Expr
  pub y : Expr

abbrev pub pair : ℕ → ℕ → Pair
pair i j = record { x = var i; y = var j }

abbrev pub Across : Pair → Pair → Expr
Across d r = (d.x ⊗ r.y) ⊝ (d.y ⊗ r.x)

abbrev pub Along : Pair → Pair → Expr
Along d r = (d.x ⊗ r.x) ⊕ (d.y ⊗ r.y)

abbrev pub To : Pair → Pair → Pair
To p q = record { x = q.x ⊝ p.x; y = q.y ⊝ p.y }

abbrev pub Sum : Pair → Pair → Pair
Sum p q = record { x = p.x ⊕ q.x; y = p.y ⊕ q.y }

-- ---- linear in the point, and in the direction
abbrev D : Pair
D = pair 0 1

abbrev P : Pair
P = pair 2 3

abbrev Q : Pair
Q = pair 4 5

abbrev R : Pair
R = pair 6 7

abbrev numbers : Vector → Point → Point → Point → List ℤ
numbers d p q r = d.x ∷ d.y ∷ p.x ∷ p.y ∷ q.x ∷ q.y ∷ r.x ∷ r.y ∷ []

pub across_middle : (d : Vector) (p q : Point) → across d (middle p q) ≡ across d p +ℤ across d q
unfolding across
across_middle d p q = solve (numbers d p q q) (Across D (Sum P Q)) (Across D P ⊕ Across D Q) tt

pub along_middle : (d : Vector) (p q : Point) → along d (middle p q) ≡ along d p +ℤ along d q
unfolding along
along_middle d p q = solve (numbers d p q q) (Along D (Sum P Q)) (Along D P ⊕ Along D Q) tt

abbrev pub opposite : Vector → Vector
opposite d = record { x = neg_ℤ d.x; y = neg_ℤ d.y }

pub across_opposite : (d : Vector) (p : Point) → across (opposite d) p ≡ neg_ℤ (across d p)
unfolding across
across_opposite d p = solve (numbers d p p p) (Across (record { x = ⊖ D.x; y = ⊖ D.y }) P) (⊖ (Across D P)) tt

-- ---- strictly inside an edge, as numbers
pub record Inside (e : Edge) (r : Point) : Type 0 where
  pub on : across (direction e) r ≡ across (direction e) e.from
  pub past : along (direction e) e.from <ℤ along (direction e) r
  pub short : along (direction e) r <ℤ along (direction e) e.to

-- the square of a vector's length
abbrev pub squared : Vector → ℤ
squared d = (d.x *ℤ d.x) +ℤ (d.y *ℤ d.y)

-- a direction that is not nought
abbrev pub Straight : Vector → Type 0
Straight d = pos 0 <ℤ squared d

pub straight_opposite : (d : Vector) → Straight d → Straight (opposite d)
straight_opposite d straight =
    let both = solve (d.x ∷ d.y ∷ []) (((⊖ var 0) ⊗ (⊖ var 0)) ⊕ ((⊖ var 1) ⊗ (⊖ var 1))) ((var 0 ⊗ var 0) ⊕ (var 1 ⊗ var 1)) tt in
    omega (arith, ints)

-- a point inside an edge whose ends lie on one side of it lies at the height of both ends
touch_sum : (d : Vector) (p q x : Point) → let e = vector p q in
    ((along e x -ℤ along e p) *ℤ (across d x -ℤ across d q)) +ℤ ((along e q -ℤ along e x) *ℤ (across d x -ℤ across d p)) ≡
    (across e x -ℤ across e p) *ℤ ((d.x *ℤ e.x) +ℤ (d.y *ℤ e.y))
unfolding across along
touch_sum d p q x =
    let E = To P Q in
    solve (numbers d p q x) (((Along E R ⊝ Along E P) ⊗ (Across D R ⊝ Across D Q)) ⊕ ((Along E Q ⊝ Along E R) ⊗ (Across D R ⊝ Across D P)))
    ((Across E R ⊝ Across E P) ⊗ ((D.x ⊗ E.x) ⊕ (D.y ⊗ E.y))) tt

nothing_times : (a b c : ℤ) → a ≡ b → (a -ℤ b) *ℤ c ≡ pos 0
nothing_times a b c e = prove≡ (a ∷ b ∷ c ∷ []) ((var 0 ≈ var 1) ∷ []) (var 2 ∷ []) ((var 0 ⊝ var 1) ⊗ var 2) (con (pos 0)) tt (e, tt)

pub touch : (d : Vector) (e : Edge) (x : Point) → Inside e x → across d e.from ≤ℤ across d x → across d e.to ≤ℤ across d x →
    (across d e.from ≡ across d x) × (across d e.to ≡ across d x)
touch d e x at h k =
    let f = direction e in
    let a = along f x -ℤ along f e.from in
    let b = along f e.to -ℤ along f x in
    let y = across d x -ℤ across d e.to in
    let z = across d x -ℤ across d e.from in
    let ha : pos 0 <ℤ a = omega (arith, ints) in
    let hb : pos 0 <ℤ b = omega (arith, ints) in
    let hy : pos 0 ≤ℤ y = omega (arith, ints) in
    let hz : pos 0 ≤ℤ z = omega (arith, ints) in
    let one : pos 0 <ℤ pos 1 = omega (arith, ints) in
    let zero : pos 0 ≤ℤ pos 0 = omega (arith, ints) in
    let sum : (a *ℤ y) +ℤ (b *ℤ z) ≡ pos 0 = touch_sum d e.from e.to x ∙ nothing_times (across f x) (across f e.from) ((d.x *ℤ f.x) +ℤ (d.y *ℤ f.y)) at.on in
    let from = nought b a (pos 1) z y (pos 0) hb ha one hz hy zero (omega (arith, ints)) in
    let to = nought a b (pos 1) y z (pos 0) ha hb one hy hz zero (omega (arith, ints)) in
    (sym (equal_from_difference (across d x) (across d e.from) from), sym (equal_from_difference (across d x) (across d e.to) to))

-- ---- two points as far across and as far along are one
pub one_point : (d : Vector) (p q : Point) → Straight d → across d p ≡ across d q → along d p ≡ along d q → p ≡ q
unfolding across along
one_point d p q straight h k =
    let ρ = numbers d p q q in
    let N = (D.x ⊗ D.x) ⊕ (D.y ⊗ D.y) in
    let known = (Across D P ≈ Across D Q) ∷ (Along D P ≈ Along D Q) ∷ [] in
    let n = squared d in
    let x = factor_out n (p.x -ℤ q.x) straight (prove≡ ρ known ((⊖ D.y) ∷ D.x ∷ []) (N ⊗ (P.x ⊝ Q.x)) (con (pos 0)) tt (h, (k, tt))) in
    let y = factor_out n (p.y -ℤ q.y) straight (prove≡ ρ known (D.x ∷ D.y ∷ []) (N ⊗ (P.y ⊝ Q.y)) (con (pos 0)) tt (h, (k, tt))) in
    λ i. record { x = equal_from_difference p.x q.x x i; y = equal_from_difference p.y q.y y i }

-- ---- on a line across which all is equal: c strictly between a and b, either way round
abbrev pub Amid : ℤ → ℤ → ℤ → Type 0
Amid a b c = ((a <ℤ c) × (c <ℤ b)) ⊎ ((b <ℤ c) × (c <ℤ a))

amid_products : (a b c : ℤ) → pos 0 <ℤ ((b -ℤ a) *ℤ (c -ℤ a)) → pos 0 <ℤ ((b -ℤ a) *ℤ (b -ℤ c)) → Amid a b c
amid_products a b c h k = grind (arith, ints, one_sign)

products_amid : (a b c : ℤ) → Amid a b c → (pos 0 <ℤ ((b -ℤ a) *ℤ (c -ℤ a))) × (pos 0 <ℤ ((b -ℤ a) *ℤ (b -ℤ c)))
products_amid a b c (inl h) =
    (product_above (b -ℤ a) (c -ℤ a) (omega (arith, ints, h.0, h.1)) (omega (arith, ints, h.0)), product_above (b -ℤ a) (b -ℤ c) (omega (arith, ints, h.0, h.1)) (omega (arith, ints, h.1)))
products_amid a b c (inr h) = (
  subst (λ n. pos 0 <ℤ n) (turned_round a b a c) (product_above (a -ℤ b) (a -ℤ c) (omega (arith, ints, h.0, h.1)) (omega (arith, ints, h.1))),
  subst (λ n. pos 0 <ℤ n) (turned_round a b c b) (product_above (a -ℤ b) (c -ℤ b) (omega (arith, ints, h.0, h.1)) (omega (arith, ints, h.0))),
)
  where
    turned_round : (a b c d : ℤ) → (a -ℤ b) *ℤ (c -ℤ d) ≡ (b -ℤ a) *ℤ (d -ℤ c)
    turned_round a b c d = solve (a ∷ b ∷ c ∷ d ∷ []) ((var 0 ⊝ var 1) ⊗ (var 2 ⊝ var 3)) ((var 1 ⊝ var 0) ⊗ (var 3 ⊝ var 2)) tt

module _ (d : Vector) (p q r : Point) (level : across d p ≡ across d q) where
  abbrev N : Expr
  N = (D.x ⊗ D.x) ⊕ (D.y ⊗ D.y)

  along_past : squared d *ℤ (along (vector p q) r -ℤ along (vector p q) p) ≡ (along d q -ℤ along d p) *ℤ (along d r -ℤ along d p)
  unfolding across along
  along_past =
      let E = To P Q in
      prove≡ (numbers d p q r) ((Across D P ≈ Across D Q) ∷ []) ((Across D P ⊝ Across D R) ∷ []) (N ⊗ (Along E R ⊝ Along E P)) ((Along D Q ⊝ Along D P) ⊗ (Along D R ⊝ Along D P)) tt (level, tt)

  along_short : squared d *ℤ (along (vector p q) q -ℤ along (vector p q) r) ≡ (along d q -ℤ along d p) *ℤ (along d q -ℤ along d r)
  unfolding across along
  along_short =
      let E = To P Q in
      prove≡ (numbers d p q r) ((Across D P ≈ Across D Q) ∷ []) ((Across D R ⊝ Across D Q) ∷ []) (N ⊗ (Along E Q ⊝ Along E R)) ((Along D Q ⊝ Along D P) ⊗ (Along D Q ⊝ Along D R)) tt (level, tt)

  across_on : across d p ≡ across d r → squared d *ℤ (across (vector p q) r -ℤ across (vector p q) p) ≡ pos 0
  unfolding across along
  across_on level' =
      let E = To P Q in
      prove≡ (numbers d p q r) ((Across D P ≈ Across D Q) ∷ (Across D P ≈ Across D R) ∷ []) ((Along D R ⊝ Along D P) ∷ (Along D P ⊝ Along D Q) ∷ []) (N ⊗ (Across E R ⊝ Across E P)) (con (pos 0)) tt (level, (level', tt))

  -- where both ends lie equally far across, inside is amid the ends along
  pub inside_amid : Straight d → Inside (record { from = p; to = q }) r → Amid (along d p) (along d q) (along d r)
  inside_amid straight at =
      let e = vector p q in
      let n = squared d in
      amid_products (along d p) (along d q) (along d r)
      (subst (λ z. pos 0 <ℤ z) along_past (product_above n (along e r -ℤ along e p) straight (omega (arith, ints, at.past))))
      (subst (λ z. pos 0 <ℤ z) along_short (product_above n (along e q -ℤ along e r) straight (omega (arith, ints, at.short))))

  pub amid_inside : Straight d → across d p ≡ across d r → Amid (along d p) (along d q) (along d r) → Inside (record { from = p; to = q }) r
  amid_inside straight level' amid =
      let e = vector p q in
      let n = squared d in
      let both = products_amid (along d p) (along d q) (along d r) amid in
      let on = factor_out n (across e r -ℤ across e p) straight (across_on level') in
      let past = factor_above n (along e r -ℤ along e p) straight (subst (λ z. pos 0 <ℤ z) (sym along_past) both.0) in
      let short = factor_above n (along e q -ℤ along e r) straight (subst (λ z. pos 0 <ℤ z) (sym along_short) both.1) in
      record { on = omega (arith, ints, on); past = omega (arith, ints, past); short = omega (arith, ints, short) }
    where
      factor_above : (n a : ℤ) → pos 0 <ℤ n → pos 0 <ℤ (n *ℤ a) → pos 0 <ℤ a
      factor_above n a hn h = ⊎_elim (λ up. up.1) (λ down. absurd (omega (arith, ints, down.0))) (one_sign n a h)

-- ---- four numbers on a line: p and q are not amid r and s, nor r and s amid p and q, and yet the middle of r and s is amid p and q
line : (p q r s : ℤ) → Amid (p +ℤ p) (q +ℤ q) (r +ℤ s) → (Amid p q r → ⊥) → (Amid p q s → ⊥) → (Amid r s p → ⊥) → (Amid r s q → ⊥) →
    ((r ≡ p) × (s ≡ q)) ⊎ ((r ≡ q) × (s ≡ p))
line p q r s mid nr ns np nq = grind (arith, ints)

amid_cong : (a b c a' b' c' : ℤ) → a ≡ a' → b ≡ b' → c ≡ c' → Amid a b c → Amid a' b' c'
amid_cong a b c a' b' c' p q r h = subst (λ z. Amid a' b' z) r (subst (λ z. Amid a' z c) q (subst (λ z. Amid z b c) p h))

-- THE SAME ENDS. Where no end of one edge lies inside another one, a direction parts the two, and yet the middle of the one lies inside the
-- other, coordinates doubled, they have the same ends.
pub same_ends : (d : Vector) (p q r s : Point) → Straight d → across d p ≤ℤ across d r → across d p ≤ℤ across d s → across d q ≤ℤ across d r → across d q ≤ℤ across d s →
    Inside (record { from = middle p p; to = middle q q }) (middle r s) →
    (Inside (record { from = p; to = q }) r → ⊥) → (Inside (record { from = p; to = q }) s → ⊥) → (Inside (record { from = r; to = s }) p → ⊥) → (Inside (record { from = r; to = s }) q → ⊥) →
    ((r ≡ p) × (s ≡ q)) ⊎ ((r ≡ q) × (s ≡ p))
same_ends d p q r s straight pr ps qr qs at nr ns np nq =
    let pp = across_middle d p p in
    let qq = across_middle d q q in
    let rs = across_middle d r s in
    let level = touch d (record { from = middle p p; to = middle q q }) (middle r s) at (omega (arith, ints)) (omega (arith, ints)) in
    let one = level.0 in
    let two = level.1 in
    let p-r : across d p ≡ across d r = omega (arith, ints) in
    let p-s : across d p ≡ across d s = omega (arith, ints) in
    let p-q : across d p ≡ across d q = omega (arith, ints) in
    let r-s : across d r ≡ across d s = omega (arith, ints) in
    let amid = inside_amid d (middle p p) (middle q q) (middle r s) (one ∙ sym two) straight at in
    let amid' : Amid (along d p +ℤ along d p) (along d q +ℤ along d q) (along d r +ℤ along d s) =
    amid_cong _ _ _ _ _ _ (along_middle d p p) (along_middle d q q) (along_middle d r s) amid in
    ⊎_elim
    (λ e. inl (one_point d r p straight (sym p-r) e.0, one_point d s q straight (sym p-s ∙ p-q) e.1))
    (λ e. inr (one_point d r q straight (sym p-r ∙ p-q) e.0, one_point d s p straight (sym p-s) e.1))
    (line (along d p) (along d q) (along d r) (along d s) amid'
    (λ a. nr (amid_inside d p q r p-q straight p-r a)) (λ a. ns (amid_inside d p q s p-q straight p-s a))
    (λ a. np (amid_inside d r s p r-s straight (sym p-r) a)) (λ a. nq (amid_inside d r s q r-s straight (sym p-r ∙ p-q) a)))
