-- Two parted triangles have no inner point in common. Assumes nothing.
use Rattle.std.proofs.Common.{◌≡◌, ℕ, true, [], ◌∷◌, ℤ, pos, ◌-ℤ◌, ◌*ℤ◌, neg_ℤ, ◌≤ℤ◌, ◌<ℤ◌, sym, subst, arith}
use borrow.Author.Differences.{ints}
use Rattle.std.proofs.lemmas.Int.{by_lt_z}
use Rattle.exact.proofs.Certificates.{◌≼◌, ◌≺◌, hyp, lit, ◌⊞◌, ◌⊠◌, prove≤, prove⊥}
use Rattle.exact.proofs.Ring.{Expr, var, con, ◌⊕◌, ◌⊗◌, ◌⊝◌, ⊖◌, solve}
use Rattle.rules.specs.declared.Point.{Point}
use Rattle.rules.specs.declared.Triangle.{Triangle}
use Rattle.rules.specs.declared.Vector.{Vector}
use Rattle.rules.specs.declared.Corner.{Corner}
use Rattle.rules.specs.declared.Corner.TheVariants.{A, B, C}
use Rattle.rules.specs.Edges.{corner, edge, direction, across}
use Rattle.rules.specs.Promises.{InnerPoint, PartedMeans}
use Rattle.rules.specs.Triangles.{area2, proper}
use Rattle.theory.proofs.Corners.{Area, prev, area_above, not_flat}
use Rattle.theory.proofs.Plane.{Pair, pair, Across, To, Straight, opposite, across_opposite, straight_opposite}
use Rattle.theory.proofs.Separated.{parted_out}
use Rattle.theory.proofs.Threes.{highest, sum, noughts}

-- how far z lies to the left of an edge, coordinates of z being n times as fine
unfoldable pub rise : Triangle → Corner → ℤ → Point → ℤ
rise t i n z = let d = direction (edge t i) in across d z -ℤ (n *ℤ across d (corner t i))

-- ---- z is the corners' mean, each weighed by how far z rises above the edge opposite
abbrev pub Rise : Expr → Pair → Pair → Pair → Expr
Rise n z p q = Across (To p q) z ⊝ (n ⊗ Across (To p q) p)

mean : (d : Vector) (t : Triangle) (n m : ℤ) (z : Point) → sum (λ i. rise t i n z *ℤ (m -ℤ across d (corner t (prev i)))) ≡ area2 t *ℤ ((n *ℤ m) -ℤ across d z)
unfolding across area2 rise
mean d t n m z =
    let P = pair 0 1 in let Q = pair 2 3 in let R = pair 4 5 in let D = pair 6 7 in let Z = pair 8 9 in
    let under : Pair → Expr = λ c. var 11 ⊝ Across D c in
    solve (t.a.x ∷ t.a.y ∷ t.b.x ∷ t.b.y ∷ t.c.x ∷ t.c.y ∷ d.x ∷ d.y ∷ z.x ∷ z.y ∷ n ∷ m ∷ [])
    ((Rise (var 10) Z P Q ⊗ under R) ⊕ ((Rise (var 10) Z Q R ⊗ under P) ⊕ (Rise (var 10) Z R P ⊗ under Q)))
    (Area P Q R ⊗ ((var 10 ⊗ var 11) ⊝ Across D Z)) tt

-- an inner point lies less far across than m where no corner lies farther
inner_below : (d : Vector) (t : Triangle) (N : ℕ) (z : Point) (m : ℤ) → Straight d → proper t ≡ true → InnerPoint N t z → ((i : Corner) → across d (corner t i) ≤ℤ m) →
    across d z <ℤ (pos N *ℤ m)
unfolding rise
inner_below d t N z m straight ok inner most =
    by_lt_z (across d z) (pos N *ℤ m) (λ less. less) (λ more.
    let x : Corner → ℤ = λ i. m -ℤ across d (corner t (prev i)) in
    let up : (i : Corner) → pos 0 <ℤ rise t i (pos N) z = λ i. let h = inner i in omega (arith, ints) in
    let none : (i : Corner) → x i ≡ pos 0 =
    noughts (λ i. rise t i (pos N) z) x up (λ i. let h = most (prev i) in omega (arith, ints))
    (subst (λ s. s ≤ℤ pos 0) (sym (mean d t (pos N) m z)) (product (area2 t) (pos N *ℤ m) (across d z) (area_above t ok) more)) in
    let a = none B in let b = none C in let c = none A in
    absurd (not_flat d t A straight ok (omega (arith, ints)) (omega (arith, ints))))
  where
    product : (a b c : ℤ) → pos 0 <ℤ a → b ≤ℤ c → (a *ℤ (b -ℤ c)) ≤ℤ pos 0
    product a b c ha h =
        prove≤ (a ∷ b ∷ c ∷ []) ((con (pos 0) ≺ var 0) ∷ (var 1 ≼ var 2) ∷ []) ((hyp 0 ⊞ lit 1) ⊠ hyp 1) (var 0 ⊗ (var 1 ⊝ var 2)) (con (pos 0)) tt (ha, (h, tt))

-- z would lie on both sides of the corner of t that comes first across the direction
pub parted_means : PartedMeans
parted_means s t ps pt h N above z in-s in-t =
    let sep = parted_out s t ps pt h in
    let d = sep.way in
    let e = opposite d in
    let first = highest (λ j. across e (corner t j)) in
    let p = corner t first.0 in
    let left : across d z <ℤ (pos N *ℤ across d p) = inner_below d s N z (across d p) sep.straight ps in-s (λ i. sep.sides i first.0) in
    let right : across e z <ℤ (pos N *ℤ across e p) = inner_below e t N z (across e p) (straight_opposite d sep.straight) pt in-t first.1 in
    both_sides (pos N) (across d z) (across d p) left (subst (λ a. a <ℤ (pos N *ℤ neg_ℤ (across d p))) (across_opposite d z) (subst (λ b. across e z <ℤ (pos N *ℤ b)) (across_opposite d p) right))
  where
    both_sides : (n a b : ℤ) → a <ℤ (n *ℤ b) → neg_ℤ a <ℤ (n *ℤ neg_ℤ b) → ⊥
    both_sides n a b h k =
        prove⊥ (n ∷ a ∷ b ∷ []) ((var 1 ≺ (var 0 ⊗ var 2)) ∷ ((⊖ var 1) ≺ (var 0 ⊗ (⊖ var 2))) ∷ [])
        (hyp 0 ⊞ hyp 1 ⊞ lit 1) tt (h, (k, tt))
