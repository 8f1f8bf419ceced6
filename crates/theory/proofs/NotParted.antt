-- Two proper triangles that are not parted have an inner point in common. Assumes nothing.
use Rattle.std.proofs.Common.{◌≡◌, ℕ, ◌<◌, true, false, ◌⊎◌, [], ◌∷◌, ◌++◌, map, ℤ, pos, negsuc, ◌+ℤ◌, ◌-ℤ◌, ◌*ℤ◌, neg_ℤ, ◌≤ℤ◌, ◌<ℤ◌, sym, subst, inl, inr, ⊎_elim, arith}
use mathlib.Core.List.Memᴰ
use mathlib.Core.List.{Memᴰ}
use borrow.Author.Differences.{ints}
use Rattle.std.proofs.lemmas.Int.{by_lt_z}
use Rattle.std.proofs.lemmas.Bool.{both_ways, or_left, or_right}
use Rattle.exact.proofs.Certificates.{◌≼◌, ◌≺◌, hyp, lit, ◌⊞◌, ◌⊠◌, prove<}
use Rattle.exact.proofs.Members.{any_in}
use Rattle.exact.proofs.Mixes.{mixed, mix_above}
use Rattle.exact.proofs.Order.{product_above}
use Rattle.exact.proofs.Ring.{var, con, ◌⊕◌, ◌⊗◌, ◌⊝◌}
use Rattle.rules.specs.declared.Point.{Point}
use Rattle.rules.specs.declared.Triangle.{Triangle}
use Rattle.rules.specs.declared.Vector.{Vector}
use Rattle.rules.specs.declared.Corner.{Corner}
use Rattle.rules.specs.declared.Corner.TheVariants.{A, B, C}
use Rattle.rules.specs.Edges.{next, corner, edge, edges_in, direction}
use Rattle.rules.specs.Lawful.{before, one_side, directions, parted}
use Rattle.rules.specs.Promises.{InnerPoint, NotPartedMeans}
use Rattle.rules.specs.Triangles.{area2, proper}
use Rattle.theory.proofs.Blends.{two_rows, three_rows}
use Rattle.theory.proofs.Corners.{prev, thrice, area_above}
use Rattle.theory.proofs.Facts.{edge_among}
use Rattle.theory.proofs.Parted.{rise}
use Rattle.theory.proofs.Separated.{before_in}
use Rattle.theory.proofs.Spots.{Spot, spot, mix, height, height_mix, height_sum, at_top, own_height, Within, corner_within, mix_within, mixed_height, centre, centre_height, seen}
use Rattle.theory.proofs.Threes.{each, highest, some_above, sum}

-- ---- two triangles, each with a corner above every edge of the other
module _ (s t : Triangle) (ps : proper s ≡ true) (pt : proper t ≡ true)
    (t-above : (i : Corner) → (j : Corner) × (pos 0 <ℤ height s i (spot (corner t j))))
    (s-above : (j : Corner) → (i : Corner) × (pos 0 <ℤ height t j (spot (corner s i)))) where
  -- a spot of t above two edges of s
  two_edges : (i : Corner) → (h : Spot) × Within t h × (pos 0 <ℤ height s i h) × (pos 0 <ℤ height s (next i) h)
  two_edges i =
      let found = two_rows f g turns left (t-above i).0 (t-above (next i)).0 (t-above i).1 (t-above (next i)).1 in
      let u = spot (corner t found.0) in
      let v = spot (corner t found.1) in
      let m = found.2 in (
        mix m.a u m.b v,
        mix_within t m.a m.b u v m.a_least m.b_least m.some (corner_within t pt found.0) (corner_within t pt found.1),
        mixed_height s i m.a m.b u v m.first,
        mixed_height s (next i) m.a m.b u v m.second,
      )
    where
      f : Corner → ℤ
      f j = height s i (spot (corner t j))

      g : Corner → ℤ
      g j = height s (next i) (spot (corner t j))

      turns : (j : Corner) → pos 0 <ℤ (((f (next j) -ℤ f j) *ℤ (g (prev j) -ℤ g j)) -ℤ ((g (next j) -ℤ g j) *ℤ (f (prev j) -ℤ f j)))
      turns j = grind (arith, at_top, seen, product_above)

      left : (j : Corner) → f (next j) ≤ℤ f j → g j ≤ℤ g (next j) → (g j *ℤ f (next j)) <ℤ (f j *ℤ g (next j))
      left j back up =
          let at = s-above j in
          let z = corner s at.0 in
          outside (f j) (f (next j)) (height s i (spot z)) (g j) (g (next j)) (height s (next i) (spot z)) back up (own_height s ps i at.0) (own_height s ps (next i) at.0)
          (subst (λ z. pos 0 <ℤ z) (seen s t i j z) (product_above (area2 s) (height t j (spot z)) (area_above s ps) at.1))
        where
          outside : (a b z a' b' z' : ℤ) → b ≤ℤ a → a' ≤ℤ b' → pos 0 ≤ℤ z → pos 0 ≤ℤ z' → pos 0 <ℤ (((b -ℤ a) *ℤ (z' -ℤ a')) -ℤ ((b' -ℤ a') *ℤ (z -ℤ a))) → (a' *ℤ b) <ℤ (a *ℤ b')
          outside a b z a' b' z' h k hz hz' above =
              prove< (a ∷ b ∷ z ∷ a' ∷ b' ∷ z' ∷ [])
              ((var 1 ≼ var 0) ∷ (var 3 ≼ var 4) ∷ (con (pos 0) ≼ var 2) ∷ (con (pos 0) ≼ var 5) ∷ (con (pos 0) ≺ (((var 1 ⊝ var 0) ⊗ (var 5 ⊝ var 3)) ⊝ ((var 4 ⊝ var 3) ⊗ (var 2 ⊝ var 0)))) ∷ [])
              (hyp 4 ⊞ (hyp 0 ⊠ hyp 3) ⊞ (hyp 1 ⊠ hyp 2)) (var 3 ⊗ var 1) (var 0 ⊗ var 4) tt (h, (k, (hz, (hz', (above, tt)))))

  -- a spot of t above all three
  abbrev Above : Type 0
  Above = (h : Spot) × Within t h × ((i : Corner) → pos 0 <ℤ height s i h)

  three_edges : Above
  three_edges = some_above (λ k. m k k) single (λ low. some_above cross pair_up (all_three low))
    where
      x : (k : Corner) → (h : Spot) × Within t h × (pos 0 <ℤ height s (next k) h) × (pos 0 <ℤ height s (prev k) h)
      x k = two_edges (next k)

      m : Corner → Corner → ℤ
      m k i = height s i (x k).0

      -- above the edge that lies before
      behind : (k : Corner) → pos 0 <ℤ m (next k) k
      behind k = subst (λ i. pos 0 <ℤ m (next k) i) (thrice k) (x (next k)).3

      single : (k : Corner) → pos 0 <ℤ m k k → Above
      single k up = ((x k).0, (x k).1, each (λ i. pos 0 <ℤ m k i) k up (x k).2 (x k).3)

      cross : Corner → ℤ
      cross k = (m (next k) k *ℤ m k (next k)) -ℤ (m (next k) (next k) *ℤ m k k)

      pair_up : (k : Corner) → pos 0 <ℤ cross k → Above
      pair_up k up =
          let n = next k in
          let w = mixed (m n k) (m n n) (m k k) (m k n) (behind k) (x k).2 (omega (arith, ints)) in (
            mix w.a (x n).0 w.b (x k).0,
            mix_within t w.a w.b (x n).0 (x k).0 w.a_least w.b_least w.some (x n).1 (x k).1,
            each (λ i. pos 0 <ℤ height s i (mix w.a (x n).0 w.b (x k).0)) k
                (mixed_height s k w.a w.b (x n).0 (x k).0 w.first)
                (mixed_height s n w.a w.b (x n).0 (x k).0 w.second)
                (mixed_height s (prev k) w.a w.b (x n).0 (x k).0 (mix_above w.a w.b _ _ w.a_least w.b_least w.some (x n).2 (x k).3)),
          )

      total : (k : Corner) → pos 0 <ℤ sum (m k)
      total k = subst (λ z. pos 0 <ℤ z) (sym (height_sum s (x k).0)) (product_above (x k).0.n (area2 s) (x k).1.above (area_above s ps))

      all_three : ((k : Corner) → m k k ≤ℤ pos 0) → ((k : Corner) → cross k ≤ℤ pos 0) → Above
      all_three low no-pair =
          let found = three_rows m low (λ k. (x k).2) (λ k. (x k).3) (λ k. let h = no-pair k in omega (arith, ints)) total in
          let w = found.0 in
          let wa = found.1 A in let wb = found.1 B in let wc = found.1 C in
          let later = mix (w B) (x B).0 (w C) (x C).0 in (
            mix (w A) (x A).0 (pos 1) later,
            mix_within t (w A) (pos 1) (x A).0 later (omega (arith, ints)) (omega (arith, ints)) (omega (arith, ints)) (x A).1
                (mix_within t (w B) (w C) (x B).0 (x C).0 (omega (arith, ints)) (omega (arith, ints)) (omega (arith, ints)) (x B).1 (x C).1),
            λ i. mixed_height s i (w A) (pos 1) (x A).0 later (let rows = found.2 i in let parts = height_mix s i (w B) (w C) (x B).0 (x C).0 in omega (arith, ints)),
          )

-- ---- moved a little towards the middle of t, such a spot is strictly inside both
abbrev Common : Triangle → Triangle → Type 0
Common s t = (N : ℕ) × (0 < N) × (z : Point) × InnerPoint N s z × InnerPoint N t z

large : (f : Corner → ℤ) → (K : ℤ) × (pos 0 <ℤ K) × ((i : Corner) → pos 0 <ℤ (K +ℤ f i))
large f =
    let low = highest (λ i. neg_ℤ (f i)) in
    let j = low.0 in
    by_lt_z (f j) (pos 0)
    (λ under. (pos 1 -ℤ f j, omega (arith, ints), λ i. let h = low.1 i in omega (arith, ints)))
    (λ over. (pos 1, omega (arith, ints), λ i. let h = low.1 i in omega (arith, ints)))

outweighs : (K a b : ℤ) → pos 0 <ℤ K → pos 0 <ℤ a → pos 0 <ℤ (K +ℤ b) → pos 0 <ℤ ((K *ℤ a) +ℤ (pos 1 *ℤ b))
outweighs K a b hK ha h =
    prove< (K ∷ a ∷ b ∷ []) ((con (pos 0) ≺ var 0) ∷ (con (pos 0) ≺ var 1) ∷ (con (pos 0) ≺ (var 0 ⊕ var 2)) ∷ [])
    (((hyp 0 ⊞ lit 1) ⊠ hyp 1) ⊞ hyp 2) (con (pos 0)) ((var 0 ⊗ var 1) ⊕ (con (pos 1) ⊗ var 2)) tt (hK, (ha, (h, tt)))

adds : (K a b : ℤ) → pos 0 <ℤ K → pos 0 ≤ℤ a → pos 0 <ℤ b → pos 0 <ℤ ((K *ℤ a) +ℤ (pos 1 *ℤ b))
adds K a b hK ha hb =
    prove< (K ∷ a ∷ b ∷ []) ((con (pos 0) ≺ var 0) ∷ (con (pos 0) ≼ var 1) ∷ (con (pos 0) ≺ var 2) ∷ [])
    (((hyp 0 ⊞ lit 1) ⊠ hyp 1) ⊞ hyp 2) (con (pos 0)) ((var 0 ⊗ var 1) ⊕ (con (pos 1) ⊗ var 2)) tt (hK, (ha, (hb, tt)))

strictly : (N : ℕ) (t : Triangle) (z : Point) → ((i : Corner) → pos 0 <ℤ rise t i (pos N) z) → InnerPoint N t z
unfolding rise
strictly N t z up i = let h = up i in omega (arith, ints)

common : (s t : Triangle) (n : ℤ) (z : Point) → pos 0 <ℤ n → ((i : Corner) → pos 0 <ℤ rise s i n z) → ((i : Corner) → pos 0 <ℤ rise t i n z) → Common s t
common s t (pos N) z above in-s in-t = (N, omega (arith, ints), z, strictly N s z in-s, strictly N t z in-t)
common s t (negsuc n) z above in-s in-t = absurd (omega (arith, ints))

moved : (s t : Triangle) → proper t ≡ true → (h : Spot) → Within t h → ((i : Corner) → pos 0 <ℤ height s i h) → Common s t
moved s t ok h within up =
    let c = centre t in
    let times = large (λ i. height s i c) in
    let K = times.0 in
    let hK = times.1 in
    let z = mix K h (pos 1) c in
    common s t z.n z.at (let above = within.above in adds K h.n c.n hK (omega (arith, ints)) (omega (arith, ints)))
    (λ i. mixed_height s i K (pos 1) h c (outweighs K (height s i h) (height s i c) hK (up i) (times.2 i)))
    (λ i. mixed_height t i K (pos 1) h c (adds K (height t i h) (height t i c) hK (within.least i) (subst (λ a. pos 0 <ℤ a) (sym (centre_height t i)) (area_above t ok))))

-- ---- not parted: no edge of the one has all of the other outside
not_before : (s t : Triangle) → parted s t ≡ false → (d : Vector) → Memᴰ d (directions s t) → (before d s t ≡ true) ⊎ (before d t s ≡ true) → ⊥
unfolding parted
not_before s t not-parted d m side = both_ways (parted s t) not-parted (any_in (one_side s t) (directions s t) d m (⊎_elim (or_left (before d s t) (before d t s)) (or_right (before d s t) (before d t s)) side))

above_edge : (s t : Triangle) → proper s ≡ true → (i : Corner) → (before (direction (edge s i)) t s ≡ true → ⊥) → (j : Corner) × (pos 0 <ℤ height s i (spot (corner t j)))
unfolding rise
above_edge s t ok i beyond =
    let d = direction (edge s i) in
    some_above (λ j. height s i (spot (corner t j))) (λ j up. (j, up))
    (λ low. absurd (beyond (before_in d t s (λ j k. let under = low j in let over = own_height s ok i k in omega (arith, ints)))))

pub not_parted_means : NotPartedMeans
not_parted_means s t ps pt not-parted =
    let found = three_edges s t ps pt
    (λ i. above_edge s t ps i (λ b. not_before s t not-parted (direction (edge s i)) (among (Memᴰ.append_left (map direction (edges_in t)) (Memᴰ.map direction (edge_among s i)))) (inr b)))
    (λ j. above_edge t s pt j (λ b. not_before s t not-parted (direction (edge t j)) (among (Memᴰ.append_right (map direction (edges_in s)) (Memᴰ.map direction (edge_among t j)))) (inl b))) in
    moved s t pt found.0 found.1 found.2
  where
    among : {d : Vector} → Memᴰ d (map direction (edges_in s) ++ map direction (edges_in t)) → Memᴰ d (directions s t)
    among m = Memᴰ.tail (Memᴰ.tail m)
