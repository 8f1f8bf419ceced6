-- Whatever stands at the points of a lawful plate can be carried to the finer one: no place is given two values. Assumes nothing.
use Rattle.std.proofs.Common.{◌≡◌, List, [], ◌∷◌, map, ℤ, ◌+ℤ◌, sym, refl, ap, ◌∙◌, ap₂, ⊎_elim, arith}
use mathlib.Core.List.Memᴰ
use mathlib.Core.List.{flat_map, Memᴰ}
use lib.IntN.{+ℤ_comm}
use Rattle.std.proofs.lemmas.Bool.{cases_Bool, cond-true, cond-false}
use Rattle.exact.proofs.Members.{flat_map_member, member_flat_map}
use Rattle.rules.specs.declared.Point.{Point}
use Rattle.rules.specs.declared.Triangle.{Triangle}
use Rattle.rules.specs.declared.Corner.{Corner}
use Rattle.rules.specs.declared.Corner.TheVariants.{A, B, C}
use Rattle.rules.specs.Edges.{each_corner, next, corner}
use Rattle.rules.specs.Finer.{sum_at, sums_in, first_at, carried}
use Rattle.rules.specs.Parts.{middle}
use Rattle.rules.specs.Plates.{Plate, PointValue, Values, same_point}
use Rattle.rules.specs.Promises.{CarriedThere}
use Rattle.theory.proofs.Facts.{Facts, facts, index_in}
use Rattle.theory.proofs.Halves.{twice_is}
use Rattle.theory.proofs.Meetings.{In, SameSum, corner_or_middle, no_middle, same_middle}
use Rattle.theory.proofs.Sameness.{point_is, same_point_from}

-- ---- the first of several that agree
first_is : (ps : List PointValue) (q : Point) (v : ℤ) (p : PointValue) → Memᴰ p ps → p.at ≡ q → ((r : PointValue) → Memᴰ r ps → r.at ≡ q → r.value ≡ v) → first_at ps q ≡ v
first_is [] q v p n e h = elim n [ ]
first_is (r ∷ rs) q v p (Memᴰ.head is) e h =
    cond-true (same_point q r.at) r.value (first_at rs q) (same_point_from q r.at (sym e ∙ ap (λ w. w.at) is)) ∙ h r (Memᴰ.head refl) (sym (ap (λ w. w.at) is) ∙ e)
first_is (r ∷ rs) q v p (Memᴰ.tail n) e h =
    ⊎_elim (λ t. cond-true (same_point q r.at) r.value (first_at rs q) t ∙ h r (Memᴰ.head refl) (sym (point_is q r.at t)))
    (λ f. cond-false (same_point q r.at) r.value (first_at rs q) f ∙ first_is rs q v p n e (λ w nw. h w (Memᴰ.tail nw))) (cases_Bool (same_point q r.at))

-- ---- what a triangle carries
sum_out : (u : Values) (t : Triangle) (p : PointValue) → Memᴰ p (sums_in u t) → (i : Corner) × (j : Corner) × (p ≡ sum_at u t i j)
sum_out u t p m =
    let at = Memᴰ.of_map (λ (c : Corner × Corner). sum_at u t c.0 c.1) ((A, A) ∷ (B, B) ∷ (C, C) ∷ (A, B) ∷ (B, C) ∷ (C, A) ∷ []) m in
    (at.0.0, at.0.1, sym at.2)

corner_sum : (u : Values) (t : Triangle) (i : Corner) → Memᴰ (sum_at u t i i) (sums_in u t)
corner_sum u t i = Memᴰ.append_left (map (λ j. sum_at u t j (next j)) each_corner) (Memᴰ.map (λ j. sum_at u t j j) (index_in i))

middle_sum : (u : Values) (t : Triangle) (i : Corner) → Memᴰ (sum_at u t i (next i)) (sums_in u t)
middle_sum u t i = Memᴰ.append_right (map (λ j. sum_at u t j j) each_corner) (Memᴰ.map (λ j. sum_at u t j (next j)) (index_in i))

module _ (m : Plate) (known : Facts m) (u : Values) where
  -- two sums at one place are equal
  sums_agree : (s t : Triangle) (a b i j : Corner) → In m known s → In m known t → middle (corner s a) (corner s b) ≡ middle (corner t i) (corner t j) →
      u (corner s a) +ℤ u (corner s b) ≡ u (corner t i) +ℤ u (corner t j)
  sums_agree s t a b i j ns nt e =
      ⊎_elim (λ c. ⊎_elim (λ d. doubles c.0 d.0 c.1 d.1) (λ d. absurd (no_middle m known s t c.0 d.0 ns nt (sym c.1.place ∙ e ∙ d.1.place))) (corner_or_middle u t i j))
      (λ c. ⊎_elim (λ d. absurd (no_middle m known t s d.0 c.0 nt ns (sym d.1.place ∙ sym e ∙ c.1.place))) (λ d. middles c.0 d.0 c.1 d.1) (corner_or_middle u t i j)) (corner_or_middle u s a b)
    where
      doubles : (k l : Corner) → SameSum u s a b k k → SameSum u t i j l l → u (corner s a) +ℤ u (corner s b) ≡ u (corner t i) +ℤ u (corner t j)
      doubles k l x y =
          let one = ap u (twice_is (corner s k) (corner t l) (sym x.place ∙ e ∙ y.place)) in
          x.sum ∙ ap₂ ◌+ℤ◌ one one ∙ sym y.sum

      middles : (k l : Corner) → SameSum u s a b k (next k) → SameSum u t i j l (next l) → u (corner s a) +ℤ u (corner s b) ≡ u (corner t i) +ℤ u (corner t j)
      middles k l x y = grind (arith, +ℤ_comm, same_middle)

  pub carried_sums : (t : Triangle) → Memᴰ t m.triangles → (i j : Corner) → carried u m (middle (corner t i) (corner t j)) ≡ u (corner t i) +ℤ u (corner t j)
  unfolding carried
  carried_sums t nt i j =
      ⊎_elim (λ c. found c.0 c.0 c.1 (corner_sum u t c.0)) (λ c. found c.0 (next c.0) c.1 (middle_sum u t c.0)) (corner_or_middle u t i j)
    where
      found : (k l : Corner) → SameSum u t i j k l → Memᴰ (sum_at u t k l) (sums_in u t) → first_at (flat_map (sums_in u) m.triangles) (middle (corner t i) (corner t j)) ≡ u (corner t i) +ℤ u (corner t j)
      found k l x n =
          first_is (flat_map (sums_in u) m.triangles) (middle (corner t i) (corner t j)) (u (corner t i) +ℤ u (corner t j)) (sum_at u t k l) (member_flat_map (sums_in u) m.triangles t (sum_at u t k l) nt n) (sym x.place) (λ r nr at.
          let s = flat_map_member (sums_in u) m.triangles r nr in
          let which = sum_out u s.0 r s.2 in
          ap (λ p. p.value) which.2 ∙ sums_agree s.0 t which.0 which.1 i j s.1 nt (sym (ap (λ p. p.at) which.2) ∙ at))

pub carried_there : CarriedThere
carried_there m ok u = record { sums = carried_sums m (facts m ok) u }
