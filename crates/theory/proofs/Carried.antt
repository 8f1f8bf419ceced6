-- Carried to the finer plate, fields stay fields and streams stay streams, and all sums become four times as large. Assumes nothing.
use Rattle.std.proofs.Common.{◌≡◌, ℕ, ◌*◌, true, ◌&&◌, List, [], ◌∷◌, ℤ, pos, ◌+ℤ◌, ◌-ℤ◌, ◌*ℤ◌, nat_abs, sum_by, sym, refl, ap, ◌∙◌, subst, ap₂, arith}
use mathlib.Core.List.Memᴰ
use mathlib.Core.List.{flat_map, Memᴰ}
use borrow.Author.Differences.{ints}
use Rattle.exact.specs.Fractions.{Fraction, ratio, whole, ◌+F◌, neg_f, scaled, sum_f, ◌≈F◌}
use Rattle.exact.specs.Lists.{sum_z, every}
use Rattle.exact.specs.Rounding.{up}
use Rattle.exact.proofs.Certificates.{◌≈◌, prove≡}
use Rattle.exact.proofs.Fractions.{≈F_of_≡, ≈F_+, ≤F_neg, scaled_+F, scaled_neg_f, four_times}
use Rattle.exact.proofs.FractionSums.{sum_f_parts}
use Rattle.exact.proofs.Members.{every_flat_map, flat_map_flat_map}
use Rattle.exact.proofs.Ring.{var, con, ◌⊕◌, ◌⊗◌, ◌⊝◌, ⊖◌, solve}
use Rattle.exact.proofs.Sums.{sum_z_cong, sum_z_parts, sum_by_is}
use Rattle.rules.specs.declared.Edge.{Edge}
use Rattle.rules.specs.declared.Triangle.{Triangle}
use Rattle.rules.specs.declared.Corners.{Corners}
use Rattle.rules.specs.declared.Vector.{Vector}
use Rattle.rules.specs.declared.OutlineEdge.{OutlineEdge}
use Rattle.rules.specs.declared.OutlineEdge.TheVariants.{Closed, Held}
use Rattle.rules.specs.Bounds.{upper_in, up_drag_in, upper, up_drag, work, work_along}
use Rattle.rules.specs.declared.Corner.TheVariants.{A, B, C}
use Rattle.rules.specs.Edges.{next}
use Rattle.rules.specs.Energy.{is_field, is_stream, has, keeps, spent, drag, says}
use Rattle.rules.specs.Finer.{parts, halves, finer, Carried}
use Rattle.rules.specs.Lawful.{edge_of, outline_edges, held, held_ends}
use Rattle.rules.specs.Parts.{Part, at_a, at_b, at_c, between, part, middle, twice, carried_to}
use Rattle.rules.specs.Plates.{Plate, Values, corners_of}
use Rattle.rules.specs.Promises.{FieldsCarried, StreamsCarried, PrintedCarried}
use Rattle.rules.specs.Triangles.{area2, turned, norm}
use Rattle.theory.proofs.Facts.{Facts, facts, edge_out}
use Rattle.theory.proofs.Known.{field_at, stream_at}
use Rattle.theory.proofs.Sameness.{same_from}
use Rattle.theory.proofs.Triangles.{parts_alike}

-- ---- the four parts of a triangle
abbrev all_parts : List Part
all_parts = at_a ∷ at_b ∷ at_c ∷ between ∷ []

corners_equal : (u v : Corners) → u.a ≡ v.a → u.b ≡ v.b → u.c ≡ v.c → u ≡ v
corners_equal u v a b c = λ i. record { a = a i; b = b i; c = c i }

-- four equal numbers
sum_of_four : (f : Triangle → ℤ) (t : Triangle) (z : ℤ) → ((p : Part) → f (part p t) ≡ z) → sum_z f (parts t) ≡ pos 4 *ℤ z
sum_of_four f t z each = sum_z_cong all_parts each ∙ solve (z ∷ []) (var 0 ⊕ (var 0 ⊕ (var 0 ⊕ (var 0 ⊕ con (pos 0))))) (con (pos 4) ⊗ var 0) tt

sum_of_four_f : (f : Triangle → Fraction) (t : Triangle) (q : Fraction) → ((p : Part) → f (part p t) ≡ q) → sum_f f (parts t) ≈F scaled (pos 4) q
sum_of_four_f f t q each =
    let equal : sum_f f (parts t) ≡ sum_f (λ p. q) all_parts = λ i. sum_f (λ p. each p i) all_parts in
    subst (λ r. r ≈F scaled (pos 4) q) (sym equal) (four_times q)

-- whatever is made of the turned gradient, the area and k: it is the same in each part as in the whole
abbrev made : {X : Type 0} → (Vector → ℤ → ℕ → X) → Values → Triangle → X
made f w t = f (turned t (corners_of w t)) (area2 t) t.k

module _ (u v : Values) (m : Plate) (carried : Carried u v m) where
  corners_carried : (t : Triangle) → Memᴰ t m.triangles → (p : Part) → corners_of v (part p t) ≡ carried_to p (corners_of u t)
  corners_carried t at at_a = corners_equal _ _ (carried.sums t at A A) (carried.sums t at A B) (carried.sums t at C A)
  corners_carried t at at_b = corners_equal _ _ (carried.sums t at A B) (carried.sums t at B B) (carried.sums t at B C)
  corners_carried t at at_c = corners_equal _ _ (carried.sums t at C A) (carried.sums t at B C) (carried.sums t at C C)
  corners_carried t at between = corners_equal _ _ (carried.sums t at A B) (carried.sums t at B C) (carried.sums t at C A)

  alike : {X : Type 0} (f : Vector → ℤ → ℕ → X) (t : Triangle) → Memᴰ t m.triangles → (p : Part) → made f v (part p t) ≡ made f u t
  alike f t at p = grind (arith, parts_alike, corners_carried)

  -- sums of what is the same in each part
  fractions_carried : (f : Vector → ℤ → ℕ → Fraction) → sum_f (made f v) (flat_map parts m.triangles) ≈F scaled (pos 4) (sum_f (made f u) m.triangles)
  fractions_carried f =
      sum_f_parts (pos 4) (made f v) parts (made f u) m.triangles (λ t at. sum_of_four_f (made f v) t (made f u t) (alike f t at))

  spent_carried : spent v (finer m).triangles ≈F scaled (pos 4) (spent u m.triangles)
  unfolding spent finer
  spent_carried = fractions_carried (λ g a k. ratio (k * norm g) (2 * nat_abs a))

  drag_carried : drag v (finer m).triangles ≈F scaled (pos 4) (drag u m.triangles)
  unfolding drag finer
  drag_carried = fractions_carried (λ g a k. ratio (norm g) (2 * nat_abs a * k))

  naturals_carried : (f : Vector → ℤ → ℕ → ℕ) → sum_by (made f v) (flat_map parts m.triangles) ≡ 4 * sum_by (made f u) m.triangles
  naturals_carried f =
      let fine = sum_by_is (made f v) (flat_map parts m.triangles) in
      let coarse = sum_by_is (made f u) m.triangles in
      let four =
      sum_z_parts (pos 4) (λ t. pos (made f v t)) parts (λ t. pos (made f u t)) m.triangles
      (λ t at. sum_of_four (λ t. pos (made f v t)) t (pos (made f u t)) (alike (λ g a k. pos (f g a k)) t at)) in
      omega (arith, ints)

  upper_carried : upper v (finer m).triangles ≡ 4 * upper u m.triangles
  unfolding upper_in finer
  upper_carried = naturals_carried (λ g a k. k * up (norm g) (2 * nat_abs a))

  up_drag_carried : up_drag v (finer m).triangles ≡ 4 * up_drag u m.triangles
  unfolding up_drag_in finer
  up_drag_carried = naturals_carried (λ g a k. up (norm g) (2 * nat_abs a * k))

-- ---- the two halves of an outline edge
-- x, y and z being what is carried to the ends and the middle from the ends' a and b
work_of_halves : (g h a b x y z : ℤ) → x ≡ a +ℤ a → y ≡ a +ℤ b → z ≡ b +ℤ b →
    (((g +ℤ g) +ℤ (g +ℤ h)) *ℤ (y -ℤ x)) +ℤ ((((g +ℤ h) +ℤ (h +ℤ h)) *ℤ (z -ℤ y)) +ℤ pos 0) ≡ pos 4 *ℤ ((g +ℤ h) *ℤ (b -ℤ a))
work_of_halves g h a b x y z from halfway to =
    let g' = var 0 in let h' = var 1 in let a' = var 2 in let b' = var 3 in let x' = var 4 in let y' = var 5 in let z' = var 6 in
    let first = (g' ⊕ g') ⊕ (g' ⊕ h') in
    let second = (g' ⊕ h') ⊕ (h' ⊕ h') in
    prove≡ (g ∷ h ∷ a ∷ b ∷ x ∷ y ∷ z ∷ []) ((x' ≈ (a' ⊕ a')) ∷ (y' ≈ (a' ⊕ b')) ∷ (z' ≈ (b' ⊕ b')) ∷ []) ((⊖ first) ∷ (first ⊝ second) ∷ second ∷ [])
    ((first ⊗ (y' ⊝ x')) ⊕ ((second ⊗ (z' ⊝ y')) ⊕ con (pos 0))) (con (pos 4) ⊗ ((g' ⊕ h') ⊗ (b' ⊝ a'))) tt (from, (halfway, (to, tt)))

-- what v is at the ends and the middle of an edge
record CarriedAlong (u v : Values) (e : Edge) : Type 0 where
  from : v (twice e.from) ≡ u e.from +ℤ u e.from
  halfway : v (middle e.from e.to) ≡ u e.from +ℤ u e.to
  to : v (twice e.to) ≡ u e.to +ℤ u e.to

module _ (u v : Values) (m : Plate) (carried : Carried u v m) (known : Facts m) where
  carried_along : (b : OutlineEdge) → Memᴰ b m.outline → CarriedAlong u v (edge_of b)
  unfolding outline_edges
  carried_along b at =
      let found = edge_out m.triangles (edge_of b) (known.borders (edge_of b) (Memᴰ.map edge_of at)) in
      let t = found.0 in
      let i = found.1 in
      subst (CarriedAlong u v) (sym found.3)
      (record { from = carried.sums t found.2 i i; halfway = carried.sums t found.2 i (next i); to = carried.sums t found.2 (next i) (next i) })

  work_along_lem : (b : OutlineEdge) → Memᴰ b m.outline → sum_z (work_along v) (halves b) ≡ pos 4 *ℤ work_along u b
  unfolding work_along
  work_along_lem (Closed e) at = refl
  work_along_lem (Held e g h) at =
      let c = carried_along (Held e g h) at in
      work_of_halves g h (u e.from) (u e.to) (v (twice e.from)) (v (middle e.from e.to)) (v (twice e.to)) c.from c.halfway c.to

  work_carried : work v (finer m).outline ≡ pos 4 *ℤ work u m.outline
  unfolding finer
  work_carried = sum_z_parts (pos 4) (work_along v) halves (work_along u) m.outline work_along_lem

  temperatures : is_field u m ≡ true → (b : OutlineEdge) → Memᴰ b m.outline → every (has v) (flat_map held_ends (halves b)) ≡ true
  unfolding flat_map has
  temperatures field (Closed e) at = refl
  temperatures field (Held e g h) at =
      let c = carried_along (Held e g h) at in
      let ends = field_at u m field e g h at in
      let from = same_from (v (twice e.from)) (g +ℤ g) (c.from ∙ ap₂ ◌+ℤ◌ ends.0 ends.0) in
      let halfway = same_from (v (middle e.from e.to)) (g +ℤ h) (c.halfway ∙ ap₂ ◌+ℤ◌ ends.0 ends.1) in
      let to = same_from (v (twice e.to)) (h +ℤ h) (c.to ∙ ap₂ ◌+ℤ◌ ends.1 ends.1) in
      λ i. from i && (halfway i && (halfway i && (to i && true)))

  field_carried : is_field u m ≡ true → is_field v (finer m) ≡ true
  unfolding is_field held finer
  field_carried field = grind (arith, flat_map_flat_map, every_flat_map, temperatures)

  equal_ends : is_stream u m ≡ true → (b : OutlineEdge) → Memᴰ b m.outline → every (keeps v) (halves b) ≡ true
  unfolding keeps
  equal_ends stream (Closed e) at =
      let c = carried_along (Closed e) at in
      let ends = stream_at u m stream e at in
      let first = same_from (v (twice e.from)) (v (middle e.from e.to)) (c.from ∙ ap (λ z. u e.from +ℤ z) ends ∙ sym c.halfway) in
      let second = same_from (v (middle e.from e.to)) (v (twice e.to)) (c.halfway ∙ ap (λ z. z +ℤ u e.to) ends ∙ sym c.to) in
      λ i. first i && (second i && true)
  equal_ends stream (Held e g h) at = refl

  stream_carried : is_stream u m ≡ true → is_stream v (finer m) ≡ true
  unfolding is_stream finer
  stream_carried stream = every_flat_map (keeps v) halves m.outline (equal_ends stream)

  says_carried : says v (finer m) ≈F scaled (pos 4) (says u m)
  unfolding says
  says_carried =
      let drags = drag_carried u v m carried in
      let fine = drag v (finer m).triangles in
      let coarse = scaled (pos 4) (drag u m.triangles) in
      let w = whole (work u m.outline) in
      subst (λ p. says v (finer m) ≈F p) (ap (λ p. scaled (pos 4) w +F p) (sym (scaled_neg_f (pos 4) (drag u m.triangles))) ∙ sym (scaled_+F (pos 4) w (neg_f (drag u m.triangles))))
      (≈F_+ (whole (work v (finer m).outline)) (scaled (pos 4) w) (neg_f fine) (neg_f coarse) (≈F_of_≡ _ _ (ap whole work_carried)) (≤F_neg coarse fine drags.1, ≤F_neg fine coarse drags.0))

pub fields_carried : FieldsCarried
fields_carried m ok u v carried field = (field_carried u v m carried (facts m ok) field, spent_carried u v m carried)

pub streams_carried : StreamsCarried
streams_carried m ok s r carried stream = (stream_carried s r m carried (facts m ok) stream, says_carried s r m carried (facts m ok))

pub printed_carried : PrintedCarried
printed_carried m ok u v carried =
    let uppers = upper_carried u v m carried in
    let drags = up_drag_carried u v m carried in
    let works = work_carried u v m carried (facts m ok) in
    (uppers, drags, works, omega (arith, ints))
