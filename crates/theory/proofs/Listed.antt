-- A listed point is found at its own place, and no two points of a plate are the same. Assumes nothing.
use mathlib.Core.List.{Memᴰ}
use Rattle.std.proofs.Common.{◌≡◌, ℕ, zero, suc, ◌<◌, false, length, refl, List, [], ◌∷◌, ◌++◌, get_or, AllPairs, le_of_lt, pos, fold, ap, ◌∙◌, arith}
use Rattle.std.proofs.lemmas.List.Folds.{list_any_at}
use Rattle.std.proofs.lemmas.List.Quantifiers.{all_pairs_push}
use Rattle.std.proofs.lemmas.List.Sums.{position_or_len_is}
use Rattle.std.proofs.lemmas.Bool.{cond_both, both_ways, false_from_ne_true}
use Rattle.rules.specs.declared.Point.{Point}
use Rattle.rules.specs.declared.Triangle.{Triangle}
use Rattle.rules.specs.Plates.{same_point, among, noted, corners_noted}
use Rattle.rules.specs.Laws.{ValuesListed, PointsListed}
use Rattle.theory.proofs.Points.{among_is}
use Rattle.theory.proofs.Sameness.{same_point_refl}

pub values_listed : ValuesListed
values_listed ps zs i d h first = ap (λ k. get_or zs k (pos 0)) (position_or_len_is (same_point (get_or ps i d)) ps i d (le_of_lt h) first (λ within. same_point_refl (get_or ps i d)))

-- ---- no two points of a plate are the same
Distinct : List Point → Type 0
Distinct ps = AllPairs (λ p q. same_point q p ≡ false) ps

pub get_or_in : (ps : List Point) (i : ℕ) (d : Point) → i < length ps → Memᴰ (get_or ps i d) ps
get_or_in [] i d h = absurd (omega arith)
get_or_in (p ∷ ps) zero d h = Memᴰ.head refl
get_or_in (p ∷ ps) (suc i) d h = Memᴰ.tail (get_or_in ps i d (omega arith))

distinct_more : (ps : List Point) (p : Point) → Distinct ps → among p ps ≡ false → Distinct (ps ++ p ∷ [])
unfolding Distinct
distinct_more ps p apart new =
    all_pairs_push (λ p q. same_point q p ≡ false) ps p apart (λ k d below.
    false_from_ne_true (same_point p (get_or ps k d)) (λ t. both_ways (among p ps) new (among_is p ps ∙ list_any_at (same_point p) ps k d below t)))

distinct_noted : (ps : List Point) (p : Point) → Distinct ps → Distinct (noted ps p)
unfolding noted
distinct_noted ps p apart = cond_both (among p ps) ps (ps ++ p ∷ []) Distinct (λ t. apart) (distinct_more ps p apart)

distinct_points : (ps : List Point) (ts : List Triangle) → Distinct ps → Distinct (fold corners_noted ps ts)
distinct_points ps [] apart = apart
distinct_points ps (t ∷ ts) apart = distinct_points (corners_noted ps t) ts (distinct_noted _ t.c (distinct_noted _ t.b (distinct_noted ps t.a apart)))

pub points_listed : PointsListed
unfolding Distinct
points_listed m zs i d within = grind (arith, values_listed, distinct_points)
