-- The printed numbers are on the safe side: one triangle's rounding, summed over a plate. Assumes nothing.
use Rattle.std.proofs.Common.{ℕ, List, pos, neg_ℤ, sum_by, sym, ap, ◌∙◌, subst}
use mathlib.Core.List.{Memᴰ}
use Rattle.exact.specs.Fractions.{Fraction, whole, ◌-F◌, neg_f, sum_f, ◌≤F◌}
use Rattle.exact.proofs.Fractions.{≤F_refl, ≤F_+, ≤F_neg, whole_+F}
use Rattle.exact.proofs.FractionSums.{sum_f_whole, sum_f_≤F}
use Rattle.exact.proofs.Sums.{sum_by_is}
use Rattle.rules.specs.declared.Triangle.{Triangle}
use Rattle.rules.specs.Bounds.{upper_in, up_drag_in, up_drag, work}
use Rattle.rules.specs.Energy.{spent, drag, says}
use Rattle.rules.specs.Plates.{corners_of}
use Rattle.rules.specs.Promises.{Printed}
use Rattle.rules.specs.Triangles.{spent_in, drag_in}
use Rattle.theory.proofs.Facts.{facts}
use Rattle.theory.proofs.Rounding.{rounded_up}

-- fractions that are at most naturals, summed
sum_at_most : {A : Type 0} (f : A → Fraction) (n : A → ℕ) (xs : List A) → ((x : A) → Memᴰ x xs → f x ≤F whole (pos (n x))) → sum_f f xs ≤F whole (pos (sum_by n xs))
sum_at_most f n xs each =
    subst (λ p. sum_f f xs ≤F p) (sum_f_whole (λ x. pos (n x)) xs ∙ ap whole (sym (sum_by_is n xs))) (sum_f_≤F f (λ x. whole (pos (n x))) xs each)

pub printed : Printed
unfolding spent drag says
printed m ok u s =
    let ts = m.triangles in
    let drags : Triangle → Fraction = λ t. drag_in t (corners_of s t) in
    let most : sum_f drags ts ≤F whole (pos (up_drag s ts)) =
    sum_at_most drags (λ t. up_drag_in t (corners_of s t)) ts (λ t at. (rounded_up t ((facts m ok).is_proper t at) (corners_of s t)).1) in
    let w = whole (work s m.outline) in
    let least : (w -F whole (pos (up_drag s ts))) ≤F (w -F sum_f drags ts) =
    ≤F_+ w w (neg_f (whole (pos (up_drag s ts)))) (neg_f (sum_f drags ts)) (≤F_refl w) (≤F_neg (sum_f drags ts) (whole (pos (up_drag s ts))) most) in (
      sum_at_most (λ t. spent_in t (corners_of u t)) (λ t. upper_in t (corners_of u t)) ts (λ t at. (rounded_up t ((facts m ok).is_proper t at) (corners_of u t)).0),
      subst (λ p. p ≤F (w -F sum_f drags ts)) (whole_+F (work s m.outline) (neg_ℤ (pos (up_drag s ts)))) least,
    )
