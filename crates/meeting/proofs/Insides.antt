-- Whether a point is inside an edge, as the code comes to it; d is the edge's direction. Assumes nothing.
use Rattle.std.proofs.Common.{◌≡◌, false, ◌&&◌, ℤ, sym, ap, ◌∙◌, ap₂, ⊎_elim}
use lib.Signed.{lt_z}
use Rattle.std.proofs.lemmas.Bool.{cases_Bool}
use Rattle.rules.specs.declared.Edge.{Edge}
use Rattle.rules.specs.declared.Point.{Point}
use Rattle.rules.specs.declared.Vector.{Vector}
use Rattle.rules.specs.Edges.{direction, across, along, inside}
use Rattle.rules.specs.Plates.{same}
use Rattle.theory.proofs.Sameness.{same_is}

module _ (e : Edge) (r : Point) (d : Vector) (is : d ≡ direction e) where
  module _ (p q : ℤ) (is-p : p ≡ across d r) (is-q : q ≡ across d e.from) where
    level : same (across (direction e) r) (across (direction e) e.from) ≡ same p q
    level = ap₂ same (sym (is-p ∙ ap (λ v. across v r) is)) (sym (is-q ∙ ap (λ v. across v e.from) is))

    pub off : (p ≡ q → ⊥) → inside e r ≡ false
    unfolding inside
    off differ =
        let d' = direction e in
        let not_same : same p q ≡ false = ⊎_elim (λ t. absurd (differ (same_is p q t))) (λ f. f) (cases_Bool (same p q)) in
        ap (λ b. b && (lt_z (along d' e.from) (along d' r) && lt_z (along d' r) (along d' e.to))) (level ∙ not_same)
