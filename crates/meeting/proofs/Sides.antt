-- Whether a direction parts two triangles, by how far their corners lie across it. Assumes nothing.
use Rattle.std.proofs.Common.{◌≡◌, true, false, ◌||◌, List, map, ℤ, sym, refl, ◌∙◌, ap₂}
use Rattle.rules.specs.declared.Triangle.{Triangle}
use Rattle.rules.specs.declared.Vector.{Vector}
use Rattle.rules.specs.Edges.{across, corners_in}
use Rattle.rules.specs.Lawful.{before, one_side}
use Rattle.meeting.specs.Heights.{below}

before_is : (d : Vector) (s t : Triangle) → before d s t ≡ below (map (across d) (corners_in s)) (map (across d) (corners_in t))
unfolding before
before_is d s t = refl

module _ (d : Vector) (s t : Triangle) (u v : List ℤ) (is-u : u ≡ map (across d) (corners_in s)) (is-v : v ≡ map (across d) (corners_in t)) where
  one_side_is : one_side s t d ≡ (below u v || below v u)
  one_side_is = ap₂ ◌||◌ (before_is d s t ∙ sym (ap₂ below is-u is-v)) (before_is d t s ∙ sym (ap₂ below is-v is-u))

  pub this_way : true ≡ below u v → true ≡ one_side s t d
  this_way h = sym (one_side_is ∙ sym (λ i. h i || below v u))

  pub other_way : false ≡ below u v → below v u ≡ one_side s t d
  other_way h = sym (one_side_is ∙ sym (λ i. h i || below v u))
