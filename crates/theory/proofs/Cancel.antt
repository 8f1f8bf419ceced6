-- What changes its sign with an edge's direction cancels inside a plate: of a sum along all edges of the triangles the outline's is left.
-- Assumes nothing.
use Rattle.std.proofs.Common.{◌≡◌, Bool, true, cond, List, ℤ, pos, ◌+ℤ◌, ◌*ℤ◌, neg_ℤ, sym, ap, ◌∙◌, arith}
use mathlib.Core.List.{Memᴰ}
use borrow.Author.Differences.{ints}
use Rattle.exact.specs.Lists.{sum_z}
use Rattle.exact.proofs.Integers.{*ℤ_distribʳ}
use Rattle.exact.proofs.Ring.{one_times}
use Rattle.exact.proofs.Sums.{sum_z_+ℤ, sum_z_cong, sum_z_cong_mem, sum_z_cond_const, sum_z_swap, sum_z_cancels}
use Rattle.rules.specs.declared.Edge.{Edge}
use Rattle.rules.specs.Edges.{back, same_edge}
use Rattle.rules.specs.Lawful.{edges, outline_edges, times}
use Rattle.rules.specs.Plates.{Plate}
use Rattle.theory.proofs.Facts.{Facts}
use Rattle.theory.proofs.Sameness.{edge_is, same_edge_sym, same_edge_back}

-- what stands where a test passes
where_passed : (b : Bool) (x y : ℤ) → (b ≡ true → x ≡ y) → cond b x (pos 0) ≡ cond b y (pos 0)
where_passed b x y h = grind arith

-- a number for each time that an edge stands among others
times_is : (z : ℤ) (e : Edge) (es : List Edge) → sum_z (λ f. cond (same_edge e f) z (pos 0)) es ≡ pos (times e es) *ℤ z
unfolding times
times_is z e es = sum_z_cond_const (same_edge e) z es

module _ (X : Edge → ℤ) (turns : (e : Edge) → X (back e) ≡ neg_ℤ (X e)) where
  -- an edge's own, where f is its back
  abbrev against : Edge → Edge → ℤ
  against e f = cond (same_edge (back e) f) (X e) (pos 0)

  against_turns : (e f : Edge) → against e f ≡ neg_ℤ (against f e)
  against_turns e f = grind (arith, edge_is, same_edge_back)

  -- over edges and their backs among them nothing is left
  inner : (es : List Edge) → sum_z (λ e. pos (times (back e) es) *ℤ X e) es ≡ pos 0
  inner es = sym (sum_z_cong es (λ e. times_is (X e) (back e) es)) ∙ sum_z_cancels against against_turns es

  -- over two lists of edges that have some in common: counted in the one, or in the other
  outer : (es bs : List Edge) → sum_z (λ e. pos (times e bs) *ℤ X e) es ≡ sum_z (λ b. pos (times b es) *ℤ X b) bs
  outer es bs =
      sym (sum_z_cong es (λ e. times_is (X e) e bs)) ∙ sum_z_swap (λ e b. cond (same_edge e b) (X e) (pos 0)) es bs
      ∙ sum_z_cong bs (λ b. sum_z_cong es (λ e. where_passed (same_edge e b) (X e) (X b) (λ t. ap X (edge_is e b t)) ∙ ap (λ t. cond t (X b) (pos 0)) (same_edge_sym e b)) ∙ times_is (X b) b es)

  pub cancel : (m : Plate) → Facts m → sum_z X (edges m.triangles) ≡ sum_z X (outline_edges m)
  cancel m known =
      let E = edges m.triangles in
      let B = outline_edges m in
      let shared : (e : Edge) → Memᴰ e E → X e ≡ (pos (times (back e) E) *ℤ X e) +ℤ (pos (times e B) *ℤ X e) =
      λ e at. sym (one_times (X e)) ∙ ap (λ n. pos n *ℤ X e) (sym (known.is_paired e at)) ∙ *ℤ_distribʳ (pos (times (back e) E)) (pos (times e B)) (X e) in
      let left : sum_z (λ b. pos (times b E) *ℤ X b) B ≡ sum_z X B =
      sum_z_cong_mem B (λ b at. ap (λ n. pos n *ℤ X b) (known.once b (known.borders b at)) ∙ one_times (X b)) in
      let split = sum_z_cong_mem E shared ∙ sum_z_+ℤ (λ e. pos (times (back e) E) *ℤ X e) (λ e. pos (times e B) *ℤ X e) E in
      let none = inner E in
      let rest = outer E B in
      omega (arith, ints)
