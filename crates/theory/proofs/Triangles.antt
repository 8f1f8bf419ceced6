-- The identities of one triangle, and its law. Assumes nothing.
use Rattle.std.proofs.Common.{◌≡◌, ℕ, T, ltb, List, [], ◌∷◌, ℤ, pos, ◌+ℤ◌, ◌-ℤ◌, ◌*ℤ◌, nat_abs, ◌≤ℤ◌, sym, ap, ◌∙◌, ap₂, arith}
use borrow.Author.Differences.{ints}
use lib.Signed.{lt_z}
use Rattle.std.proofs.lemmas.Bool.{and_parts}
use Rattle.exact.proofs.Certificates.{◌≼◌, ◌≈◌, hyp, lit, sqr, off, ◌⊞◌, ◌⊠◌, natural, prove≤}
use Rattle.exact.proofs.Ring.{Expr, var, con, ◌⊕◌, ◌⊗◌, ◌⊝◌, ⊖◌, value, same, solve}
use Rattle.rules.specs.declared.Triangle.{Triangle}
use Rattle.rules.specs.declared.Corners.{Corners}
use Rattle.rules.specs.Triangles.{area2, weighed, turned, norm, around}
use Rattle.rules.specs.Parts.{Part, at_a, at_b, at_c, between, part}
use Rattle.rules.proofs.Norms.{norm_is}
use Rattle.rules.specs.Laws.{Cross, Squares, LocalLaw, PartsAlike}

-- ---- expressions for the corners' coordinates and for two sets of values; their numbers are `numbers t u s`
record Three : Type 0 where
  a : Expr
  b : Expr
  c : Expr

abbrev three : ℕ → ℕ → ℕ → Three
three i j k = record { a = var i; b = var j; c = var k }

abbrev X : Three
X = three 0 1 2

abbrev Y : Three
Y = three 3 4 5

abbrev U : Three
U = three 6 7 8

abbrev S : Three
S = three 9 10 11

abbrev K : Expr
K = var 12

abbrev numbers : Triangle → Corners → Corners → List ℤ
numbers t u s =
    t.a.x ∷ t.b.x ∷ t.c.x ∷ t.a.y ∷ t.b.y ∷ t.c.y ∷ u.a ∷ u.b ∷ u.c ∷ s.a ∷ s.b ∷ s.c ∷ pos t.k ∷ []

abbrev Weighed : Three → Three → Expr
Weighed u w = (u.a ⊗ (w.c ⊝ w.b)) ⊕ ((u.b ⊗ (w.a ⊝ w.c)) ⊕ (u.c ⊗ (w.b ⊝ w.a)))

abbrev Area : Three → Three → Expr
Area x y = ((x.b ⊝ x.a) ⊗ (y.c ⊝ y.a)) ⊝ ((x.c ⊝ x.a) ⊗ (y.b ⊝ y.a))

abbrev Exchange : Expr → Expr → Expr → Expr → Expr
Exchange up uq sp sq = (up ⊕ uq) ⊗ (sq ⊝ sp)

abbrev Around : Three → Three → Expr
Around u s = Exchange u.a u.b s.a s.b ⊕ (Exchange u.b u.c s.b s.c ⊕ Exchange u.c u.a s.c s.a)

pub cross : Cross
unfolding area2 weighed turned around
cross t u s =
    solve (numbers t u s) ((Weighed U X ⊗ Weighed S Y) ⊝ (Weighed U Y ⊗ Weighed S X)) (Area X Y ⊗ Around U S) tt

abbrev Square : Expr → Expr
Square e = e ⊗ e

abbrev Norm : Three → Expr
Norm u = Square (Weighed u X) ⊕ Square (Weighed u Y)

pub squares : Squares
unfolding area2 weighed turned around
squares t u s =
    solve (numbers t u s) (Square ((K ⊗ Weighed U X) ⊝ Weighed S Y) ⊕ Square ((K ⊗ Weighed U Y) ⊕ Weighed S X))
    (((Square K ⊗ Norm U) ⊕ Norm S) ⊝ (con (pos 2) ⊗ (K ⊗ (Area X Y ⊗ Around U S)))) tt
    ∙ ap₂ (λ m n. (((pos t.k *ℤ pos t.k) *ℤ m) +ℤ n) -ℤ (pos 2 *ℤ (pos t.k *ℤ (area2 t *ℤ around u s)))) (sym (norm_is (turned t u))) (sym (norm_is (turned t s)))

-- the law over the numbers that it speaks of, d being twice the area, above 0: twice d times the sum of two squares is not negative
law_over : (k d w nu ns ux uy sx sy : ℤ) → pos 0 ≤ℤ d → nu ≡ (ux *ℤ ux) +ℤ (uy *ℤ uy) → ns ≡ (sx *ℤ sx) +ℤ (sy *ℤ sy) → (ux *ℤ sy) -ℤ (uy *ℤ sx) ≡ d *ℤ w →
    (w *ℤ ((pos 2 *ℤ d) *ℤ ((pos 2 *ℤ d) *ℤ k))) ≤ℤ ((((k *ℤ nu) *ℤ ((pos 2 *ℤ d) *ℤ k)) +ℤ (ns *ℤ (pos 2 *ℤ d))) *ℤ pos 1)
law_over k d w nu ns ux uy sx sy above is-nu is-ns spans =
    let k' = var 0 in let d' = var 1 in let w' = var 2 in let nu' = var 3 in let ns' = var 4 in
    let ux' = var 5 in let uy' = var 6 in let sx' = var 7 in let sy' = var 8 in
    let two : Expr = con (pos 2) in
    prove≤ (k ∷ d ∷ w ∷ nu ∷ ns ∷ ux ∷ uy ∷ sx ∷ sy ∷ [])
    ((con (pos 0) ≼ d') ∷ (nu' ≈ (Square ux' ⊕ Square uy')) ∷ (ns' ≈ (Square sx' ⊕ Square sy')) ∷ (((ux' ⊗ sy') ⊝ (uy' ⊗ sx')) ≈ (d' ⊗ w')) ∷ [])
    ((lit 2 ⊠ (hyp 0 ⊠ (sqr ((k' ⊗ ux') ⊝ sy') ⊞ sqr ((k' ⊗ uy') ⊕ sx')))) ⊞ off 1 (⊖ (two ⊗ (d' ⊗ Square k'))) ⊞ off 2 (⊖ (two ⊗ d')) ⊞ off 3 (⊖ (con (pos 4) ⊗ (d' ⊗ k'))))
    (w' ⊗ ((two ⊗ d') ⊗ ((two ⊗ d') ⊗ k')))
    ((((k' ⊗ nu') ⊗ ((two ⊗ d') ⊗ k')) ⊕ (ns' ⊗ (two ⊗ d'))) ⊗ con (pos 1)) tt
    (above, (is-nu, (is-ns, (spans, tt))))

pub local_law : LocalLaw
local_law t ok u s =
    let v = turned t u in
    let w = turned t s in
    let d = area2 t in
    let above = and_parts (lt_z (pos 0) d) (ltb 0 t.k) ok in
    let size : d ≡ pos (nat_abs d) = omega (arith, ints) in
    law_over (pos t.k) (pos (nat_abs d)) (around u s) (pos (norm v)) (pos (norm w)) v.x v.y w.x w.y (natural (nat_abs d)) (norm_is v) (norm_is w)
    (cross t u s ∙ ap (λ z. z *ℤ around u s) size)

-- ---- the four parts
abbrev split : Part → Three → Three
split at_a v = record { a = v.a ⊕ v.a; b = v.a ⊕ v.b; c = v.c ⊕ v.a }
split at_b v = record { a = v.a ⊕ v.b; b = v.b ⊕ v.b; c = v.b ⊕ v.c }
split at_c v = record { a = v.c ⊕ v.a; b = v.b ⊕ v.c; c = v.c ⊕ v.c }
split between v = record { a = v.a ⊕ v.b; b = v.b ⊕ v.c; c = v.c ⊕ v.a }

-- a part with the corners P has the whole's gradient, in both coordinates, and its area, where the three tests pass
alike : (ρ : List ℤ) (P : Three → Three) → T (same ρ (Weighed (P U) (P X)) (Weighed U X)) → T (same ρ (Weighed (P U) (P Y)) (Weighed U Y)) → T (same ρ (Area (P X) (P Y)) (Area X Y)) →
    (value ρ (Weighed (P U) (P X)) ≡ value ρ (Weighed U X)) × (value ρ (Weighed (P U) (P Y)) ≡ value ρ (Weighed U Y)) × (value ρ (Area (P X) (P Y)) ≡ value ρ (Area X Y))
alike ρ P x y area =
    (solve ρ (Weighed (P U) (P X)) (Weighed U X) x, solve ρ (Weighed (P U) (P Y)) (Weighed U Y) y, solve ρ (Area (P X) (P Y)) (Area X Y) area)

pub parts_alike : PartsAlike
unfolding area2 weighed turned
parts_alike at_a t u = let e = alike (numbers t u u) (split at_a) tt tt tt in (λ i. record { x = e.0 i; y = e.1 i }, e.2)
parts_alike at_b t u = let e = alike (numbers t u u) (split at_b) tt tt tt in (λ i. record { x = e.0 i; y = e.1 i }, e.2)
parts_alike at_c t u = let e = alike (numbers t u u) (split at_c) tt tt tt in (λ i. record { x = e.0 i; y = e.1 i }, e.2)
parts_alike between t u = let e = alike (numbers t u u) (split between) tt tt tt in (λ i. record { x = e.0 i; y = e.1 i }, e.2)

pub part_k : (p : Part) (t : Triangle) → (part p t).k ≡ t.k
part_k p t = grind arith
