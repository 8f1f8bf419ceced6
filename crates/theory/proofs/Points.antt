-- The points of a plate in their order: each corner is one of them, and values in a row are found at them. Assumes nothing.
use Rattle.std.proofs.Common.{◌≡◌, ℕ, suc, Bool, ltb, ◌||◌, ◌+◌, true, false, cond, not, ◌⊎◌, List, [], ◌∷◌, ◌++◌, map, length, pos, fold, sym, refl, ap, ◌∙◌, subst, inl, inr, ⊎_elim, arith}
use mathlib.Core.List.Memᴰ
use mathlib.Core.List.{Memᴰ}
use Rattle.std.proofs.lemmas.Bool.{cond_both, ltb-true}
use Rattle.std.proofs.lemmas.List.{get_or-map}
use Rattle.std.proofs.lemmas.List.Sums.{passes_at_first}
use Rattle.exact.specs.Lists.{any}
use Rattle.exact.proofs.Members.{any_out, any_in}
use Rattle.rules.specs.declared.Point.{Point}
use Rattle.rules.specs.declared.Triangle.{Triangle}
use Rattle.rules.specs.declared.Corner.{Corner}
use Rattle.rules.specs.declared.Corner.TheVariants.{A, B, C}
use Rattle.rules.specs.Edges.{corner}
use Rattle.rules.specs.Laws.{PointsAreCorners}
use Rattle.rules.specs.Plates.{Values, same_point, place_of, among, noted, corners_noted, values_at}
use Rattle.theory.proofs.Sameness.{point_is, same_point_refl}

-- ---- the points that a list has
pub among_is : (p : Point) (ps : List Point) → among p ps ≡ any (same_point p) ps
among_is p [] = refl
among_is p (q ∷ ps) = step (same_point p q) (place_of p ps) (length ps) ∙ ap (λ b. same_point p q || b) (among_is p ps)
  where
    step : (b : Bool) (k n : ℕ) → ltb (cond (not b) (1 + k) 0) (suc n) ≡ (b || ltb k n)
    step b k n = grind arith

pub among_out : (p : Point) (ps : List Point) → among p ps ≡ true → Memᴰ p ps
among_out p ps h = let at = any_out (same_point p) ps (sym (among_is p ps) ∙ h) in Memᴰ.cast (point_is p at.0 at.2) at.1

pub among_in : (p : Point) (ps : List Point) → Memᴰ p ps → among p ps ≡ true
among_in p ps n = among_is p ps ∙ any_in (same_point p) ps p n (same_point_refl p)

-- values in the order of the points
pub found : (ps : List Point) (f : Values) (p : Point) → Memᴰ p ps → values_at ps (map f ps) p ≡ f p
found ps f p n =
    let within = ltb-true (place_of p ps) (length ps) (among_in p ps n) in
    get_or-map f ps (place_of p ps) p (pos 0) within ∙ ap f (sym (point_is p _ (passes_at_first (same_point p) ps p within)))

found_later : (q : Point) (ps : List Point) (f : Values) (p : Point) → same_point p q ≡ false → values_at (q ∷ ps) (map f (q ∷ ps)) p ≡ values_at ps (map f ps) p
found_later q ps f p t = grind arith

-- ---- each corner is one of the points
pub noted_keeps : (p q : Point) (ps : List Point) → Memᴰ p ps → Memᴰ p (noted ps q)
unfolding noted
noted_keeps p q ps n = cond_both (among q ps) ps (ps ++ q ∷ []) (Memᴰ p) (λ t. n) (λ f. Memᴰ.append_left (q ∷ []) n)

pub noted_there : (q : Point) (ps : List Point) → Memᴰ q (noted ps q)
unfolding noted
noted_there q ps = cond_both (among q ps) ps (ps ++ q ∷ []) (Memᴰ q) (among_out q ps) (λ f. Memᴰ.append_right ps (Memᴰ.head refl))

corners_kept : (p : Point) (ps : List Point) (t : Triangle) → Memᴰ p ps → Memᴰ p (corners_noted ps t)
corners_kept p ps t n = noted_keeps p t.c _ (noted_keeps p t.b _ (noted_keeps p t.a ps n))

corner_noted : (ps : List Point) (t : Triangle) (i : Corner) → Memᴰ (corner t i) (corners_noted ps t)
corner_noted ps t A = noted_keeps t.a t.c _ (noted_keeps t.a t.b _ (noted_there t.a ps))
corner_noted ps t B = noted_keeps t.b t.c _ (noted_there t.b _)
corner_noted ps t C = noted_there t.c _

points_kept : (p : Point) (ps : List Point) (ts : List Triangle) → Memᴰ p ps → Memᴰ p (fold corners_noted ps ts)
points_kept p ps [] n = n
points_kept p ps (t ∷ ts) n = points_kept p (corners_noted ps t) ts (corners_kept p ps t n)

pub corner_listed : (ps : List Point) (ts : List Triangle) (t : Triangle) (i : Corner) → Memᴰ t ts → Memᴰ (corner t i) (fold corners_noted ps ts)
corner_listed ps [] t i n = elim n [ ]
corner_listed ps (s ∷ ts) t i (Memᴰ.head e) = points_kept (corner t i) (corners_noted ps s) ts (subst (λ r. Memᴰ (corner t i) (corners_noted ps r)) e (corner_noted ps t i))
corner_listed ps (s ∷ ts) t i (Memᴰ.tail n) = corner_listed (corners_noted ps s) ts t i n

-- ---- and each point is a corner
abbrev CornerOf : Point → List Triangle → Type 0
CornerOf p ts = (t : Triangle) × (i : Corner) × Memᴰ t ts × (p ≡ corner t i)

noted_out : (p q : Point) (ps : List Point) → Memᴰ p (noted ps q) → Memᴰ p ps ⊎ (p ≡ q)
unfolding noted
noted_out p q ps = cond_both (among q ps) ps (ps ++ q ∷ []) (λ qs. Memᴰ p qs → Memᴰ p ps ⊎ (p ≡ q)) (λ t n. inl n) (λ f n. ⊎_elim inl (λ m. inr (Memᴰ.eq_of_singleton m)) (Memᴰ.append_cases ps n))

corners_out : (p : Point) (ps : List Point) (t : Triangle) → Memᴰ p (corners_noted ps t) → Memᴰ p ps ⊎ ((i : Corner) × (p ≡ corner t i))
corners_out p ps t n =
    ⊎_elim (λ b. ⊎_elim (λ a. ⊎_elim inl (λ e. inr (A, e)) (noted_out p t.a ps a)) (λ e. inr (B, e)) (noted_out p t.b _ b)) (λ e. inr (C, e)) (noted_out p t.c _ n)

points_out : (p : Point) (ps : List Point) (ts : List Triangle) → Memᴰ p (fold corners_noted ps ts) → Memᴰ p ps ⊎ CornerOf p ts
points_out p ps [] n = inl n
points_out p ps (t ∷ ts) n =
    ⊎_elim (λ m. ⊎_elim inl (λ c. inr (t, c.0, Memᴰ.head refl, c.1)) (corners_out p ps t m)) (λ c. inr (c.0, c.1, Memᴰ.tail c.2, c.3)) (points_out p (corners_noted ps t) ts n)

pub points_are_corners : PointsAreCorners
points_are_corners m = grind (arith, among_in, corner_listed, points_out, among_out)
