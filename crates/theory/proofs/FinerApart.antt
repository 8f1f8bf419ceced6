-- The triangles of a finer plate are parted: by a direction that parts those they are cut from, or by an edge of the one they share. Assumes nothing.
use Rattle.std.proofs.Common.{◌≡◌, ℕ, ◌+◌, Bool, true, leb, ◌⊎◌, List, [], ◌∷◌, ◌++◌, map, ℤ, pos, ◌+ℤ◌, ◌*ℤ◌, sym, refl, ap, ◌∙◌, subst, ap₂, inl, inr, ⊎_elim, arith}
use mathlib.Core.List.Memᴰ
use mathlib.Core.List.{flat_map, Memᴰ}
use borrow.Author.Differences.{ints}
use Rattle.std.proofs.lemmas.Bool.{and_parts, and_from, or_cases, leb-true}
use Rattle.std.proofs.lemmas.List.Folds.{list_all-append}
use Rattle.exact.specs.Lists.{every}
use Rattle.exact.proofs.Members.{every_out, every_in, any_out, any_in, flat_map_member}
use Rattle.exact.proofs.Order.{*ℤ_≤ℤ}
use Rattle.exact.proofs.Ring.{var, ◌⊕◌, ◌⊗◌, solve}
use Rattle.rules.specs.declared.Triangle.{Triangle}
use Rattle.rules.specs.declared.Vector.{Vector}
use Rattle.rules.specs.declared.Corner.{Corner}
use Rattle.rules.specs.declared.Corner.TheVariants.{A, B, C}
use Rattle.rules.specs.Edges.{each_corner, next, corner, edge, edges_in, direction, across}
use Rattle.rules.specs.Finer.{parts}
use Rattle.rules.specs.Lawful.{before, one_side, directions, parted, apart}
use Rattle.rules.specs.Parts.{Part, at_a, at_b, at_c, between, part, middle}
use Rattle.rules.specs.Triangles.{area2, proper}
use Rattle.theory.proofs.Corners.{level, higher, area_above}
use Rattle.theory.proofs.Facts.{index_in, edge_among, edge_index}
use Rattle.theory.proofs.Plane.{opposite, across_middle}
use Rattle.theory.proofs.Separated.{Sides, before_in, before_out, sides_opposite}

-- ---- a corner of a part is the middle of two corners of the whole
abbrev pub one_of : Part → Corner → Corner
one_of at_a A = A
one_of at_a B = A
one_of at_a C = C
one_of at_b A = A
one_of at_b B = B
one_of at_b C = B
one_of at_c A = C
one_of at_c B = B
one_of at_c C = C
one_of between A = A
one_of between B = B
one_of between C = C

abbrev pub other_of : Part → Corner → Corner
other_of at_a A = A
other_of at_a B = B
other_of at_a C = A
other_of at_b A = B
other_of at_b B = B
other_of at_b C = C
other_of at_c A = A
other_of at_c B = C
other_of at_c C = C
other_of between A = B
other_of between B = C
other_of between C = A

pub corner_part : (p : Part) (t : Triangle) (i : Corner) → corner (part p t) i ≡ middle (corner t (one_of p i)) (corner t (other_of p i))
corner_part p t i = grind arith

pub across_part : (d : Vector) (p : Part) (t : Triangle) (i : Corner) → across d (corner (part p t) i) ≡ across d (corner t (one_of p i)) +ℤ across d (corner t (other_of p i))
across_part d p t i = ap (across d) (corner_part p t i) ∙ across_middle d (corner t (one_of p i)) (corner t (other_of p i))

sides_parts : (d : Vector) (s t : Triangle) (p q : Part) → Sides d s t → Sides d (part p s) (part q t)
sides_parts d s t p q h i j =
    let left = across_part d p s i in
    let right = across_part d q t j in
    let one = h (one_of p i) (one_of q j) in
    let two = h (other_of p i) (other_of q j) in
    omega (arith, ints)

-- ---- a part has the directions of the whole, up to their sense
abbrev turned_edge : Part → Corner → Corner
turned_edge at_a i = i
turned_edge at_b i = i
turned_edge at_c i = i
turned_edge between i = next i

abbrev sense : Part → Vector → Vector
sense at_a d = d
sense at_b d = d
sense at_c d = d
sense between d = opposite d

one_way : (v w : Vector) → v.x ≡ w.x → v.y ≡ w.y → v ≡ w
one_way v w x y = λ i. record { x = x i; y = y i }

part_direction : (p : Part) (t : Triangle) (i : Corner) → direction (edge (part p t) (turned_edge p i)) ≡ sense p (direction (edge t i))
part_direction at_a t A = one_way _ _ (omega (arith, ints)) (omega (arith, ints))
part_direction at_a t B = one_way _ _ (omega (arith, ints)) (omega (arith, ints))
part_direction at_a t C = one_way _ _ (omega (arith, ints)) (omega (arith, ints))
part_direction at_b t A = one_way _ _ (omega (arith, ints)) (omega (arith, ints))
part_direction at_b t B = one_way _ _ (omega (arith, ints)) (omega (arith, ints))
part_direction at_b t C = one_way _ _ (omega (arith, ints)) (omega (arith, ints))
part_direction at_c t A = one_way _ _ (omega (arith, ints)) (omega (arith, ints))
part_direction at_c t B = one_way _ _ (omega (arith, ints)) (omega (arith, ints))
part_direction at_c t C = one_way _ _ (omega (arith, ints)) (omega (arith, ints))
part_direction between t A = one_way _ _ (omega (arith, ints)) (omega (arith, ints))
part_direction between t B = one_way _ _ (omega (arith, ints)) (omega (arith, ints))
part_direction between t C = one_way _ _ (omega (arith, ints)) (omega (arith, ints))

-- d or its opposite is among the directions ds
abbrev Kept : Vector → List Vector → Type 0
Kept d ds = Memᴰ d ds ⊎ Memᴰ (opposite d) ds

kept_in : (p : Part) (t : Triangle) (i : Corner) → Kept (direction (edge t i)) (map direction (edges_in (part p t)))
kept_in p t i = by_sense p (Memᴰ.cast (sym (part_direction p t i)) (Memᴰ.map direction (edge_among (part p t) (turned_edge p i))))
  where
    by_sense : (q : Part) → Memᴰ (sense q (direction (edge t i))) (map direction (edges_in (part p t))) → Kept (direction (edge t i)) (map direction (edges_in (part p t)))
    by_sense q n = grind arith

kept_through : (d : Vector) (es fs : List Vector) → ((c : Vector) → Memᴰ c es → Memᴰ c fs) → Kept d es → Kept d fs
kept_through d es fs f k = ⊎_elim (λ n. inl (f d n)) (λ n. inr (f (opposite d) n)) k

left : (p q : Part) (s t : Triangle) (c : Vector) → Memᴰ c (map direction (edges_in (part p s))) → Memᴰ c (directions (part p s) (part q t))
left p q s t c n = Memᴰ.tail (Memᴰ.tail (Memᴰ.append_left (map direction (edges_in (part q t))) n))

right : (p q : Part) (s t : Triangle) (c : Vector) → Memᴰ c (map direction (edges_in (part q t))) → Memᴰ c (directions (part p s) (part q t))
right p q s t c n = Memᴰ.tail (Memᴰ.tail (Memᴰ.append_right (map direction (edges_in (part p s))) n))

-- each direction tried for the wholes is tried for the parts
directions_kept : (p q : Part) (s t : Triangle) (d : Vector) → Memᴰ d (directions s t) → Kept d (directions (part p s) (part q t))
directions_kept p q s t d (Memᴰ.head e) = inl (Memᴰ.head e)
directions_kept p q s t d (Memᴰ.tail (Memᴰ.head e)) = inl (Memᴰ.tail (Memᴰ.head e))
directions_kept p q s t d (Memᴰ.tail (Memᴰ.tail n)) = ⊎_elim (of p s (left p q s t)) (of q t (right p q s t)) (Memᴰ.append_cases (map direction (edges_in s)) n)
  where
    of : (o : Part) (r : Triangle) → ((c : Vector) → Memᴰ c (map direction (edges_in (part o r))) → Memᴰ c (directions (part p s) (part q t))) → Memᴰ d (map direction (edges_in r)) →
        Kept d (directions (part p s) (part q t))
    of o r into n =
        let at = Memᴰ.of_map direction (edges_in r) n in
        let which = edge_index r at.0 at.1 in
        kept_through d (map direction (edges_in (part o r))) (directions (part p s) (part q t)) into
        (subst (λ c. Kept c (map direction (edges_in (part o r)))) (sym (ap direction which.1) ∙ at.2) (kept_in o r which.0))

one_side_lem : (s t : Triangle) (d : Vector) → Sides d s t ⊎ Sides d t s → one_side s t d ≡ true
one_side_lem s t d h = grind (arith, before_in)

-- a direction that has s on the one side and t on the other parts them, in whichever sense it is tried
parted_by_lem : (s t : Triangle) (d : Vector) → Kept d (directions s t) → Sides d s t ⊎ Sides d t s → parted s t ≡ true
unfolding parted
parted_by_lem s t d (inl n) h = any_in (one_side s t) (directions s t) d n (one_side_lem s t d h)
parted_by_lem s t d (inr n) h =
    any_in (one_side s t) (directions s t) (opposite d) n (one_side_lem s t (opposite d) (⊎_elim (λ k. inr (sides_opposite d s t k)) (λ k. inl (sides_opposite d t s k)) h))

pub parts_parted : (p q : Part) (s t : Triangle) → parted s t ≡ true → parted (part p s) (part q t) ≡ true
unfolding parted
parts_parted p q s t h =
    let found = any_out (one_side s t) (directions s t) h in
    let d = found.0 in
    parted_by_lem (part p s) (part q t) d (directions_kept p q s t d found.1)
    (⊎_elim (λ b. inl (sides_parts d s t p q (before_out d s t b))) (λ b. inr (sides_parts d t s q p (before_out d t s b))) (or_cases (before d s t) (before d t s) found.2))

-- ---- the parts of one triangle: how many of the two corners that a corner of a part is the middle of lie opposite edge k
abbrev opposite_to : Corner → Corner → ℕ
opposite_to A A = 0
opposite_to A B = 0
opposite_to A C = 1
opposite_to B A = 1
opposite_to B B = 0
opposite_to B C = 0
opposite_to C A = 0
opposite_to C B = 1
opposite_to C C = 0

abbrev height : Corner → Part → Corner → ℕ
height k p i = opposite_to k (one_of p i) + opposite_to k (other_of p i)

corner_height : (t : Triangle) (k i : Corner) → across (direction (edge t k)) (corner t i) ≡ across (direction (edge t k)) (corner t k) +ℤ (pos (opposite_to k i) *ℤ area2 t)
corner_height t A A = omega (arith, ints)
corner_height t A B = let l = level t A in omega (arith, ints)
corner_height t A C = let h = higher t A in omega (arith, ints)
corner_height t B A = let h = higher t B in omega (arith, ints)
corner_height t B B = omega (arith, ints)
corner_height t B C = let l = level t B in omega (arith, ints)
corner_height t C A = let l = level t C in omega (arith, ints)
corner_height t C B = let h = higher t C in omega (arith, ints)
corner_height t C C = omega (arith, ints)

part_height : (t : Triangle) (k : Corner) (p : Part) (i : Corner) → let f = across (direction (edge t k)) (corner t k) in
    across (direction (edge t k)) (corner (part p t) i) ≡ (f +ℤ f) +ℤ (area2 t *ℤ pos (height k p i))
part_height t k p i =
    across_part (direction (edge t k)) p t i ∙
    sum_up (across (direction (edge t k)) (corner t k)) (area2 t) _ _ (opposite_to k (one_of p i)) (opposite_to k (other_of p i)) (corner_height t k (one_of p i)) (corner_height t k (other_of p i))
  where
    sum_up : (f a x y : ℤ) (m n : ℕ) → x ≡ f +ℤ (pos m *ℤ a) → y ≡ f +ℤ (pos n *ℤ a) → x +ℤ y ≡ (f +ℤ f) +ℤ (a *ℤ pos (m + n))
    sum_up f a x y m n ex ey =
        let both = solve (f ∷ a ∷ pos m ∷ pos n ∷ []) ((var 0 ⊕ (var 2 ⊗ var 1)) ⊕ (var 0 ⊕ (var 3 ⊗ var 1))) ((var 0 ⊕ var 0) ⊕ (var 1 ⊗ (var 2 ⊕ var 3))) tt in
        ap₂ ◌+ℤ◌ ex ey ∙ both

-- part q lies below part p, as seen from edge k
abbrev lower : Corner → Part → Part → Bool
lower k q p = every (λ i. every (λ j. leb (height k q i) (height k p j)) each_corner) each_corner

own_sides : (t : Triangle) → proper t ≡ true → (k : Corner) (q p : Part) → lower k q p ≡ true → Sides (direction (edge t k)) (part q t) (part p t)
own_sides t ok k q p h i j =
    let test : Corner → Corner → Bool = λ i j. leb (height k q i) (height k p j) in
    let le = leb-true (height k q i) (height k p j) (every_out (test i) each_corner (every_out (λ i. every (test i) each_corner) each_corner h i (index_in i)) j (index_in j)) in
    let area = area_above t ok in
    let scaled = *ℤ_≤ℤ (area2 t) {a = pos (height k q i)} {b = pos (height k p j)} (omega (arith, ints)) (omega (arith, ints)) in
    let left = part_height t k q i in
    let right = part_height t k p j in
    omega (arith, ints)

own_parted : (t : Triangle) → proper t ≡ true → (k : Corner) (p q : Part) → lower k q p ≡ true → parted (part p t) (part q t) ≡ true
own_parted t ok k p q h =
    parted_by_lem (part p t) (part q t) (direction (edge t k))
    (kept_through (direction (edge t k)) (map direction (edges_in (part p t))) (directions (part p t) (part q t)) (left p q t t) (kept_in p t k)) (inr (own_sides t ok k q p h))

-- each corner part lies above all others, as seen from the edge opposite its corner
parts_apart : (t : Triangle) → proper t ≡ true → apart (parts t) ≡ true
unfolding apart
parts_apart t ok =
    let a = own_parted t ok B at_a in
    let b = own_parted t ok C at_b in
    let c = own_parted t ok A at_c in
    and_from _ _ (and_from _ _ (a at_b refl) (and_from _ _ (a at_c refl) (and_from _ _ (a between refl) refl)))
    (and_from _ _ (and_from _ _ (b at_c refl) (and_from _ _ (b between refl) refl)) (and_from _ _ (and_from _ _ (c between refl) refl) (and_from _ _ refl refl)))

-- ---- all of them
apart_++ : (xs ys : List Triangle) → apart xs ≡ true → apart ys ≡ true → ((x y : Triangle) → Memᴰ x xs → Memᴰ y ys → parted x y ≡ true) → apart (xs ++ ys) ≡ true
unfolding apart
apart_++ [] ys hx hy h = hy
apart_++ (x ∷ xs) ys hx hy h =
    let both = and_parts (every (parted x) xs) (apart xs) hx in
    and_from (every (parted x) (xs ++ ys)) (apart (xs ++ ys)) (list_all-append (parted x) xs ys ∙ and_from _ _ both.0 (every_in (parted x) ys (λ y n. h x y (Memᴰ.head refl) n)))
    (apart_++ xs ys both.1 hy (λ z y m n. h z y (Memᴰ.tail m) n))

pub part_out : (t x : Triangle) → Memᴰ x (parts t) → (p : Part) × (x ≡ part p t)
part_out t x m = let at = Memᴰ.of_map (λ p. part p t) (at_a ∷ at_b ∷ at_c ∷ between ∷ []) m in (at.0, sym at.2)

pub all_apart : (ts : List Triangle) → every proper ts ≡ true → apart ts ≡ true → apart (flat_map parts ts) ≡ true
unfolding apart flat_map
all_apart [] hp h = refl
all_apart (t ∷ ts) hp h =
    let ok = and_parts (proper t) (every proper ts) hp in
    let both = and_parts (every (parted t) ts) (apart ts) h in
    apart_++ (parts t) (flat_map parts ts) (parts_apart t ok.0) (all_apart ts ok.1 both.1) (λ x y m n.
    let p = part_out t x m in
    let at = flat_map_member parts ts y n in
    let q = part_out at.0 y at.2 in
    subst (λ z. parted z y ≡ true) (sym p.1) (subst (λ z. parted (part p.0 t) z ≡ true) (sym q.1) (parts_parted p.0 q.0 t at.0 (every_out (parted t) ts both.0 at.0 at.1))))
