-- The edges of a finer plate: halves of edges, and edges between middles; how often each stands there. Assumes nothing.
use Rattle.std.proofs.Common.{◌≡◌, ℕ, ◌+◌, Bool, false, List, [], ◌∷◌, map, sym, refl, ap, ◌∙◌, arith}
use Rattle.std.specs.Cmp.{both_ways}
use mathlib.Core.List.{flat_map}
use Rattle.exact.specs.Lists.{count}
use Rattle.exact.proofs.Members.{one, count_ones, count_map}
use Rattle.rules.specs.declared.Point.{Point}
use Rattle.rules.specs.declared.Edge.{Edge}
use Rattle.rules.specs.declared.Triangle.{Triangle}
use Rattle.rules.specs.declared.Corner.{Corner}
use Rattle.rules.specs.declared.Corner.TheVariants.{A, B, C}
use Rattle.rules.specs.Edges.{next, edge, edges_in, same_edge}
use Rattle.rules.specs.Finer.{parts}
use Rattle.rules.specs.Parts.{twice}
use Rattle.theory.proofs.Corners.{prev, mid}
use Rattle.theory.proofs.Halves.{Side, begin, end, other, half, tip, tip_half, tip_other, half_is}
use Rattle.theory.proofs.Meetings.{link}
use Rattle.theory.proofs.Sameness.{edge_is, same_edge_from, same_edge_not}

-- the twelve edges of a triangle's four parts
pub data Piece : Type 0 where
  halved : Side → Corner → Piece
  -- along edge k, of the part between and of the parts at the corners
  inner : Corner → Piece
  outer : Corner → Piece

abbrev pub piece : Triangle → Piece → Edge
piece t (halved s i) = half s (edge t i)
piece t (inner k) = link t (next k) (prev k)
piece t (outer k) = link t (prev k) (next k)

abbrev pub pieces : List Piece
pieces =
    halved begin A ∷ outer B ∷ halved end C ∷ halved end A ∷ halved begin B ∷ outer C ∷ outer A ∷ halved end B ∷ halved begin C ∷ inner C ∷ inner A ∷ inner B ∷ []

pub part_edges : (t : Triangle) → flat_map edges_in (parts t) ≡ map (piece t) pieces
unfolding flat_map
part_edges t = refl

-- ---- counts over the twelve, kind by kind
abbrev three : (Corner → Bool) → ℕ
three f = one (f A) + (one (f B) + one (f C))

kinds : (s : Side) (f : Piece → Bool) → count f pieces ≡ (three (λ i. f (halved s i)) + three (λ i. f (halved (other s) i))) + (three (λ k. f (inner k)) + three (λ k. f (outer k)))
kinds begin f = let sum = count_ones f pieces in omega arith
kinds end f = let sum = count_ones f pieces in omega arith

edges_three : (f : Edge → Bool) (t : Triangle) → count f (edges_in t) ≡ three (λ i. f (edge t i))
edges_three f t = let sum = count_ones f (edges_in t) in omega arith

none : (f : Corner → Bool) → ((i : Corner) → f i ≡ false) → three f ≡ 0
none f h = let a = ap one (h A) in let b = ap one (h B) in let c = ap one (h C) in omega arith

all_three : (f g : Corner → Bool) → ((i : Corner) → f i ≡ g i) → three f ≡ three g
all_three f g h = let a = ap one (h A) in let b = ap one (h B) in let c = ap one (h C) in omega arith

-- ---- halves are as many as what is halved
pub same_halves : (s : Side) (e f : Edge) → same_edge (half s e) (half s f) ≡ same_edge e f
same_halves s e f =
    both_ways (same_edge (half s e) (half s f)) (same_edge e f) (λ t. same_edge_from e f (half_is s e f (edge_is (half s e) (half s f) t)))
    (λ t. same_edge_from (half s e) (half s f) (ap (half s) (edge_is e f t)))

pub tips_differ : (s : Side) (e f : Edge) → (tip s e ≡ tip s f → ⊥) → same_edge e f ≡ false
tips_differ s e f h = same_edge_not e f (λ is. h (ap (tip s) is))

-- a half whose doubled end is no middle is no edge that has a middle there
pub half_differs : (s : Side) (e f : Edge) (p : Point) → tip s f ≡ p → (twice (tip s e) ≡ p → ⊥) → same_edge (half s e) f ≡ false
half_differs s e f p is h = tips_differ s (half s e) f (λ same. h (sym (tip_half s e) ∙ same ∙ is))

link_tip : (s : Side) (t : Triangle) (i j : Corner) → (l : Corner) × (tip s (link t i j) ≡ mid t l)
link_tip begin t i j = (i, refl)
link_tip end t i j = (j, refl)

-- an edge of which one end, doubled, is no middle in t: the half on that side
pub half_count : (s : Side) (e : Edge) (t : Triangle) → ((j : Corner) → twice (tip s e) ≡ mid t j → ⊥) → count (same_edge (half s e)) (map (piece t) pieces) ≡ count (same_edge e) (edges_in t)
half_count s e t never =
    let f : Piece → Bool = λ p. same_edge (half s e) (piece t p) in
    let sum = count_map (same_edge (half s e)) (piece t) pieces ∙ kinds s f in
    let same = all_three (λ i. f (halved s i)) (λ i. same_edge e (edge t i)) (λ i. same_halves s e (edge t i)) in
    let others = none (λ i. f (halved (other s) i)) (λ i. half_differs s e (piece t (halved (other s) i)) (mid t i) (tip_other s (edge t i)) (never i)) in
    let linked : (i j : Corner) → same_edge (half s e) (link t i j) ≡ false = λ i j. let at = link_tip s t i j in half_differs s e (link t i j) (mid t at.0) at.1 (never at.0) in
    let inners = none (λ k. f (inner k)) (λ k. linked (next k) (prev k)) in
    let outers = none (λ k. f (outer k)) (λ k. linked (prev k) (next k)) in
    let right = edges_three (same_edge e) t in
    omega arith
