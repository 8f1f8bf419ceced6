-- Two parted triangles are kept apart by a direction. Assumes nothing.
use Rattle.std.proofs.Common.{◌≡◌, Bool, true, map, ◌≤ℤ◌, sym, ap, ◌∙◌, subst, ⊎_elim, arith}
use mathlib.Core.List.Memᴰ
use mathlib.Core.List.{Memᴰ}
use borrow.Author.Differences.{ints}
use lib.Signed.{le_z}
use Rattle.std.proofs.lemmas.Bool.{or_cases}
use Rattle.exact.specs.Lists.{every}
use Rattle.exact.proofs.Members.{every_in, any_out}
use Rattle.rules.specs.declared.Point.{Point}
use Rattle.rules.specs.declared.Triangle.{Triangle}
use Rattle.rules.specs.declared.Vector.{Vector}
use Rattle.rules.specs.declared.Corner.{Corner}
use Rattle.rules.specs.Edges.{corner, corners_in, edges_in, direction, across}
use Rattle.rules.specs.Lawful.{before, one_side, directions, parted}
use Rattle.rules.specs.Triangles.{proper}
use Rattle.theory.proofs.Corners.{straight_edge}
use Rattle.theory.proofs.Facts.{corner_out, edge_index}
use Rattle.theory.proofs.Plane.{Straight, opposite, across_opposite, straight_opposite}

-- no corner of s lies farther across d than any corner of t
abbrev pub Sides : Vector → Triangle → Triangle → Type 0
Sides d s t = (i j : Corner) → across d (corner s i) ≤ℤ across d (corner t j)

pub before_out : (d : Vector) (s t : Triangle) → before d s t ≡ true → Sides d s t
unfolding before
before_out d s t h i j = grind arith

pub before_in : (d : Vector) (s t : Triangle) → Sides d s t → before d s t ≡ true
unfolding before
before_in d s t h =
    let test : Point → Point → Bool = λ p q. le_z (across d p) (across d q) in
    every_in (λ p. every (test p) (corners_in t)) (corners_in s) (λ p m.
    every_in (test p) (corners_in t) (λ q n. let i = corner_out s p m in let j = corner_out t q n in at_most i.0 j.0 p q i.1 j.1))
  where
    at_most : (i j : Corner) (p q : Point) → p ≡ corner s i → q ≡ corner t j → le_z (across d p) (across d q) ≡ true
    at_most i j p q e f = let le = h i j in let pe = ap (across d) e in let qe = ap (across d) f in grind arith

pub sides_opposite : (d : Vector) (s t : Triangle) → Sides d s t → Sides (opposite d) t s
sides_opposite d s t h j i =
    let le = h i j in
    let p = across_opposite d (corner s i) in
    let q = across_opposite d (corner t j) in
    omega (arith, ints)

-- a direction that keeps all of s on the one side and all of t on the other
pub record Separated (s t : Triangle) : Type 0 where
  pub way : Vector
  pub straight : Straight way
  pub sides : Sides way s t

pub direction_straight : (s t : Triangle) → proper s ≡ true → proper t ≡ true → (d : Vector) → Memᴰ d (directions s t) → Straight d
direction_straight s t ps pt d (Memᴰ.head e) = subst Straight (sym e) (omega (arith, ints))
direction_straight s t ps pt d (Memᴰ.tail (Memᴰ.head e)) = subst Straight (sym e) (omega (arith, ints))
direction_straight s t ps pt d (Memᴰ.tail (Memᴰ.tail m)) =
    ⊎_elim (of s ps) (of t pt) (Memᴰ.append_cases (map direction (edges_in s)) m)
  where
    of : (r : Triangle) → proper r ≡ true → Memᴰ d (map direction (edges_in r)) → Straight d
    of r pr m =
        let at = Memᴰ.of_map direction (edges_in r) m in
        let which = edge_index r at.0 at.1 in
        subst Straight (sym (ap direction which.1) ∙ at.2) (straight_edge r pr which.0)

pub parted_out : (s t : Triangle) → proper s ≡ true → proper t ≡ true → parted s t ≡ true → Separated s t
unfolding parted
parted_out s t ps pt h =
    let found = any_out (one_side s t) (directions s t) h in
    let d = found.0 in
    let straight = direction_straight s t ps pt d found.1 in
    ⊎_elim (λ b. record { way = d; straight = straight; sides = before_out d s t b })
    (λ b. record { way = opposite d; straight = straight_opposite d straight; sides = sides_opposite d t s (before_out d t s b) })
    (or_cases (before d s t) (before d t s) found.2)

pub separated_sym : (s t : Triangle) → Separated s t → Separated t s
separated_sym s t sep = record { way = opposite sep.way; straight = straight_opposite sep.way sep.straight; sides = sides_opposite sep.way s t sep.sides }
