-- The two halves of an edge, on the side of its beginning and on that of its end. Assumes nothing.
use Rattle.std.proofs.Common.{◌≡◌, sym, ap, ◌∙◌, arith}
use borrow.Author.Differences.{ints}
use Rattle.rules.specs.declared.Point.{Point}
use Rattle.rules.specs.declared.Edge.{Edge}
use Rattle.rules.specs.Edges.{back}
use Rattle.rules.specs.Finer.{half1, half2}
use Rattle.rules.specs.Parts.{middle, twice}
use Rattle.theory.proofs.Corners.{middle_comm, middle_cancel}

pub data Side : Type 0 where
  begin : Side
  end : Side

abbrev pub other : Side → Side
other begin = end
other end = begin

abbrev pub half : Side → Edge → Edge
half begin e = half1 e
half end e = half2 e

-- the end of an edge on that side
abbrev pub tip : Side → Edge → Point
tip begin e = e.from
tip end e = e.to

-- a half has one end of the edge, doubled, and its middle
pub tip_half : (s : Side) (e : Edge) → tip s (half s e) ≡ twice (tip s e)
tip_half s e = grind arith

pub tip_other : (s : Side) (e : Edge) → tip s (half (other s) e) ≡ middle e.from e.to
tip_other s e = grind arith

-- turned round, a half is the other half of the edge turned round
pub back_half : (s : Side) (e : Edge) → back (half s e) ≡ half (other s) (back e)
back_half begin e = λ i. record { from = middle_comm e.from e.to i; to = twice e.from }
back_half end e = λ i. record { from = twice e.to; to = middle_comm e.from e.to i }

pub tip_back : (s : Side) (e : Edge) → tip (other s) (back e) ≡ tip s e
tip_back s e = grind arith

pub twice_is : (p q : Point) → twice p ≡ twice q → p ≡ q
twice_is p q e =
    let ex = ap (λ m. m.x) e in
    let ey = ap (λ m. m.y) e in
    let x : p.x ≡ q.x = omega (arith, ints) in
    let y : p.y ≡ q.y = omega (arith, ints) in
    λ i. record { x = x i; y = y i }

pub half_is : (s : Side) (e f : Edge) → half s e ≡ half s f → e ≡ f
half_is begin e f h =
    let from = twice_is e.from f.from (ap (λ g. g.from) h) in
    let to = middle_cancel e.to e.from f.to (middle_comm e.to e.from ∙ ap (λ g. g.to) h ∙ ap (λ p. middle p f.to) (sym from)) in
    λ i. record { from = from i; to = to i }
half_is end e f h =
    let to = twice_is e.to f.to (ap (λ g. g.to) h) in
    let from = middle_cancel e.from e.to f.from (ap (λ g. g.from) h ∙ ap (λ p. middle f.from p) (sym to) ∙ middle_comm f.from e.to) in
    λ i. record { from = from i; to = to i }
