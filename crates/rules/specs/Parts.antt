-- A triangle cut at the middles of its edges, all coordinates and values doubled so that they stay whole. Assumes nothing.
use Rattle.std.specs.Prelude.{◌+ℤ◌}
use Rattle.rules.specs.declared.Point.{Point}
use Rattle.rules.specs.declared.Triangle.{Triangle}
use Rattle.rules.specs.declared.Corners.{Corners}

-- the middle of p and q, doubled
abbrev pub middle : Point → Point → Point
middle p q = record { x = p.x +ℤ q.x; y = p.y +ℤ q.y }

abbrev pub twice : Point → Point
twice p = middle p p

-- the four parts, in their order: one at each corner, and the one between
pub data Part : Type 0 where
  at_a : Part
  at_b : Part
  at_c : Part
  between : Part

abbrev pub part : Part → Triangle → Triangle
part at_a t = record { a = twice t.a; b = middle t.a t.b; c = middle t.c t.a; k = t.k }
part at_b t = record { a = middle t.a t.b; b = twice t.b; c = middle t.b t.c; k = t.k }
part at_c t = record { a = middle t.c t.a; b = middle t.b t.c; c = twice t.c; k = t.k }
part between t = record { a = middle t.a t.b; b = middle t.b t.c; c = middle t.c t.a; k = t.k }

-- values carried to a part: the double at a corner of the whole, the sum at a middle
abbrev pub carried_to : Part → Corners → Corners
carried_to at_a u = record { a = u.a +ℤ u.a; b = u.a +ℤ u.b; c = u.c +ℤ u.a }
carried_to at_b u = record { a = u.a +ℤ u.b; b = u.b +ℤ u.b; c = u.b +ℤ u.c }
carried_to at_c u = record { a = u.c +ℤ u.a; b = u.b +ℤ u.c; c = u.c +ℤ u.c }
carried_to between u = record { a = u.a +ℤ u.b; b = u.b +ℤ u.c; c = u.c +ℤ u.a }
