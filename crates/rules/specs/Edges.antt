-- Corners and edges of a triangle, directions, and where a point lies by them. Assumes nothing.
use Rattle.std.specs.Prelude.{Bool, ◌&&◌, List, [], ◌∷◌, ℤ, ◌+ℤ◌, ◌-ℤ◌, ◌*ℤ◌, int_lt}
use Rattle.rules.specs.declared.Point.{Point}
use Rattle.rules.specs.declared.Corner.{Corner}
use Rattle.rules.specs.declared.Corner.TheVariants.{A, B, C}
use Rattle.rules.specs.declared.Edge.{Edge}
use Rattle.rules.specs.declared.Triangle.{Triangle}
use Rattle.rules.specs.declared.Vector.{Vector}
use Rattle.rules.specs.Plates.{same, same_point}

-- the one that follows, against the clock
abbrev pub next : Corner → Corner
next A = B
next B = C
next C = A

-- the three of them
abbrev pub each_corner : List Corner
each_corner = A ∷ B ∷ C ∷ []

abbrev pub corner : Triangle → Corner → Point
corner t A = t.a
corner t B = t.b
corner t C = t.c

-- the edge that begins at a corner
abbrev pub edge : Triangle → Corner → Edge
edge t i = record { from = corner t i; to = corner t (next i) }

abbrev pub corners_in : Triangle → List Point
corners_in t = corner t A ∷ corner t B ∷ corner t C ∷ []

abbrev pub edges_in : Triangle → List Edge
edges_in t = edge t A ∷ edge t B ∷ edge t C ∷ []

-- the same edge the other way round
abbrev pub back : Edge → Edge
back e = record { from = e.to; to = e.from }

unfoldable pub same_edge : Edge → Edge → Bool
same_edge e f = same_point e.from f.from && same_point e.to f.to

abbrev pub vector : Point → Point → Vector
vector p q = record { x = q.x -ℤ p.x; y = q.y -ℤ p.y }

abbrev pub direction : Edge → Vector
direction e = vector e.from e.to

-- how far r lies to the left of the line through 0 in the direction d, times d's length
unfoldable pub across : Vector → Point → ℤ
across d r = (d.x *ℤ r.y) -ℤ (d.y *ℤ r.x)

-- how far r lies along that line, times d's length
unfoldable pub along : Vector → Point → ℤ
along d r = (d.x *ℤ r.x) +ℤ (d.y *ℤ r.y)

-- r is on the edge, and not at an end of it
unfoldable pub inside : Edge → Point → Bool
inside e r =
    let d = direction e in
    same (across d r) (across d e.from) && (int_lt (along d e.from) (along d r) && int_lt (along d r) (along d e.to))
