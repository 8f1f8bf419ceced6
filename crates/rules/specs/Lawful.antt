-- What makes triangles and an outline a lawful drawing. Assumes nothing.
use Rattle.std.specs.Prelude.{ℕ, ◌+◌, Bool, true, not, ◌&&◌, ◌||◌, List, [], ◌∷◌, ◌++◌, map, pos, ◌==◌, int_le}
use mathlib.Core.List.{flat_map}
use Rattle.exact.specs.Lists.{count, every, any}
use Rattle.rules.specs.declared.Edge.{Edge}
use Rattle.rules.specs.declared.Triangle.{Triangle}
use Rattle.rules.specs.declared.Vector.{Vector}
use Rattle.rules.specs.declared.OutlineEdge.{OutlineEdge}
use Rattle.rules.specs.declared.OutlineEdge.TheVariants.{Closed, Held}
use Rattle.rules.specs.Edges.{corners_in, edges_in, back, same_edge, direction, across, inside}
use Rattle.rules.specs.Plates.{Plate, PointValue, same, same_point}
use Rattle.rules.specs.Triangles.{proper}

-- the directed edges of the triangles
unfoldable pub edges : List Triangle → List Edge
edges ts = flat_map edges_in ts

abbrev pub edge_of : OutlineEdge → Edge
edge_of (Closed e) = e
edge_of (Held e g h) = e

unfoldable pub outline_edges : Plate → List Edge
outline_edges m = map edge_of m.outline

-- how often an edge stands among others
unfoldable pub times : Edge → List Edge → ℕ
times e es = count (same_edge e) es

-- an edge of a triangle stands in just one; and either its back stands in just one, or it is just once in the outline, not both
unfoldable pub paired : Plate → Edge → Bool
paired m e = times e (edges m.triangles) == 1 && times (back e) (edges m.triangles) + times e (outline_edges m) == 1

-- an edge of the outline is the edge of just one triangle, and stands in the outline once
unfoldable pub outlined : Plate → Edge → Bool
outlined m e = times e (edges m.triangles) == 1 && times e (outline_edges m) == 1

-- ---- the ends of held edges, with their temperatures
abbrev pub held_ends : OutlineEdge → List PointValue
held_ends (Closed e) = []
held_ends (Held e g h) = record { at = e.from; value = g } ∷ record { at = e.to; value = h } ∷ []

unfoldable pub held : Plate → List PointValue
held m = flat_map held_ends m.outline

-- not two numbers at one point
unfoldable pub agree : PointValue → PointValue → Bool
agree p q = not (same_point p.at q.at) || same p.value q.value

unfoldable pub one_temperature : List PointValue → Bool
one_temperature ps = every (λ p. every (agree p) ps) ps

-- ---- across the direction d no corner of s lies beyond a corner of t
unfoldable pub before : Vector → Triangle → Triangle → Bool
before d s t = every (λ p. every (λ q. int_le (across d p) (across d q)) (corners_in t)) (corners_in s)

abbrev pub one_side : Triangle → Triangle → Vector → Bool
one_side s t d = before d s t || before d t s

-- the two axes, and the edges of both triangles
abbrev pub directions : Triangle → Triangle → List Vector
directions s t = record { x = pos 1; y = pos 0 } ∷ record { x = pos 0; y = pos 1 } ∷ (map direction (edges_in s) ++ map direction (edges_in t))

-- no inner point in common: one of those directions parts the two
unfoldable pub parted : Triangle → Triangle → Bool
parted s t = any (one_side s t) (directions s t)

unfoldable pub apart : List Triangle → Bool
apart [] = true
apart (t ∷ ts) = every (parted t) ts && apart ts

-- no corner of t lies on the edge but at its end
unfoldable pub clear : Edge → Triangle → Bool
clear e t = every (λ r. not (inside e r)) (corners_in t)

unfoldable pub all_clear : List Triangle → Bool
all_clear ts = every (λ e. every (clear e) ts) (edges ts)

-- THE LAWFUL PLATES
unfoldable pub lawful : Plate → Bool
lawful m =
    every proper m.triangles && (every (paired m) (edges m.triangles) && (every (outlined m) (outline_edges m) && (one_temperature (held m) &&
    (apart m.triangles && all_clear m.triangles))))
