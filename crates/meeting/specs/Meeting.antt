-- What a triangle has, and how two triangles of a lawful plate meet. Assumes nothing.
use Rattle.std.specs.Prelude.{Bool, not, ◌&&◌}
use Rattle.exact.specs.Lists.{every, any}
use Rattle.rules.specs.declared.Edge.{Edge}
use Rattle.rules.specs.declared.Point.{Point}
use Rattle.rules.specs.declared.Triangle.{Triangle}
use Rattle.rules.specs.Edges.{corners_in, edges_in, same_edge}
use Rattle.rules.specs.Lawful.{parted, clear}
use Rattle.rules.specs.Plates.{same_point}

unfoldable pub has_corner : Point → Triangle → Bool
has_corner p t = any (same_point p) (corners_in t)

unfoldable pub has_edge : Edge → Triangle → Bool
has_edge e t = any (same_edge e) (edges_in t)

-- no corner of t lies on an edge of s but at its end
unfoldable pub clear_of : Triangle → Triangle → Bool
clear_of s t = every (λ e. clear e t) (edges_in s)

-- no directed edge of s is one of t
unfoldable pub unlike : Triangle → Triangle → Bool
unlike s t = every (λ e. not (has_edge e t)) (edges_in s)

-- two triangles can be in one lawful plate
unfoldable pub compatible : Triangle → Triangle → Bool
compatible s t = parted s t && (clear_of s t && (clear_of t s && unlike s t))
