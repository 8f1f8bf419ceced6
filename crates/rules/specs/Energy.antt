-- Fields and streams on a plate, what a field spends, and what a stream says that every field spends at least. Assumes nothing.
use Rattle.std.specs.Prelude.{Bool, true, List}
use Rattle.exact.specs.Fractions.{Fraction, whole, ◌-F◌, sum_f}
use Rattle.exact.specs.Lists.{every}
use Rattle.rules.specs.declared.Triangle.{Triangle}
use Rattle.rules.specs.declared.OutlineEdge.{OutlineEdge}
use Rattle.rules.specs.declared.OutlineEdge.TheVariants.{Closed, Held}
use Rattle.rules.specs.Bounds.{work}
use Rattle.rules.specs.Lawful.{held}
use Rattle.rules.specs.Plates.{Plate, PointValue, Values, same, corners_of}
use Rattle.rules.specs.Triangles.{spent_in, drag_in}

-- a field has the given temperatures at the ends of held edges
unfoldable pub has : Values → PointValue → Bool
has u p = same (u p.at) p.value

unfoldable pub is_field : Values → Plate → Bool
is_field u m = every (has u) (held m)

-- a stream has equal values at both ends of each closed edge
unfoldable pub keeps : Values → OutlineEdge → Bool
keeps s (Closed e) = same (s e.from) (s e.to)
keeps s (Held e g h) = true

unfoldable pub is_stream : Values → Plate → Bool
is_stream s m = every (keeps s) m.outline

-- what a field spends in all
unfoldable pub spent : Values → List Triangle → Fraction
spent u ts = sum_f (λ t. spent_in t (corners_of u t)) ts

unfoldable pub drag : Values → List Triangle → Fraction
drag s ts = sum_f (λ t. drag_in t (corners_of s t)) ts

-- what a stream says: the work less the drag
unfoldable pub says : Values → Plate → Fraction
says s m = whole (work s m.outline) -F drag s m.triangles
