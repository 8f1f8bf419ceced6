-- The limits within which a field's upper number and a stream's lower one are computed. Assumes nothing.
use Rattle.std.specs.Prelude.{Bool, ◌&&◌, List}
use Rattle.exact.specs.Lists.{every}
use Rattle.rules.specs.declared.Triangle.{Triangle}
use Rattle.rules.specs.Bounds.{upper, up_drag}
use Rattle.rules.specs.Limits.{below_cap, gentle}
use Rattle.rules.specs.Plates.{Plate, Values, corners_of}
use Rattle.rules.specs.Triangles.{turned}

-- nowhere too steep
unfoldable pub gentle_over : Values → List Triangle → Bool
gentle_over u ts = every (λ t. gentle (turned t (corners_of u t))) ts

unfoldable pub upper_within : Values → Plate → Bool
upper_within u m = gentle_over u m.triangles && below_cap (upper u m.triangles)

unfoldable pub drag_within : Values → Plate → Bool
drag_within s m = gentle_over s m.triangles && below_cap (up_drag s m.triangles)
