-- The two numbers: rounded quotient by quotient, so that each is on its safe side. Assumes nothing.
use Rattle.std.specs.Prelude.{◌≡◌, ℕ, ◌*◌, Bool, true, ◌&&◌, List, ℤ, pos, ◌+ℤ◌, ◌-ℤ◌, ◌*ℤ◌, sum_by, unsigned_abs}
use Rattle.exact.specs.Rounding.{up}
use Rattle.exact.specs.Lists.{sum_z, every}
use Rattle.rules.specs.declared.Triangle.{Triangle}
use Rattle.rules.specs.declared.Corners.{Corners}
use Rattle.rules.specs.declared.OutlineEdge.{OutlineEdge}
use Rattle.rules.specs.declared.OutlineEdge.TheVariants.{Closed, Held}
use Rattle.rules.specs.Limits.{below_cap, counts, in_reach, in_reach_along}
use Rattle.rules.specs.Numbers.{plate_of}
use Rattle.rules.specs.Triangles.{area2, turned, norm}
use Rattle.rules.specs.Plates.{Plate, Values, corners_of}

-- k times the quotient, rounded up
unfoldable pub upper_in : Triangle → Corners → ℕ
upper_in t u = t.k * up (norm (turned t u)) (2 * unsigned_abs (area2 t))

unfoldable pub up_drag_in : Triangle → Corners → ℕ
up_drag_in t s = up (norm (turned t s)) (2 * unsigned_abs (area2 t) * t.k)

-- along a held edge: the sum of its temperatures times the stream's difference
unfoldable pub work_along : Values → OutlineEdge → ℤ
work_along s (Closed e) = pos 0
work_along s (Held e g h) = (g +ℤ h) *ℤ (s e.to -ℤ s e.from)

abbrev pub upper : Values → List Triangle → ℕ
upper u ts = sum_by (λ t. upper_in t (corners_of u t)) ts

abbrev pub up_drag : Values → List Triangle → ℕ
up_drag s ts = sum_by (λ t. up_drag_in t (corners_of s t)) ts

abbrev pub work : Values → List OutlineEdge → ℤ
work s bs = sum_z (work_along s) bs

abbrev pub lower : Values → Plate → ℤ
lower s m = work s m.outline -ℤ pos (up_drag s m.triangles)

-- ---- the plates and values whose numbers are computed as long as plates are not checked: all parts are in reach, and the sums of quotients
-- are below 2^62
abbrev pub all_in_reach : Values → List Triangle → Bool
all_in_reach u ts = every (λ t. in_reach t (corners_of u t)) ts

abbrev pub upper_in_reach : Values → Plate → Bool
upper_in_reach u m = all_in_reach u m.triangles && below_cap (upper u m.triangles)

abbrev pub lower_in_reach : Values → Plate → Bool
lower_in_reach s m = every (in_reach_along s) m.outline && (all_in_reach s m.triangles && below_cap (up_drag s m.triangles))

-- a plate's numbers zs, a field u and a stream s whose two numbers are computed
abbrev pub both_in_reach : List ℤ → Values → Values → Bool
both_in_reach zs u s = counts zs && (lower_in_reach s (plate_of zs) && upper_in_reach u (plate_of zs))

-- low and high are the two numbers
pub record TwoNumbers (zs : List ℤ) (u s : Values) (low : ℤ) (high : ℕ) : Type 0 where
  pub reach : both_in_reach zs u s ≡ true
  pub is_lower : low ≡ lower s (plate_of zs)
  pub is_upper : high ≡ upper u (plate_of zs).triangles
