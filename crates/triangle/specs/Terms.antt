-- The two kinds of quotients, rounded up. Assumes nothing.
use Rattle.std.specs.Prelude.{ℕ, ◌*◌}
use Rattle.exact.specs.Rounding.{up}
use Rattle.rules.specs.declared.Corners.{Corners}
use Rattle.rules.specs.declared.Triangle.{Triangle}
use Rattle.rules.specs.Bounds.{upper_in, up_drag_in}
use Rattle.triangle.specs.declared.kinds.Kind.{Kind}
use Rattle.triangle.specs.declared.kinds.Kind.TheVariants.{Spent, Dragged}

-- by conductivity, twice the area and the square of the turned gradient's length
abbrev pub quotient_of : Kind → ℕ → ℕ → ℕ → ℕ
quotient_of Spent k d n = k * up n (2 * d)
quotient_of Dragged k d n = up n (2 * d * k)

-- the two of the rules
abbrev pub term_of : Kind → Triangle → Corners → ℕ
term_of Spent t u = upper_in t u
term_of Dragged t u = up_drag_in t u
