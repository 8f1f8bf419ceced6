-- One triangle: its area, the gradient of values over it, and what it spends and drags. Assumes nothing.
use Rattle.std.specs.Prelude.{ℕ, ◌+◌, ◌*◌, Bool, ◌&&◌, ℤ, pos, ◌+ℤ◌, ◌-ℤ◌, ◌*ℤ◌, int_lt, nat_lt, unsigned_abs}
use Rattle.exact.specs.Fractions.{Fraction, ratio}
use Rattle.rules.specs.declared.Triangle.{Triangle}
use Rattle.rules.specs.declared.Corners.{Corners}
use Rattle.rules.specs.declared.Vector.{Vector}

-- twice the area, above 0 where the corners go against the clock
unfoldable pub area2 : Triangle → ℤ
area2 t = ((t.b.x -ℤ t.a.x) *ℤ (t.c.y -ℤ t.a.y)) -ℤ ((t.c.x -ℤ t.a.x) *ℤ (t.b.y -ℤ t.a.y))

-- corners against the clock, and a conductivity of 1 or more
abbrev pub proper : Triangle → Bool
proper t = int_lt (pos 0) (area2 t) && nat_lt 0 t.k

-- one coordinate of the turned gradient: each value times the edge opposite its corner; a, b, c are that coordinate of the corners
unfoldable pub weighed : Corners → ℤ → ℤ → ℤ → ℤ
weighed u a b c = (u.a *ℤ (c -ℤ b)) +ℤ ((u.b *ℤ (a -ℤ c)) +ℤ (u.c *ℤ (b -ℤ a)))

-- the gradient of the values, drawn linearly over the triangle, turned by a right angle and times twice the area
unfoldable pub turned : Triangle → Corners → Vector
turned t u = record { x = weighed u t.a.x t.b.x t.c.x; y = weighed u t.a.y t.b.y t.c.y }

-- the square of a vector's length
unfoldable pub norm : Vector → ℕ
norm v = unsigned_abs v.x * unsigned_abs v.x + unsigned_abs v.y * unsigned_abs v.y

-- what a field with the values u spends in the triangle
abbrev pub spent_in : Triangle → Corners → Fraction
spent_in t u = ratio (t.k * norm (turned t u)) (2 * unsigned_abs (area2 t))

-- what is taken from a stream's work in the triangle
abbrev pub drag_in : Triangle → Corners → Fraction
drag_in t s = ratio (norm (turned t s)) (2 * unsigned_abs (area2 t) * t.k)

-- the exchange of a field and a stream along an edge from p to q, by their values at its ends
abbrev pub exchange : ℤ → ℤ → ℤ → ℤ → ℤ
exchange up uq sp sq = (up +ℤ uq) *ℤ (sq -ℤ sp)

-- along the three edges of a triangle
unfoldable pub around : Corners → Corners → ℤ
around u s = exchange u.a u.b s.a s.b +ℤ (exchange u.b u.c s.b s.c +ℤ exchange u.c u.a s.c s.a)
