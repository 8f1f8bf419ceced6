-- Rounded up, a quotient is at least itself. Assumes nothing.
use Rattle.std.proofs.Common.{◌≡◌, ℕ, ◌*◌, ◌<◌, ◌≤◌, true, ltb, pos, nat_abs, mul-le-mul_left, mul-pos, arith}
use borrow.Author.Differences.{ints}
use lib.Signed.{lt_z}
use Rattle.std.proofs.lemmas.Bool.{and_parts, ltb-true}
use Rattle.exact.specs.Fractions.{ratio, whole, ◌≤F◌}
use Rattle.exact.specs.Rounding.{up}
use Rattle.exact.proofs.Rounding.{up_reaches}
use Rattle.rules.specs.declared.Triangle.{Triangle}
use Rattle.rules.specs.Bounds.{upper_in, up_drag_in}
use Rattle.rules.specs.Laws.{RoundedUp}
use Rattle.rules.specs.Triangles.{area2, proper}

-- k times n / d, and k times the quotient rounded up
rounded : (k n d : ℕ) → 0 < d → ratio (k * n) d ≤F whole (pos (k * up n d))
rounded k n d above =
    let more : k * n ≤ k * (up n d * d) = mul-le-mul_left k (up_reaches n d above) in
    omega (arith, ints)

-- the denominators of what is spent and dragged in a proper triangle
pub above : (t : Triangle) → proper t ≡ true → (0 < 2 * nat_abs (area2 t)) × (0 < 2 * nat_abs (area2 t) * t.k)
above t ok =
    let both = and_parts (lt_z (pos 0) (area2 t)) (ltb 0 t.k) ok in
    let area : 0 < 2 * nat_abs (area2 t) = omega (arith, ints) in
    (area, mul-pos area (ltb-true 0 t.k both.1))

pub rounded_up : RoundedUp
unfolding upper_in up_drag_in
rounded_up t ok u = grind (arith, rounded)
