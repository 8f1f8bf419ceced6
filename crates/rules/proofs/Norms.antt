-- The square of a vector's length, as an integer. Assumes nothing.
use Rattle.std.proofs.Common.{◌≡◌, ◌*◌, ℤ, pos, negsuc, ◌+ℤ◌, ◌*ℤ◌, nat_abs, refl, ap₂}
use Rattle.rules.specs.declared.Vector.{Vector}
use Rattle.rules.specs.Triangles.{norm}

size_squared : (z : ℤ) → pos (nat_abs z * nat_abs z) ≡ z *ℤ z
size_squared (pos n) = refl
size_squared (negsuc n) = refl

pub norm_is : (v : Vector) → pos (norm v) ≡ (v.x *ℤ v.x) +ℤ (v.y *ℤ v.y)
unfolding norm
norm_is v = ap₂ ◌+ℤ◌ (size_squared v.x) (size_squared v.y)
