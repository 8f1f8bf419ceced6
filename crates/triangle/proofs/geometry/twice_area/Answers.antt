use Rattle.std.proofs.Common.{◌^◌, ◌-ℤ◌, ◌*ℤ◌, ◌∙◌, ap₂, lt_of_le_of_lt, lit<}
use Rattle.exact.proofs.Lists.{get_or_through}
use Rattle.exact.proofs.Machine.{Result, back, operand_size, product, difference}
use Rattle.rules.specs.Edges.{vector}
use Rattle.rules.specs.Triangles.{area2}
use Rattle.rules.proofs.Within.{operands}
use Rattle.triangle.proofs.geometry.twice_area.Goals as goal

all : (c : goal.After-product-2) →
    let v = c.way.result.value in
    let w = c.way-2.result.value in
    Result (back c.product.result -ℤ back c.product-2.result) ((v.x *ℤ w.y) -ℤ (w.x *ℤ v.y)) (2 ^ 33)
all c =
    let v = c.way.result in
    let w = c.way-2.result in
    let p = operands (2 ^ 16) v.value.x v.value.y (lit< tt) v.within in
    let q = operands (2 ^ 16) w.value.x w.value.y (lit< tt) w.within in
    difference (product p.0 q.1 c.product.result c.product.ensures (lit< tt)).read (product q.0 p.1 c.product-2.result c.product-2.ensures (lit< tt)).read (lit< tt)

pub overflow_sub-result : goal.overflow_sub-result
overflow_sub-result c = (all c).fits

pub product-requires-2 : goal.product-requires-2
product-requires-2 c =
    let v = c.way.result in
    let w = c.way-2.result in
    let p = operands (2 ^ 16) v.value.x v.value.y (lit< tt) v.within in
    let q = operands (2 ^ 16) w.value.x w.value.y (lit< tt) w.within in
    record { left = lt_of_le_of_lt (operand_size q.0) (lit< tt); right = lt_of_le_of_lt (operand_size p.1) (lit< tt) }

pub returns : goal.returns
unfolding area2
returns c =
    let at = get_or_through (λ p. p.value) c.corners.result c.corners.ensures in
    let ab = c.way.ensures ∙ ap₂ vector (at 0 _) (at 1 _) in
    let ac = c.way-2.ensures ∙ ap₂ vector (at 0 _) (at 2 _) in
    record { value = (all c).read.is ∙ (λ i. ((ab i).x *ℤ (ac i).y) -ℤ ((ac i).x *ℤ (ab i).y)); size = operand_size (all c).read }
