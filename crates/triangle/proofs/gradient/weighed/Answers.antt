use Rattle.std.proofs.Common.{◌^◌, ◌+ℤ◌, ◌*ℤ◌, lit<, rules}
use Rattle.exact.proofs.Machine.{Result, back, operand, product, sum}
use Rattle.rules.proofs.Within.{near_corners_lem}
use Rattle.triangle.proofs.gradient.weighed.Goals as goal

first : (c : goal.After-product-3) → Result c.product.result (c.args.u.now.value.a *ℤ c.args.opposite.now.a) (2 ^ 36)
first c =
    let u = c.args.u.now.value in
    let w = c.args.opposite.now in
    product (operand u.a (2 ^ 20) (search rules) (near_corners_lem u c.args.u.now.within).0) (operand w.a (2 ^ 16) (search rules) c.requires.a)
    c.product.result c.product.ensures (lit< tt)

others : (c : goal.After-product-3) →
    let u = c.args.u.now.value in
    let w = c.args.opposite.now in
    Result (back c.product-2.result +ℤ back c.product-3.result) ((u.b *ℤ w.b) +ℤ (u.c *ℤ w.c)) (2 ^ 37)
others c =
    let u = c.args.u.now.value in
    let w = c.args.opposite.now in
    let near = near_corners_lem u c.args.u.now.within in
    let b = product (operand u.b (2 ^ 20) (search rules) near.1) (operand w.b (2 ^ 16) (search rules) c.requires.b) c.product-2.result c.product-2.ensures (lit< tt) in
    let c' = product (operand u.c (2 ^ 20) (search rules) near.2) (operand w.c (2 ^ 16) (search rules) c.requires.c) c.product-3.result c.product-3.ensures (lit< tt) in
    sum b.read c'.read (lit< tt)

pub overflow_add-result : goal.overflow_add-result
overflow_add-result c = (others c).fits

pub overflow_add-result-2 : goal.overflow_add-result-2
overflow_add-result-2 c = (sum (first c).read (others c).read (lit< tt)).fits

pub returns : goal.returns
returns c = (sum (first c).read (others c).read (lit< tt)).read.is
