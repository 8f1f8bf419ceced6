use Rattle.std.proofs.Common.{◌^◌, ◌-ℤ◌, ◌*ℤ◌, lit<}
use Rattle.exact.proofs.Machine.{Result, back, product, difference}
use Rattle.rules.specs.Edges.{across}
use Rattle.rules.proofs.Within.{operands}
use Rattle.meeting.proofs.across.across.Goals as goal

all : (c : goal.After-product-2) →
    let d = c.args.d.now.value in
    let r = c.args.r.now.value in
    Result (back c.product.result -ℤ back c.product-2.result) ((d.x *ℤ r.y) -ℤ (d.y *ℤ r.x)) (2 ^ 32)
all c =
    let d = c.args.d.now in
    let r = c.args.r.now in
    let p = operands (2 ^ 16) d.value.x d.value.y (lit< tt) d.within in
    let q = operands 32768 r.value.x r.value.y (lit< tt) r.within in
    difference (product p.0 q.1 c.product.result c.product.ensures (lit< tt)).read (product p.1 q.0 c.product-2.result c.product-2.ensures (lit< tt)).read (lit< tt)

pub overflow_sub-result : goal.overflow_sub-result
overflow_sub-result c = (all c).fits

pub returns : goal.returns
unfolding across
returns c = (all c).read.is
