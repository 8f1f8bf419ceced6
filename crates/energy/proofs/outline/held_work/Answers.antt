use Rattle.std.proofs.Common.{◌^◌, lit<}
use Rattle.exact.proofs.Machine.{operand_size, sum, difference, product}
use Rattle.rules.proofs.Within.{operands}
use Rattle.energy.proofs.outline.held_work.Goals as goal

pub returns : goal.returns
returns c =
    let held = c.args.held.now in
    let stream = c.args.stream.now in
    let g = operands (2 ^ 20) held.value.from held.value.to (lit< tt) held.within in
    let s = operands (2 ^ 20) stream.value.from stream.value.to (lit< tt) stream.within in
    let all = (product (sum g.0 g.1 (lit< tt)).read (difference s.1 s.0 (lit< tt)).read c.product.result c.product.ensures (lit< tt)).read in
    record { is = all.is; size = operand_size all }
