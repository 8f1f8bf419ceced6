-- A product of factors that fit is read back from its bits unchanged. Assumes nothing.
use Rattle.std.proofs.Common.{◌^◌, rules, w64}
use Rattle.std.proofs.lemmas.Int.{fits_signed_mul}
use Rattle.exact.proofs.product.Goals as goal

pub returns : goal.returns
returns c = search (rules, fits_signed_mul w64 c.args.a c.args.b (2 ^ 31) (2 ^ 31))
