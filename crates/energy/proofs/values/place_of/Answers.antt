use Rattle.std.proofs.Common.{not, length, ap, ◌∙◌, rules, tests}
use Rattle.std.specs.Option.{unwrap_or}
use Rattle.std.proofs.lemmas.Iterator.{YieldsList-from_slice}
use Rattle.std.proofs.lemmas.Iterator.Search.{position_from_yields_List}
use Rattle.std.proofs.lemmas.List.Sums.{prefix_len-le-length}
use Rattle.rules.specs.Plates.{same_point, place_of}
use Rattle.energy.proofs.Places.{first_or_all}
use Rattle.energy.proofs.values.place_of.Goals as goal

pub returns : goal.returns
returns c =
    let p = c.args.p.now in
    let ps = c.args.points.now in
    let found = position_from_yields_List (same_point p) _ _ c.position.result c.position.ensures.ran (YieldsList-from_slice ps cc) (λ x b q k. search (rules, tests)) in
    c.unwrap_or.ensures ∙ ap (λ o. unwrap_or o (length ps)) found ∙ first_or_all (place_of p ps) (length ps) (prefix_len-le-length (λ q. not (same_point p q)) ps)
