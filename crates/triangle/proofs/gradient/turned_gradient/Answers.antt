use Rattle.std.proofs.Common.{◌≡◌, ◌^◌, true, ℤ, ◌+ℤ◌, ◌-ℤ◌, ◌*ℤ◌, get_or, ap, ◌∙◌, ap₂, lit<, w64, SFits, rules}
use Rattle.std.proofs.lemmas.Int.{to_z-of_z}
use Rattle.exact.proofs.Lists.{get_or_through}
use Rattle.exact.proofs.Machine.{Operand, back, operand_size}
use Rattle.rules.specs.declared.Corners.{Corners}
use Rattle.rules.specs.declared.Vector.{Vector}
use Rattle.rules.specs.Limits.{short}
use Rattle.rules.specs.Triangles.{turned, weighed}
use Rattle.rules.proofs.Within.{operands}
use Rattle.triangle.proofs.gradient.turned_gradient.Goals as goal

second : (v : Vector) → short v ≡ true → Operand (back v.y) v.y (2 ^ 16)
second v e = (operands (2 ^ 16) v.x v.y (lit< tt) e).1

pub weighed-requires-2 : goal.weighed-requires-2
weighed-requires-2 c =
    let ab = get_or c.directions.result 0 c.index-directions-0.result in
    let bc = get_or c.directions.result 1 c.index-directions-1.result in
    let ca = get_or c.directions.result 2 c.index-directions-2.result in
    record { a = operand_size (second bc.value bc.within); b = operand_size (second ca.value ca.within); c = operand_size (second ab.value ab.within) }

-- one coordinate, of which p, q, s are the corners' and bc, ca, ab the edges'
coordinate : (u : Corners) (p q s bc ca ab r : ℤ) → SFits w64 r → back bc ≡ s -ℤ q → back ca ≡ p -ℤ s → back ab ≡ q -ℤ p →
    r ≡ (u.a *ℤ back bc) +ℤ ((u.b *ℤ back ca) +ℤ (u.c *ℤ back ab)) → back r ≡ weighed u p q s
unfolding weighed
coordinate u p q s bc ca ab r k is-bc is-ca is-ab e =
    to_z-of_z w64 r k ∙ e ∙ ap₂ ◌+ℤ◌ (ap (λ z. u.a *ℤ z) is-bc) (ap₂ ◌+ℤ◌ (ap (λ z. u.b *ℤ z) is-ca) (ap (λ z. u.c *ℤ z) is-ab))

pub returns : goal.returns
unfolding turned
returns c =
    let t = c.args.t.now.value in
    let u = c.args.u.now.value in
    let ab = get_or c.directions.result 0 c.index-directions-0.result in
    let bc = get_or c.directions.result 1 c.index-directions-1.result in
    let ca = get_or c.directions.result 2 c.index-directions-2.result in
    let at = get_or_through (λ d. d.value) c.directions.result c.directions.ensures in
    let of_ab = operands (2 ^ 16) ab.value.x ab.value.y (lit< tt) ab.within in
    let of_bc = operands (2 ^ 16) bc.value.x bc.value.y (lit< tt) bc.within in
    let of_ca = operands (2 ^ 16) ca.value.x ca.value.y (lit< tt) ca.within in
    let x = coordinate u t.a.x t.b.x t.c.x bc.value.x ca.value.x ab.value.x c.weighed.result (search rules) (of_bc.0.is ∙ ap (λ v. v.x) (at 1 _)) (of_ca.0.is ∙ ap (λ v. v.x) (at 2 _)) (of_ab.0.is ∙ ap (λ v. v.x) (at 0 _)) c.weighed.ensures in
    let y = coordinate u t.a.y t.b.y t.c.y bc.value.y ca.value.y ab.value.y c.weighed-2.result (search rules) (of_bc.1.is ∙ ap (λ v. v.y) (at 1 _)) (of_ca.1.is ∙ ap (λ v. v.y) (at 2 _)) (of_ab.1.is ∙ ap (λ v. v.y) (at 0 _)) c.weighed-2.ensures in
    λ i. record { x = x i; y = y i }
