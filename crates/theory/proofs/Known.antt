-- What is known at one outline edge of a field and of a stream. Assumes nothing.
use Rattle.std.proofs.Common.{◌≡◌, true, ℤ, refl}
use mathlib.Core.List.{Memᴰ}
use Rattle.exact.proofs.Members.{every_out, member_flat_map}
use Rattle.rules.specs.declared.Edge.{Edge}
use Rattle.rules.specs.declared.OutlineEdge.TheVariants.{Closed, Held}
use Rattle.rules.specs.Energy.{is_field, is_stream, has, keeps}
use Rattle.rules.specs.Lawful.{held, held_ends}
use Rattle.rules.specs.Plates.{Plate, PointValue, Values}
use Rattle.theory.proofs.Sameness.{same_is}

-- a field has the temperatures of a held edge at its ends
pub field_at : (u : Values) (m : Plate) → is_field u m ≡ true → (e : Edge) (g h : ℤ) → Memᴰ (Held e g h) m.outline → (u e.from ≡ g) × (u e.to ≡ h)
unfolding is_field has held
field_at u m field e g h at =
    let ends = every_out (has u) (held m) field in
    let from : PointValue = record { at = e.from; value = g } in
    let to : PointValue = record { at = e.to; value = h } in (
      same_is (u e.from) g (ends from (member_flat_map held_ends m.outline (Held e g h) from at (Memᴰ.head refl))),
      same_is (u e.to) h (ends to (member_flat_map held_ends m.outline (Held e g h) to at (Memᴰ.tail (Memᴰ.head refl)))),
    )

-- a stream has one value at both ends of a closed edge
pub stream_at : (s : Values) (m : Plate) → is_stream s m ≡ true → (e : Edge) → Memᴰ (Closed e) m.outline → s e.from ≡ s e.to
unfolding is_stream keeps
stream_at s m stream e at = same_is (s e.from) (s e.to) (every_out (keeps s) m.outline stream (Closed e) at)
