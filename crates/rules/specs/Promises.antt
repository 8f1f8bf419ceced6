-- What is promised of every lawful plate, and what it means that two triangles are parted and that points are of one group. Each promise
-- is a type; a proof of it is the theorem. Assumes nothing.
use Rattle.std.specs.Prelude.{◌≡◌, ℕ, ◌*◌, ◌^◌, ◌<◌, Bool, true, false, ℤ, pos, ◌*ℤ◌, ◌≤ℤ◌, ◌<ℤ◌}
use mathlib.Core.List.{Memᴰ}
use Rattle.exact.specs.Fractions.{whole, scaled, ◌≤F◌, ◌≈F◌}
use Rattle.rules.specs.declared.Point.{Point}
use Rattle.rules.specs.declared.Edge.{Edge}
use Rattle.rules.specs.declared.Triangle.{Triangle}
use Rattle.rules.specs.declared.OutlineEdge.TheVariants.{Closed}
use Rattle.rules.specs.Bounds.{upper, up_drag, work, lower}
use Rattle.rules.specs.declared.Corner.{Corner}
use Rattle.rules.specs.Edges.{corner, edge, direction, across}
use Rattle.rules.specs.Energy.{is_field, is_stream, spent, says}
use Rattle.rules.specs.Finer.{finer, finest, Carried, carried}
use Rattle.rules.specs.Lawful.{lawful, parted}
use Rattle.rules.specs.Plates.{Plate, Values, among}
use Rattle.rules.specs.Settled.{group, changed_all}
use Rattle.rules.specs.Triangles.{proper}

-- four to the n, the scale at which a plate n times finer spends and says
abbrev pub scale : ℕ → ℤ
scale n = pos (4 ^ n)

-- NO FIELD SPENDS LESS THAN ANY STREAM SAYS
abbrev pub Below : Type 0
Below = (m : Plate) → lawful m ≡ true → (u s : Values) → is_field u m ≡ true → is_stream s m ≡ true → says s m ≤F spent u m.triangles

-- what is spent and said are fractions with a denominator above 0, so that to be at most each other is what it should be
abbrev pub DenominatorsAbove : Type 0
DenominatorsAbove = (m : Plate) → lawful m ≡ true → (u s : Values) → (0 < (spent u m.triangles).den) × (0 < (says s m).den)

-- a finer plate is lawful
abbrev pub FinerLawful : Type 0
FinerLawful = (m : Plate) → lawful m ≡ true → lawful (finer m) ≡ true

-- whatever stands at the points of a lawful plate can be carried to the finer one: no place is given two values
abbrev pub CarriedThere : Type 0
CarriedThere = (m : Plate) → lawful m ≡ true → (u : Values) → Carried u (carried u m) m

-- a field carried is a field, and spends four times as much
abbrev pub FieldsCarried : Type 0
FieldsCarried =
    (m : Plate) → lawful m ≡ true → (u v : Values) → Carried u v m → is_field u m ≡ true →
    (is_field v (finer m) ≡ true) × (spent v (finer m).triangles ≈F scaled (pos 4) (spent u m.triangles))

-- a stream carried is a stream, and says four times as much
abbrev pub StreamsCarried : Type 0
StreamsCarried =
    (m : Plate) → lawful m ≡ true → (s r : Values) → Carried s r m → is_stream s m ≡ true →
    (is_stream r (finer m) ≡ true) × (says r (finer m) ≈F scaled (pos 4) (says s m))

-- HOWEVER FINE the plate is made, and whatever field is taken there, it spends at least what a stream on the coarse plate says, to scale
abbrev pub HoweverFine : Type 0
HoweverFine =
    (m : Plate) → lawful m ≡ true → (s : Values) → is_stream s m ≡ true → (n : ℕ) (u : Values) → is_field u (finest n m) ≡ true →
    scaled (scale n) (says s m) ≤F spent u (finest n m).triangles

-- the printed numbers are on the safe side: the upper one is never below what the field spends, the lower one never above what the stream says
abbrev pub Printed : Type 0
Printed =
    (m : Plate) → lawful m ≡ true → (u s : Values) →
    (spent u m.triangles ≤F whole (pos (upper u m.triangles))) × (whole (lower s m) ≤F says s m)

-- BETWEEN ANY TWO FINENESSES the lower number of the one is at most the upper number of the other, to scale
abbrev pub Between : Type 0
Between =
    (m : Plate) → lawful m ≡ true → (i j : ℕ) (u s : Values) → is_field u (finest i m) ≡ true → is_stream s (finest j m) ≡ true →
    (scale i *ℤ lower s (finest j m)) ≤ℤ (scale j *ℤ pos (upper u (finest i m).triangles))

-- of carried values, all that is printed is exactly four times as large
abbrev pub PrintedCarried : Type 0
PrintedCarried =
    (m : Plate) → lawful m ≡ true → (u v : Values) → Carried u v m →
    (upper v (finer m).triangles ≡ 4 * upper u m.triangles) × (up_drag v (finer m).triangles ≡ 4 * up_drag u m.triangles) ×
    (work v (finer m).outline ≡ pos 4 *ℤ work u m.outline) × (lower v (finer m) ≡ pos 4 *ℤ lower u m)

-- low and high, found when the plate m was i times finer, bracket the heat that goes through it. To scale: at every fineness n no field
-- spends less than low, and no stream says more than high; and from fineness i on some field spends at most high
pub record BracketsAt (i : ℕ) (m : Plate) (low high : ℤ) : Type 0 where
  pub fields : (n : ℕ) (u : Values) → is_field u (finest n m) ≡ true → whole (scale n *ℤ low) ≤F scaled (scale i) (spent u (finest n m).triangles)
  pub streams : (n : ℕ) (s : Values) → is_stream s (finest n m) ≡ true → scaled (scale i) (says s (finest n m)) ≤F whole (scale n *ℤ high)
  pub reached : (n : ℕ) → (u : Values) × (is_field u (finest n (finest i m)) ≡ true) × (spent u (finest n (finest i m)).triangles ≤F whole (scale n *ℤ high))

-- found on the plate itself
abbrev pub Brackets : Plate → ℤ → ℤ → Type 0
Brackets m low high = BracketsAt 0 m low high

-- THE PRINTED NUMBERS of any field and any stream, at any fineness, BRACKET
abbrev pub Bracketed : Type 0
Bracketed =
    (m : Plate) → lawful m ≡ true → (i : ℕ) (u s : Values) → is_field u (finest i m) ≡ true → is_stream s (finest i m) ≡ true →
    BracketsAt i m (lower s (finest i m)) (pos (upper u (finest i m).triangles))

-- ---- what it means to be parted
-- z lies strictly inside t, coordinates of z being N times as fine: to the left of each edge
abbrev pub InnerPoint : ℕ → Triangle → Point → Type 0
InnerPoint N t z = (i : Corner) → let d = direction (edge t i) in (pos N *ℤ across d (corner t i)) <ℤ across d z

-- two parted triangles have no inner point in common, at any scale
abbrev pub PartedMeans : Type 0
PartedMeans =
    (s t : Triangle) → proper s ≡ true → proper t ≡ true → parted s t ≡ true → (N : ℕ) → 0 < N → (z : Point) → InnerPoint N s z → InnerPoint N t z → ⊥

-- and two proper triangles that are not parted have one, at some scale
abbrev pub NotPartedMeans : Type 0
NotPartedMeans =
    (s t : Triangle) → proper s ≡ true → proper t ≡ true → parted s t ≡ false → (N : ℕ) × (0 < N) × (z : Point) × InnerPoint N s z × InnerPoint N t z

-- ---- what it means to be of one group
-- closed edges join q to p: whatever marks p, and is the same at both ends of each closed edge, marks q
abbrev pub Joined : Plate → Point → Point → Type 0
Joined m p q = (marks : Point → Bool) → ((e : Edge) → Memᴰ (Closed e) m.outline → marks e.from ≡ marks e.to) → marks p ≡ true → marks q ≡ true

-- the group of a point is just all points that closed edges join to it
abbrev pub GroupsJoined : Type 0
GroupsJoined = (m : Plate) (p q : Point) → (among q (group m p) ≡ true → Joined m p q) × (Joined m p q → among q (group m p) ≡ true)

-- a stream with a group changed is a stream
abbrev pub GroupsKept : Type 0
GroupsKept = (m : Plate) (s : Values) (p : Point) (d : ℤ) → is_stream s m ≡ true → is_stream (changed_all s (group m p) d) m ≡ true

-- and at all its points a stream has one value
abbrev pub GroupsAlike : Type 0
GroupsAlike = (m : Plate) (s : Values) (p q : Point) → is_stream s m ≡ true → among q (group m p) ≡ true → s q ≡ s p
