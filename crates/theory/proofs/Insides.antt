-- Points strictly inside an edge: the test, the edge turned round, doubled and halved. Assumes nothing.
use Rattle.std.proofs.Common.{◌≡◌, true, false, [], ◌∷◌, ℤ, pos, ◌+ℤ◌, ◌-ℤ◌, ◌*ℤ◌, neg_ℤ, ◌≤ℤ◌, ◌<ℤ◌, ap, subst, arith}
use borrow.Author.Differences.{ints}
use Rattle.std.proofs.lemmas.Bool.{false_from_ne_true, both_ways}
use Rattle.exact.proofs.Certificates.{◌≈◌, sqr, ◌⊞◌, prove≤, prove≡}
use Rattle.exact.proofs.Ring.{var, con, ◌⊕◌, ◌⊗◌, ◌⊝◌, ⊖◌, solve}
use Rattle.rules.specs.declared.Point.{Point}
use Rattle.rules.specs.declared.Edge.{Edge}
use Rattle.rules.specs.Edges.{back, vector, direction, across, along, inside}
use Rattle.rules.specs.Finer.{half1, half2}
use Rattle.rules.specs.Parts.{middle, twice}
use Rattle.theory.proofs.Corners.{P, Q, R, numbers, over}
use Rattle.theory.proofs.Halves.{Side, begin, end, half, back_half}
use Rattle.theory.proofs.Plane.{pair, Across, Along, To, Sum, Inside, Straight, across_middle, along_middle}

-- ---- the test
pub inside_out : (e : Edge) (r : Point) → inside e r ≡ true → Inside e r
unfolding inside
inside_out e r h = grind arith

pub inside_in : (e : Edge) (r : Point) → Inside e r → inside e r ≡ true
unfolding inside
inside_in e r at = grind arith

pub outside : (e : Edge) (r : Point) → inside e r ≡ false → Inside e r → ⊥
outside e r out at = both_ways (inside e r) out (inside_in e r at)

pub is_outside : (e : Edge) (r : Point) → (Inside e r → ⊥) → inside e r ≡ false
is_outside e r out = false_from_ne_true (inside e r) (λ t. out (inside_out e r t))

-- ---- the edge turned round
pub across_back : (p q r : Point) → across (vector q p) r ≡ neg_ℤ (across (vector p q) r)
unfolding across
across_back p q r = solve (numbers p q r) (Across (To Q P) R) (⊖ (Across (To P Q) R)) tt

along_back : (p q r : Point) → along (vector q p) r ≡ neg_ℤ (along (vector p q) r)
unfolding along
along_back p q r = solve (numbers p q r) (Along (To Q P) R) (⊖ (Along (To P Q) R)) tt

pub inside_back : (e : Edge) (r : Point) → Inside e r → Inside (back e) r
inside_back e r at =
    let p = e.from in
    let q = e.to in
    let x = across_back p q r in
    let xq = across_back p q q in
    let lev = (over p q q 0).0 in
    let y = along_back p q r in
    let yp = along_back p q p in
    let yq = along_back p q q in
    record { on = omega (arith, ints); past = omega (arith, ints); short = omega (arith, ints) }

-- ---- a corner whose double is the middle of an edge lies inside it
pub half_inside : (p q r : Point) → Straight (vector p q) → middle r r ≡ middle p q → Inside (record { from = p; to = q }) r
unfolding across along
half_inside p q r straight e =
    let ρ = numbers p q r in
    let E = To P Q in
    let hx = ap (λ m. m.x) e in
    let hy = ap (λ m. m.y) e in
    let known = ((R.x ⊕ R.x) ≈ (P.x ⊕ Q.x)) ∷ ((R.y ⊕ R.y) ≈ (P.y ⊕ Q.y)) ∷ [] in
    let on = prove≡ ρ known ((⊖ E.y) ∷ E.x ∷ []) ((Across E R ⊝ Across E P) ⊕ (Across E R ⊝ Across E P)) (con (pos 0)) tt (hx, (hy, tt)) in
    let past = prove≡ ρ known (E.x ∷ E.y ∷ []) ((Along E R ⊝ Along E P) ⊕ (Along E R ⊝ Along E P)) (Along E E) tt (hx, (hy, tt)) in
    let short = prove≡ ρ known ((⊖ E.x) ∷ (⊖ E.y) ∷ []) ((Along E Q ⊝ Along E R) ⊕ (Along E Q ⊝ Along E R)) (Along E E) tt (hx, (hy, tt)) in
    record { on = double_zero _ _ on; past = double_above _ _ _ past straight; short = double_above _ _ _ short straight }
  where
    double_zero : (a b : ℤ) → (a -ℤ b) +ℤ (a -ℤ b) ≡ pos 0 → a ≡ b
    double_zero a b h = omega (arith, ints)

    double_above : (a b n : ℤ) → (a -ℤ b) +ℤ (a -ℤ b) ≡ n → pos 0 <ℤ n → b <ℤ a
    double_above a b n h above = omega (arith, ints)

-- ---- an edge doubled
abbrev pub doubled : Edge → Edge
doubled e = record { from = twice e.from; to = twice e.to }

pub across_doubled : (p q r : Point) → across (vector (twice p) (twice q)) r ≡ across (vector p q) r +ℤ across (vector p q) r
unfolding across
across_doubled p q r = solve (numbers p q r) (Across (To (Sum P P) (Sum Q Q)) R) (Across (To P Q) R ⊕ Across (To P Q) R) tt

along_doubled : (p q r : Point) → along (vector (twice p) (twice q)) r ≡ along (vector p q) r +ℤ along (vector p q) r
unfolding along
along_doubled p q r = solve (numbers p q r) (Along (To (Sum P P) (Sum Q Q)) R) (Along (To P Q) R ⊕ Along (To P Q) R) tt

pub inside_doubled : (e : Edge) (r : Point) → Inside (doubled e) (twice r) → Inside e r
inside_doubled e r at = grind (arith, across_doubled, along_doubled, across_middle, along_middle)

-- the middle of an edge lies inside it
pub middle_inside : (p q : Point) → Straight (vector p q) → Inside (doubled (record { from = p; to = q })) (middle p q)
middle_inside p q straight =
    half_inside (twice p) (twice q) (middle p q) (straight_doubled p q straight) (λ i. record { x = even p.x q.x i; y = even p.y q.y i })
  where
    even : (a b : ℤ) → (a +ℤ b) +ℤ (a +ℤ b) ≡ (a +ℤ a) +ℤ (b +ℤ b)
    even a b = omega (arith, ints)

    straight_doubled : (p q : Point) → Straight (vector p q) → Straight (vector (twice p) (twice q))
    straight_doubled p q straight =
        let E = To P Q in
        let F = To (Sum P P) (Sum Q Q) in
        let four = solve (numbers p q q) (Along F F) ((Along E E ⊕ Along E E) ⊕ (Along E E ⊕ Along E E)) tt in
        omega (arith, ints)

-- what lies inside a half of an edge lies inside the edge
halved : (p q r : Point) → (across (vector (twice p) (middle p q)) r ≡ across (vector p q) r) × (along (vector (twice p) (middle p q)) r ≡ along (vector p q) r) ×
    (along (vector p q) (twice q) ≡ along (vector p q) (middle p q) +ℤ (((q.x -ℤ p.x) *ℤ (q.x -ℤ p.x)) +ℤ ((q.y -ℤ p.y) *ℤ (q.y -ℤ p.y))))
unfolding across along
halved p q r =
    let E = To P Q in
    let F = To (Sum P P) (Sum P Q) in
    (solve (numbers p q r) (Across F R) (Across E R) tt, solve (numbers p q r) (Along F R) (Along E R) tt, solve (numbers p q r) (Along E (Sum Q Q)) (Along E (Sum P Q) ⊕ Along E E) tt)

square_sum : (a b : ℤ) → pos 0 ≤ℤ ((a *ℤ a) +ℤ (b *ℤ b))
square_sum a b = prove≤ (a ∷ b ∷ []) [] (sqr (var 0) ⊞ sqr (var 1)) (con (pos 0)) ((var 0 ⊗ var 0) ⊕ (var 1 ⊗ var 1)) tt tt

half1_inside : (e : Edge) (r : Point) → Inside (half1 e) r → Inside (doubled e) r
half1_inside e r at =
    let p = e.from in
    let q = e.to in
    let at-r = halved p q r in
    let at_p = halved p q (twice p) in
    let at-m = halved p q (middle p q) in
    let not-less = square_sum (q.x -ℤ p.x) (q.y -ℤ p.y) in
    let ar = across_doubled p q r in
    let ap' = across_doubled p q (twice p) in
    let br = along_doubled p q r in
    let bp = along_doubled p q (twice p) in
    let bq = along_doubled p q (twice q) in
    record { on = omega (arith, ints); past = omega (arith, ints); short = omega (arith, ints) }

pub halved_inside : (s : Side) (e : Edge) (r : Point) → Inside (half s e) r → Inside (doubled e) r
halved_inside begin e r at = half1_inside e r at
halved_inside end e r at =
    let turned : Inside (half1 (back e)) r = subst (λ f. Inside f r) (back_half end e) (inside_back (half2 e) r at) in
    inside_back (doubled (back e)) r (half1_inside (back e) r turned)

-- on the edge from the middle of q and r to that of r and p all lies as far across the edge from p to q
pub across_link : (p q r x : Point) → Inside (record { from = middle q r; to = middle r p }) x → across (vector p q) x ≡ across (vector p q) q +ℤ across (vector p q) r
unfolding across
across_link p q r x at =
    let here = turned p q r x in
    let there = turned p q r (middle q r) in
    let sum = across_middle (vector p q) q r in
    omega (arith, ints)
  where
    turned : (p q r x : Point) → across (vector (middle q r) (middle r p)) x ≡ neg_ℤ (across (vector p q) x)
    turned p q r x =
        let X = pair 6 7 in
        solve (p.x ∷ p.y ∷ q.x ∷ q.y ∷ r.x ∷ r.y ∷ x.x ∷ x.y ∷ []) (Across (To (Sum Q R) (Sum R P)) X) (⊖ (Across (To P Q) X)) tt

-- an end is not inside
pub from_outside : (e : Edge) (r : Point) → r ≡ e.from → Inside e r → ⊥
from_outside e r is at = let past = at.past in let here = ap (along (direction e)) is in omega (arith, ints)

pub to_outside : (e : Edge) (r : Point) → r ≡ e.to → Inside e r → ⊥
to_outside e r is at = let short = at.short in let here = ap (along (direction e)) is in omega (arith, ints)

-- nor is the middle of an edge inside a half of it
pub middle_outside : (s : Side) (e : Edge) (r : Point) → r ≡ middle e.from e.to → Inside (half s e) r → ⊥
middle_outside s e r is at = grind arith
