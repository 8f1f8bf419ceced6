-- Streams and fields of different finenesses are carried to one that both reach, and compared there. Assumes nothing.
use Rattle.std.proofs.Common.{◌≡◌, ℕ, zero, suc, ◌+◌, ◌^◌, ◌<◌, Bool, true, pos, ◌*ℤ◌, sym, ap, ◌∙◌, subst, add-zero, add-suc, pow-suc, arith}
use Rattle.exact.specs.Fractions.{Fraction, whole, scaled, ◌≤F◌, ◌≈F◌}
use Rattle.exact.proofs.Certificates.{natural}
use Rattle.exact.proofs.Fractions.{≤F_trans, ≤F_scaled, ≤F_whole, ≈F_of_≡, ≈F_trans, ≈F_scaled, scaled_one, scaled_scaled}
use Rattle.rules.specs.Bounds.{upper, lower}
use Rattle.rules.specs.Energy.{is_field, is_stream, spent, says}
use Rattle.rules.specs.Finer.{finer, finest, Carried, carried}
use Rattle.rules.specs.Lawful.{lawful}
use Rattle.rules.specs.Plates.{Plate, Values}
use Rattle.rules.specs.Promises.{scale, HoweverFine, Between, Bracketed}
use Rattle.theory.proofs.Below.{below, spent_den, says_den}
use Rattle.theory.proofs.Carried.{fields_carried, streams_carried}
use Rattle.theory.proofs.Carries.{carried_there}
use Rattle.theory.proofs.FinerLawful.{finer_lawful}
use Rattle.theory.proofs.Printed.{printed}

-- ---- what is printed, to scale
printed_low : (n : ℕ) (m : Plate) → lawful m ≡ true → (s : Values) → whole (scale n *ℤ lower s m) ≤F scaled (scale n) (says s m)
printed_low n m ok s = ≤F_scaled (scale n) (whole (lower s m)) (says s m) (natural (4 ^ n)) (printed m ok s s).1

printed_high : (n : ℕ) (m : Plate) → lawful m ≡ true → (u : Values) → scaled (scale n) (spent u m.triangles) ≤F whole (scale n *ℤ pos (upper u m.triangles))
printed_high n m ok u = ≤F_scaled (scale n) (spent u m.triangles) (whole (pos (upper u m.triangles))) (natural (4 ^ n)) (printed m ok u u).0

-- ---- plates of different finenesses
finest_finest : (i j : ℕ) (m : Plate) → finest i (finest j m) ≡ finest (i + j) m
unfolding finest
finest_finest i zero m = ap (λ n. finest n m) (sym (add-zero i))
finest_finest i (suc j) m = finest_finest i j (finer m) ∙ ap (λ n. finest n m) (sym (add-suc i j))

finest_meet : (i j : ℕ) (m : Plate) → finest i (finest j m) ≡ finest j (finest i m)
finest_meet i j m = grind (arith, finest_finest)

scale_more : (n : ℕ) (p : Fraction) → scaled (scale n) (scaled (pos 4) p) ≡ scaled (scale (suc n)) p
scale_more n p = scaled_scaled (scale n) (pos 4) p ∙ ap (λ k. scaled (pos k) p) (sym (pow-suc 4 n))

lawful_finest : (n : ℕ) (m : Plate) → lawful m ≡ true → lawful (finest n m) ≡ true
unfolding finest
lawful_finest zero m ok = ok
lawful_finest (suc n) m ok = lawful_finest n (finer m) (finer_lawful m ok)

-- values of a kind, of which a quantity becomes four times as large where they are carried, carried n times
module _ (kind : Values → Plate → Bool) (quantity : Values → Plate → Fraction) (den : (m : Plate) → lawful m ≡ true → (u : Values) → 0 < (quantity u m).den)
    (carry : (m : Plate) → lawful m ≡ true → (u v : Values) → Carried u v m → kind u m ≡ true → (kind v (finer m) ≡ true) × (quantity v (finer m) ≈F scaled (pos 4) (quantity u m))) where
  carried_far : (n : ℕ) (m : Plate) → lawful m ≡ true → (u : Values) → kind u m ≡ true →
      (v : Values) × (kind v (finest n m) ≡ true) × (quantity v (finest n m) ≈F scaled (scale n) (quantity u m))
  unfolding finest
  carried_far zero m ok u is = (u, is, ≈F_of_≡ (quantity u m) (scaled (scale 0) (quantity u m)) (sym (scaled_one (quantity u m))))
  carried_far (suc n) m ok u is =
      let v = carried u m in
      let step = carry m ok u v (carried_there m ok u) is in
      let ok' = finer_lawful m ok in
      let far = carried_far n (finer m) ok' v step.0 in (
        far.0,
        far.1,
        ≈F_trans (quantity far.0 (finest n (finer m))) (scaled (scale n) (quantity v (finer m))) (scaled (scale (suc n)) (quantity u m)) (den (finer m) ok' v) far.2
            (subst (λ p. scaled (scale n) (quantity v (finer m)) ≈F p) (scale_more n (quantity u m)) (≈F_scaled (scale n) (quantity v (finer m)) (scaled (pos 4) (quantity u m)) (natural (4 ^ n)) step.1)),
      )

-- a stream of one fineness and a field of another, to scale
compared : (m : Plate) → lawful m ≡ true → (i j : ℕ) (u s : Values) → is_field u (finest i m) ≡ true → is_stream s (finest j m) ≡ true →
    scaled (scale i) (says s (finest j m)) ≤F scaled (scale j) (spent u (finest i m).triangles)
compared m ok i j u s field stream =
    let meet = finest j (finest i m) in
    let ok-i = lawful_finest i m ok in
    let ok-j = lawful_finest j m ok in
    let ok-meet = lawful_finest j (finest i m) ok-i in
    let spends : Values → Plate → Fraction = λ u m. spent u m.triangles in
    let fine = carried_far is_field spends spent_den fields_carried j (finest i m) ok-i u field in
    let far = carried_far is_stream says says_den streams_carried i (finest j m) ok-j s stream in
    let v = fine.0 in
    let r = far.0 in
    let there : (is_stream r meet ≡ true) × (says r meet ≈F scaled (scale i) (says s (finest j m))) =
    subst (λ p. (is_stream r p ≡ true) × (says r p ≈F scaled (scale i) (says s (finest j m)))) (finest_meet i j m) (far.1, far.2) in
    let low = scaled (scale i) (says s (finest j m)) in
    let high = scaled (scale j) (spends u (finest i m)) in
    ≤F_trans low (says r meet) high (says_den meet ok-meet r) there.1.1
    (≤F_trans (says r meet) (spends v meet) high (spent_den meet ok-meet v) (below meet ok-meet v r fine.1 there.0) fine.2.0)

pub however_fine : HoweverFine
unfolding finest
however_fine m ok s stream n u field =
    subst (λ p. scaled (scale n) (says s m) ≤F p) (scaled_one (spent u (finest n m).triangles)) (compared m ok n 0 u s field stream)

pub between : Between
between m ok i j u s field stream =
    let ok-i = lawful_finest i m ok in
    let ok-j = lawful_finest j m ok in
    let low = scale i *ℤ lower s (finest j m) in
    let high = scale j *ℤ pos (upper u (finest i m).triangles) in
    let said = scaled (scale i) (says s (finest j m)) in
    let spends = scaled (scale j) (spent u (finest i m).triangles) in
    ≤F_whole low high
    (≤F_trans (whole low) said (whole high) (says_den (finest j m) ok-j s) (printed_low i (finest j m) ok-j s)
    (≤F_trans said spends (whole high) (spent_den (finest i m) ok-i u) (compared m ok i j u s field stream) (printed_high j (finest i m) ok-i u)))

pub bracketed : Bracketed
bracketed m ok i u s field stream =
    let ok-i = lawful_finest i m ok in
    let mi = finest i m in
    record {
      fields = λ n w is. ≤F_trans (whole (scale n *ℤ lower s mi)) (scaled (scale n) (says s mi)) (scaled (scale i) (spent w (finest n m).triangles)) (says_den mi ok-i s)
          (printed_low n mi ok-i s) (compared m ok n i w s is stream);
      streams = λ n r is. ≤F_trans (scaled (scale i) (says r (finest n m))) (scaled (scale n) (spent u mi.triangles)) (whole (scale n *ℤ pos (upper u mi.triangles))) (spent_den mi ok-i u)
          (compared m ok i n u r field is) (printed_high n mi ok-i u);
      reached = λ n.
          let spends : Values → Plate → Fraction = λ u m. spent u m.triangles in
          let far = carried_far is_field spends spent_den fields_carried n mi ok-i u field in
          (far.0, far.1, ≤F_trans (spends far.0 (finest n mi)) (scaled (scale n) (spends u mi)) (whole (scale n *ℤ pos (upper u mi.triangles))) (spent_den mi ok-i u) far.2.0 (printed_high n mi ok-i u));
    }
