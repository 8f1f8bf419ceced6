-- No field spends less than any stream says: the law of one triangle, summed over a plate. Assumes nothing.
use Rattle.std.proofs.Common.{◌≡◌, ◌<◌, true, List, [], ◌∷◌, ℤ, neg_ℤ, ap, ◌∙◌, subst, arith}
use mathlib.Core.List.{Memᴰ}
use lib.IntN.{+ℤ_idr}
use Rattle.exact.specs.Fractions.{Fraction, whole, neg_f, ◌+F◌, sum_f, ◌≤F◌}
use Rattle.exact.specs.Lists.{sum_z}
use Rattle.exact.proofs.Fractions.{+F_den, ≤F_move}
use Rattle.exact.proofs.FractionSums.{sum_f_den, sum_f_+F, sum_f_whole, sum_f_≤F}
use Rattle.exact.proofs.Ring.{var, ◌⊕◌, ◌⊗◌, ◌⊝◌, ⊖◌, solve}
use Rattle.exact.proofs.Sums.{sum_z_cong, sum_z_cong_mem, sum_z_flat_map, sum_z_map}
use Rattle.rules.specs.declared.Edge.{Edge}
use Rattle.rules.specs.declared.Triangle.{Triangle}
use Rattle.rules.specs.declared.OutlineEdge.{OutlineEdge}
use Rattle.rules.specs.Bounds.{work, work_along}
use Rattle.rules.specs.Edges.{edges_in}
use Rattle.rules.specs.Energy.{is_field, is_stream, spent, drag, says}
use Rattle.rules.specs.Lawful.{edges, edge_of, outline_edges, lawful}
use Rattle.rules.specs.Plates.{Plate, Values, corners_of}
use Rattle.rules.specs.Promises.{Below, DenominatorsAbove}
use Rattle.rules.specs.Triangles.{spent_in, drag_in, exchange, around}
use Rattle.theory.proofs.Cancel.{cancel}
use Rattle.theory.proofs.Facts.{Facts, facts}
use Rattle.theory.proofs.Known.{field_at, stream_at}
use Rattle.theory.proofs.Rounding.{above}
use Rattle.theory.proofs.Triangles.{local_law}

-- ---- the exchange along an edge
exchange_turns : (a b c d : ℤ) → exchange b a d c ≡ neg_ℤ (exchange a b c d)
exchange_turns a b c d =
    solve (a ∷ b ∷ c ∷ d ∷ []) ((var 1 ⊕ var 0) ⊗ (var 2 ⊝ var 3)) (⊖ ((var 0 ⊕ var 1) ⊗ (var 3 ⊝ var 2))) tt

module _ (u s : Values) where
  abbrev along : Edge → ℤ
  along e = exchange (u e.from) (u e.to) (s e.from) (s e.to)

  around_is : (t : Triangle) → sum_z along (edges_in t) ≡ around (corners_of u t) (corners_of s t)
  unfolding around
  around_is t = grind (arith, +ℤ_idr)

  all_around : (ts : List Triangle) → sum_z along (edges ts) ≡ sum_z (λ t. around (corners_of u t) (corners_of s t)) ts
  unfolding edges
  all_around ts = sum_z_flat_map along edges_in ts ∙ sum_z_cong ts around_is

  -- along the outline it is the stream's work
  module _ (m : Plate) (field : is_field u m ≡ true) (stream : is_stream s m ≡ true) where
    work_along_lem : (b : OutlineEdge) → Memᴰ b m.outline → along (edge_of b) ≡ work_along s b
    unfolding work_along
    work_along_lem b at = grind (arith, stream_at, field_at)

    outline_work : sum_z along (outline_edges m) ≡ work s m.outline
    unfolding outline_edges
    outline_work = sum_z_map along edge_of m.outline ∙ sum_z_cong_mem m.outline work_along_lem

    all_work : Facts m → sum_z (λ t. around (corners_of u t) (corners_of s t)) m.triangles ≡ work s m.outline
    all_work known = grind (arith, all_around, cancel, exchange_turns, outline_work)

pub below : Below
unfolding spent drag says
below m ok u s field stream =
    let ts = m.triangles in
    let exchanged : Triangle → Fraction = λ t. whole (around (corners_of u t) (corners_of s t)) in
    let spends : Triangle → Fraction = λ t. spent_in t (corners_of u t) in
    let drags : Triangle → Fraction = λ t. drag_in t (corners_of s t) in
    let both : Triangle → Fraction = λ t. spends t +F drags t in
    let each : sum_f exchanged ts ≤F sum_f both ts = sum_f_≤F exchanged both ts (λ t at. local_law t ((facts m ok).is_proper t at) (corners_of u t) (corners_of s t)) in
    let total = sum_f_whole (λ t. around (corners_of u t) (corners_of s t)) ts ∙ ap whole (all_work u s m field stream (facts m ok)) in
    ≤F_move (whole (work s m.outline)) (sum_f spends ts) (sum_f drags ts)
    (subst (λ p. p ≤F (sum_f spends ts +F sum_f drags ts)) total (subst (λ q. sum_f exchanged ts ≤F q) (sum_f_+F spends drags ts) each))

-- ---- denominators
pub spent_den : (m : Plate) → lawful m ≡ true → (u : Values) → 0 < (spent u m.triangles).den
unfolding spent
spent_den m ok u = sum_f_den (λ t. spent_in t (corners_of u t)) m.triangles (λ t at. (above t ((facts m ok).is_proper t at)).0)

pub says_den : (m : Plate) → lawful m ≡ true → (s : Values) → 0 < (says s m).den
unfolding says drag
says_den m ok s =
    +F_den (whole (work s m.outline)) (neg_f (drag s m.triangles)) (omega arith)
    (sum_f_den (λ t. drag_in t (corners_of s t)) m.triangles (λ t at. (above t ((facts m ok).is_proper t at)).1))

pub denominators_above : DenominatorsAbove
denominators_above m ok u s = (spent_den m ok u, says_den m ok s)
