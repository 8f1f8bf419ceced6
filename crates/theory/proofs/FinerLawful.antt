-- A finer plate is lawful. Assumes nothing.
use Rattle.std.proofs.Common.{◌≡◌, Bool, true, not, ◌&&◌, ltb, ◌⊎◌, map, ℤ, pos, ◌+ℤ◌, sym, refl, ap, ◌∙◌, subst, ap₂, inl, inr, ⊎_elim, arith}
use mathlib.Core.List.Memᴰ
use mathlib.Core.List.{flat_map, Memᴰ}
use lib.Signed.{lt_z}
use Rattle.std.proofs.lemmas.Bool.{and_from, cases_Bool, or_left, or_right, not_from_false}
use Rattle.std.proofs.lemmas.List.Folds.{list_all-map}
use Rattle.exact.specs.Lists.{every}
use Rattle.exact.proofs.Members.{every_in, every_flat_map, flat_map_member, member_flat_map}
use Rattle.rules.specs.declared.Edge.{Edge}
use Rattle.rules.specs.declared.Triangle.{Triangle}
use Rattle.rules.specs.declared.OutlineEdge.{OutlineEdge}
use Rattle.rules.specs.declared.OutlineEdge.TheVariants.{Closed, Held}
use Rattle.rules.specs.declared.Corner.{Corner}
use Rattle.rules.specs.Edges.{next, corner, corners_in, back, inside}
use Rattle.rules.specs.Finer.{parts, half1, half2, halves, finer}
use Rattle.rules.specs.Lawful.{edges, edge_of, outline_edges, times, paired, outlined, held_ends, held, agree, one_temperature, apart, clear, all_clear, lawful}
use Rattle.rules.specs.Parts.{Part, part, middle, twice}
use Rattle.rules.specs.Plates.{Plate, PointValue, same, same_point}
use Rattle.rules.specs.Promises.{FinerLawful}
use Rattle.rules.specs.Triangles.{proper}
use Rattle.theory.proofs.Corners.{prev, mid}
use Rattle.theory.proofs.Facts.{Facts, facts, edge_out, corner_out}
use Rattle.theory.proofs.FinerApart.{one_of, other_of, corner_part, part_out, all_apart}
use Rattle.theory.proofs.FinerEdges.{fine_edges, all_paired, all_outlined}
use Rattle.theory.proofs.Insides.{is_outside, inside_back}
use Rattle.theory.proofs.Meetings.{no_middle, same_middle, half_clear, link_clear, link}
use Rattle.theory.proofs.Pieces.{Piece, halved, inner, outer, piece, pieces}
use Rattle.theory.proofs.Plane.{Inside}
use Rattle.theory.proofs.Sameness.{point_is, same_from}
use Rattle.theory.proofs.Triangles.{parts_alike, part_k}

-- ---- triangles
part_proper : (p : Part) (t : Triangle) → proper t ≡ true → proper (part p t) ≡ true
part_proper p t ok = ap₂ (λ a k. lt_z (pos 0) a && ltb 0 k) (parts_alike p t (record { a = pos 0; b = pos 0; c = pos 0 })).1 (part_k p t) ∙ ok

module _ (m : Plate) (known : Facts m) where
  all_proper : every proper (finer m).triangles ≡ true
  unfolding finer
  all_proper =
      every_flat_map proper parts m.triangles (λ t nt. every_in proper (parts t) (λ x n.
      let p = part_out t x n in ap proper p.1 ∙ part_proper p.0 t (known.is_proper t nt)))

  triangles_apart : apart (finer m).triangles ≡ true
  unfolding finer
  triangles_apart = all_apart m.triangles (every_in proper m.triangles known.is_proper) known.kept_apart

  -- ---- no corner of it lies inside an edge
  piece_clear : (s t : Triangle) → Memᴰ s m.triangles → Memᴰ t m.triangles → (p : Piece) (a b : Corner) → Inside (piece s p) (middle (corner t a) (corner t b)) → ⊥
  piece_clear s t ns nt (halved side i) a b = half_clear m known side s t i a b ns nt
  piece_clear s t ns nt (inner k) a b = link_clear m known s t k a b ns nt
  piece_clear s t ns nt (outer k) a b = λ at. link_clear m known s t k a b ns nt (inside_back (link s (prev k) (next k)) (middle (corner t a) (corner t b)) at)

  part_clear : (s t : Triangle) → Memᴰ s m.triangles → Memᴰ t m.triangles → (p : Piece) (q : Part) → clear (piece s p) (part q t) ≡ true
  unfolding clear
  part_clear s t ns nt p q = every_in (λ r. not (inside (piece s p) r)) (corners_in (part q t)) (λ r n.
      let i = corner_out (part q t) r n in
      not_from_false (inside (piece s p) r) (ap (inside (piece s p)) (i.1 ∙ corner_part q t i.0) ∙ is_outside (piece s p) _ (piece_clear s t ns nt p (one_of q i.0) (other_of q i.0))))

  all_clear_lem : all_clear (finer m).triangles ≡ true
  unfolding all_clear finer
  all_clear_lem =
      let ts = flat_map parts m.triangles in
      let test : Edge → Bool = λ e. every (clear e) ts in
      ap (every test) (fine_edges m) ∙ every_flat_map test (λ t. map (piece t) pieces) m.triangles (λ s ns.
      list_all-map test (piece s) pieces ∙ every_in (λ p. test (piece s p)) pieces (λ p np.
      every_flat_map (clear (piece s p)) parts m.triangles (λ t nt. every_in (clear (piece s p)) (parts t) (λ x nx.
      let q = part_out t x nx in ap (clear (piece s p)) q.1 ∙ part_clear s t ns nt p q.0))))

  -- ---- temperatures at the ends of halves: doubled from an end, or the sum at a middle
  Doubled : PointValue → Type 0
  Doubled p = (x : PointValue) × Memᴰ x (held m) × (p ≡ record { at = twice x.at; value = x.value +ℤ x.value })

  Middle : PointValue → Type 0
  Middle p = (e : Edge) × (g : ℤ) × (h : ℤ) × Memᴰ (Held e g h) m.outline × (p ≡ record { at = middle e.from e.to; value = g +ℤ h })

  end_in : (e : Edge) (g h : ℤ) → Memᴰ (Held e g h) m.outline → (x : PointValue) → Memᴰ x (held_ends (Held e g h)) → Memᴰ x (held m)
  unfolding held
  end_in e g h nb x nx = member_flat_map held_ends m.outline (Held e g h) x nb nx

  edge_there : (e : Edge) (g h : ℤ) → Memᴰ (Held e g h) m.outline → Memᴰ e (outline_edges m)
  unfolding outline_edges
  edge_there e g h nb = Memᴰ.map edge_of nb

  half_ends : (e : Edge) (g h : ℤ) → Memᴰ (Held e g h) m.outline → (b : OutlineEdge) → Memᴰ b (halves (Held e g h)) → (p : PointValue) → Memᴰ p (held_ends b) → Doubled p ⊎ Middle p
  unfolding Doubled Middle
  half_ends e g h nb b (Memᴰ.head is) p n = go (subst (λ c. Memᴰ p (held_ends c)) is n)
    where
      go : Memᴰ p (held_ends (Held (half1 e) (g +ℤ g) (g +ℤ h))) → Doubled p ⊎ Middle p
      go (Memᴰ.head q) = inl (record { at = e.from; value = g }, end_in e g h nb _ (Memᴰ.head refl), q)
      go (Memᴰ.tail (Memᴰ.head q)) = inr (e, g, h, nb, q)
      go (Memᴰ.tail (Memᴰ.tail n)) = elim n [ ]
  half_ends e g h nb b (Memᴰ.tail (Memᴰ.head is)) p n = go (subst (λ c. Memᴰ p (held_ends c)) is n)
    where
      go : Memᴰ p (held_ends (Held (half2 e) (g +ℤ h) (h +ℤ h))) → Doubled p ⊎ Middle p
      go (Memᴰ.head q) = inr (e, g, h, nb, q)
      go (Memᴰ.tail (Memᴰ.head q)) = inl (record { at = e.to; value = h }, end_in e g h nb _ (Memᴰ.tail (Memᴰ.head refl)), q)
      go (Memᴰ.tail (Memᴰ.tail n)) = elim n [ ]
  half_ends e g h nb b (Memᴰ.tail (Memᴰ.tail n)) p k = elim n [ ]

  held_out : (p : PointValue) → Memᴰ p (held (finer m)) → Doubled p ⊎ Middle p
  unfolding held finer
  held_out p n =
      let half = flat_map_member held_ends (flat_map halves m.outline) p n in
      let whole = flat_map_member halves m.outline half.0 half.1 in
      of whole.0 whole.1 half.0 whole.2 half.2
    where
      of : (b : OutlineEdge) → Memᴰ b m.outline → (c : OutlineEdge) → Memᴰ c (halves b) → Memᴰ p (held_ends c) → Doubled p ⊎ Middle p
      of (Held e g h) nb c nc np = half_ends e g h nb c nc p np
      of (Closed e) nb c (Memᴰ.head is) np = absurd (Memᴰ.not-nil (subst (λ c. Memᴰ p (held_ends c)) is np))
      of (Closed e) nb c (Memᴰ.tail (Memᴰ.head is)) np = absurd (Memᴰ.not-nil (subst (λ c. Memᴰ p (held_ends c)) is np))
      of (Closed e) nb c (Memᴰ.tail (Memᴰ.tail n)) np = elim n [ ]

  -- an end of a held edge is a corner
  end_corner : (x : PointValue) → Memᴰ x (held m) → (t : Triangle) × (i : Corner) × Memᴰ t m.triangles × (x.at ≡ corner t i)
  unfolding held
  end_corner x n = let at = flat_map_member held_ends m.outline x n in of at.0 at.1 at.2
    where
      of : (b : OutlineEdge) → Memᴰ b m.outline → Memᴰ x (held_ends b) → (t : Triangle) × (i : Corner) × Memᴰ t m.triangles × (x.at ≡ corner t i)
      of (Closed e) nb n = elim n [ ]
      of (Held e g h) nb (Memᴰ.head is) =
          let at = edge_out m.triangles e (known.borders e (edge_there e g h nb)) in
          (at.0, at.1, at.2, ap (λ p. p.at) is ∙ ap (λ f. f.from) at.3)
      of (Held e g h) nb (Memᴰ.tail (Memᴰ.head is)) =
          let at = edge_out m.triangles e (known.borders e (edge_there e g h nb)) in
          (at.0, next at.1, at.2, ap (λ p. p.at) is ∙ ap (λ f. f.to) at.3)
      of (Held e g h) nb (Memᴰ.tail (Memᴰ.tail n)) = elim n [ ]

  -- an outline edge's back is in no triangle
  no_back : (e f : Edge) → Memᴰ e (outline_edges m) → Memᴰ f (outline_edges m) → f ≡ back e → ⊥
  unfolding times
  no_back e f ne nf is = grind arith

  -- two ends, or two middles, at one place have one temperature; an end and a middle are never at one place
  ends_agree : (p q : PointValue) → Doubled p → Doubled q → p.at ≡ q.at → p.value ≡ q.value
  unfolding Doubled
  ends_agree p q dp dq e = grind arith

  end_not_middle : (p q : PointValue) → Doubled p → Middle q → p.at ≡ q.at → ⊥
  unfolding Doubled Middle
  end_not_middle p q dp mq e = grind (arith, end_corner, edge_out, edge_there, no_middle)

  middles_agree : (p q : PointValue) → Middle p → Middle q → p.at ≡ q.at → p.value ≡ q.value
  unfolding Middle
  middles_agree p q (e, g, h, nb, is) (f, g', h', nb', is') same_place =
      let ne = edge_there e g h nb in
      let nf = edge_there f g' h' nb' in
      let s = edge_out m.triangles e (known.borders e ne) in
      let t = edge_out m.triangles f (known.borders f nf) in
      let mids : mid s.0 s.1 ≡ mid t.0 t.1 =
      sym (ap (λ d. middle d.from d.to) s.3) ∙ sym (ap (λ r. r.at) is) ∙ same_place ∙ ap (λ r. r.at) is' ∙ ap (λ d. middle d.from d.to) t.3 in
      ⊎_elim (λ one. alike (s.3 ∙ sym one ∙ sym t.3)) (λ turned. absurd (no_back e f ne nf (t.3 ∙ turned ∙ ap back (sym s.3))))
      (same_middle m known s.0 t.0 s.1 t.1 s.2 t.2 mids)
    where
      alike : e ≡ f → p.value ≡ q.value
      alike one =
          let from = known.one_temperature_lem (record { at = e.from; value = g }) (record { at = f.from; value = g' }) (end_in e g h nb _ (Memᴰ.head refl)) (end_in f g' h' nb' _ (Memᴰ.head refl)) (ap (λ d. d.from) one) in
          let to = known.one_temperature_lem (record { at = e.to; value = h }) (record { at = f.to; value = h' }) (end_in e g h nb _ (Memᴰ.tail (Memᴰ.head refl))) (end_in f g' h' nb' _ (Memᴰ.tail (Memᴰ.head refl))) (ap (λ d. d.to) one) in
          ap (λ r. r.value) is ∙ ap₂ ◌+ℤ◌ from to ∙ sym (ap (λ r. r.value) is')

  held_agree : (p q : PointValue) → Memᴰ p (held (finer m)) → Memᴰ q (held (finer m)) → p.at ≡ q.at → p.value ≡ q.value
  held_agree p q np nq e = grind (arith, ends_agree, end_not_middle, held_out, middles_agree)

  one_temperature_there : one_temperature (held (finer m)) ≡ true
  unfolding one_temperature agree
  one_temperature_there =
      let ps = held (finer m) in
      every_in (λ p. every (agree p) ps) ps (λ p np. every_in (agree p) ps (λ q nq.
      ⊎_elim (λ t. or_right (not (same_point p.at q.at)) (same p.value q.value) (same_from p.value q.value (held_agree p q np nq (point_is p.at q.at t))))
      (λ f. or_left (not (same_point p.at q.at)) (same p.value q.value) (not_from_false (same_point p.at q.at) f)) (cases_Bool (same_point p.at q.at))))

pub finer_lawful : FinerLawful
unfolding lawful
finer_lawful m ok =
    let known = facts m ok in
    let n = finer m in
    and_from (every proper n.triangles) _ (all_proper m known) (and_from (every (paired n) (edges n.triangles)) _ (all_paired m known)
    (and_from (every (outlined n) (outline_edges n)) _ (all_outlined m known) (and_from (one_temperature (held n)) _ (one_temperature_there m known)
    (and_from (apart n.triangles) (all_clear n.triangles) (triangles_apart m known) (all_clear_lem m known)))))
