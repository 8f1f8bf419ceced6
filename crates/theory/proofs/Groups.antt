-- The group of a point is all points that closed edges join to it: walking along the outline once for each of its edges is enough. Assumes nothing.
use Rattle.std.proofs.Common.{◌≡◌, ℕ, ◌+◌, ◌<◌, ◌≤◌, Bool, true, ◌&&◌, ◌||◌, ◌⊎◌, List, [], ◌∷◌, ◌++◌, length, fold, sym, refl, ap, ◌∙◌, subst, inl, inr, ⊎_elim, arith}
use mathlib.Core.List.Memᴰ
use mathlib.Core.List.{Memᴰ}
use Rattle.std.proofs.lemmas.Bool.{cond_both, cond-true}
use Rattle.exact.specs.Lists.{count}
use Rattle.exact.proofs.Members.{every_out, every_in, count_one_more, count_all}
use Rattle.rules.specs.declared.Point.{Point}
use Rattle.rules.specs.declared.Edge.{Edge}
use Rattle.rules.specs.declared.OutlineEdge.{OutlineEdge}
use Rattle.rules.specs.declared.OutlineEdge.TheVariants.{Closed, Held}
use Rattle.rules.specs.Energy.{is_stream, keeps}
use Rattle.rules.specs.Plates.{Plate, Values, same, among, noted}
use Rattle.rules.specs.Promises.{Joined, GroupsJoined, GroupsKept, GroupsAlike}
use Rattle.rules.specs.Settled.{joined, group, changed_all}
use Rattle.theory.proofs.Points.{among_out, among_in, noted_keeps, noted_there}
use Rattle.theory.proofs.Sameness.{same_is, same_from}

-- ---- one pass along the outline
joined_keeps : (ps : List Point) (b : OutlineEdge) (q : Point) → Memᴰ q ps → Memᴰ q (joined ps b)
unfolding joined
joined_keeps ps (Held e g h) q n = n
joined_keeps ps (Closed e) q n =
    cond_both (among e.from ps || among e.to ps) (noted (noted ps e.from) e.to) ps (Memᴰ q) (λ t. noted_keeps q e.to _ (noted_keeps q e.from ps n)) (λ f. n)

pass_keeps : (bs : List OutlineEdge) (ps : List Point) (q : Point) → Memᴰ q ps → Memᴰ q (fold joined ps bs)
pass_keeps [] ps q n = n
pass_keeps (b ∷ bs) ps q n = pass_keeps bs (joined ps b) q (joined_keeps ps b q n)

-- an edge with one end among the points has both among them after the pass
abbrev Both : Edge → List Point → Type 0
Both e ps = Memᴰ e.from ps × Memᴰ e.to ps

joins : (ps : List Point) (e : Edge) → (among e.from ps || among e.to ps) ≡ true → Both e (joined ps (Closed e))
unfolding joined
joins ps e t = grind (arith, noted_keeps, noted_there)

touched : (ps : List Point) (e : Edge) → Memᴰ e.from ps ⊎ Memᴰ e.to ps → (among e.from ps || among e.to ps) ≡ true
touched ps e at = grind (arith, among_in)

pass_joins : (bs : List OutlineEdge) (ps : List Point) (e : Edge) → Memᴰ (Closed e) bs → Memᴰ e.from ps ⊎ Memᴰ e.to ps → Both e (fold joined ps bs)
pass_joins [] ps e n at = elim n [ ]
pass_joins (b ∷ bs) ps e (Memᴰ.head is) at =
    let both = subst (λ c. Both e (joined ps c)) is (joins ps e (touched ps e at)) in
    (pass_keeps bs (joined ps b) e.from both.0, pass_keeps bs (joined ps b) e.to both.1)
pass_joins (b ∷ bs) ps e (Memᴰ.tail n) at =
    pass_joins bs (joined ps b) e n (⊎_elim (λ m. inl (joined_keeps ps b e.from m)) (λ m. inr (joined_keeps ps b e.to m)) at)

-- ---- points that are balanced: no closed edge has just one end among them
Balanced : List OutlineEdge → List Point → Type 0
Balanced bs ps = (e : Edge) → Memᴰ (Closed e) bs → among e.from ps ≡ among e.to ps

-- a pass leaves them as they are
noted_same : (q : Point) (ps : List Point) → among q ps ≡ true → noted ps q ≡ ps
unfolding noted
noted_same q ps t = cond-true (among q ps) ps _ t

joined_same : (bs : List OutlineEdge) (ps : List Point) → Balanced bs ps → (b : OutlineEdge) → Memᴰ b bs → joined ps b ≡ ps
unfolding joined Balanced
joined_same bs ps even b n = grind (arith, noted_same)

pass_same : (all bs : List OutlineEdge) (ps : List Point) → Balanced all ps → ((b : OutlineEdge) → Memᴰ b bs → Memᴰ b all) → fold joined ps bs ≡ ps
pass_same all [] ps even sub = refl
pass_same all (b ∷ bs) ps even sub =
    ap (λ qs. fold joined qs bs) (joined_same all ps even b (sub b (Memᴰ.head refl))) ∙ pass_same all bs ps even (λ c n. sub c (Memᴰ.tail n))

-- ---- how many edges have both ends among the points, held ones counted too: at least one more with each pass, unless they are balanced
abbrev both_in : List Point → OutlineEdge → Bool
both_in ps (Closed e) = among e.from ps && among e.to ps
both_in ps (Held e g h) = true

module _ (bs : List OutlineEdge) where
  pass : List Point → List Point
  pass ps = fold joined ps bs

  full : List Point → ℕ
  full ps = count (both_in ps) bs

  balanced_or_more : (ps : List Point) → Balanced bs ps ⊎ (full ps < full (pass ps))
  unfolding full Balanced pass
  balanced_or_more ps = grind (arith, pass_joins, among_out, count_one_more, among_in)

  -- a pass for each element of a list
  passes : List Point → List OutlineEdge → List Point
  passes ps cs = fold (λ qs c. pass qs) ps cs

  passes_same : (ps : List Point) (cs : List OutlineEdge) → Balanced bs ps → passes ps cs ≡ ps
  unfolding passes pass
  passes_same ps [] even = refl
  passes_same ps (c ∷ cs) even = ap (λ qs. passes qs cs) (pass_same bs bs ps even (λ b n. n)) ∙ passes_same ps cs even

  enough : (ps : List Point) (cs : List OutlineEdge) → Balanced bs (passes ps cs) ⊎ (full ps + length cs ≤ full (passes ps cs))
  unfolding passes
  enough ps [] = inr (omega arith)
  enough ps (c ∷ cs) =
      ⊎_elim (λ even. inl (subst (Balanced bs) (sym (passes_same ps (c ∷ cs) even)) even))
      (λ more. ⊎_elim inl (λ rest. inr (omega arith)) (enough (pass ps) cs)) (balanced_or_more ps)

  balanced : (ps : List Point) → Balanced bs (passes ps bs)
  unfolding full Balanced
  balanced ps = ⊎_elim (λ even. even) filled (enough ps bs)
    where
      filled : count (both_in ps) bs + length bs ≤ count (both_in (passes ps bs)) bs → (e : Edge) → Memᴰ (Closed e) bs → among e.from (passes ps bs) ≡ among e.to (passes ps bs)
      filled h e n = grind (arith, count_all)

-- ---- what marks a point, and is the same at both ends of closed edges, marks all points that passes add
module _ (marks : Point → Bool) where
  abbrev Marked : List Point → Type 0
  Marked ps = (q : Point) → Memᴰ q ps → marks q ≡ true

  marked_noted : (ps : List Point) (p : Point) → Marked ps → marks p ≡ true → Marked (noted ps p)
  unfolding noted
  marked_noted ps p all here = cond_both (among p ps) ps (ps ++ p ∷ []) Marked (λ t. all) (λ f q n. ⊎_elim (all q) (λ m. ap marks (Memᴰ.eq_of_singleton m) ∙ here) (Memᴰ.append_cases ps n))

  marked_joined : (ps : List Point) (b : OutlineEdge) → ((e : Edge) → b ≡ Closed e → marks e.from ≡ marks e.to) → Marked ps → Marked (joined ps b)
  unfolding joined
  marked_joined ps b even all = grind (arith, marked_noted, among_out)

  marked_pass : (bs : List OutlineEdge) (ps : List Point) → ((e : Edge) → Memᴰ (Closed e) bs → marks e.from ≡ marks e.to) → Marked ps → Marked (fold joined ps bs)
  marked_pass [] ps even all = all
  marked_pass (b ∷ bs) ps even all =
      marked_pass bs (joined ps b) (λ e n. even e (Memᴰ.tail n)) (marked_joined ps b (λ e is. even e (Memᴰ.head (sym is))) all)

  marked_passes : (bs cs : List OutlineEdge) (ps : List Point) → ((e : Edge) → Memᴰ (Closed e) bs → marks e.from ≡ marks e.to) → Marked ps → Marked (passes bs ps cs)
  unfolding passes pass
  marked_passes bs [] ps even all = all
  marked_passes bs (c ∷ cs) ps even all = marked_passes bs cs (fold joined ps bs) even (marked_pass bs ps even all)

passes_keep : (bs cs : List OutlineEdge) (ps : List Point) (q : Point) → Memᴰ q ps → Memᴰ q (passes bs ps cs)
unfolding passes pass
passes_keep bs [] ps q n = n
passes_keep bs (c ∷ cs) ps q n = passes_keep bs cs (fold joined ps bs) q (pass_keeps bs ps q n)

group_is : (m : Plate) (p : Point) → group m p ≡ passes m.outline (p ∷ []) m.outline
unfolding group passes pass
group_is m p = refl

group_balanced : (m : Plate) (p : Point) (e : Edge) → Memᴰ (Closed e) m.outline → among e.from (group m p) ≡ among e.to (group m p)
unfolding Balanced
group_balanced m p e n = subst (λ ps. among e.from ps ≡ among e.to ps) (sym (group_is m p)) (balanced m.outline (p ∷ []) e n)

pub groups_joined : GroupsJoined
groups_joined m p q = (into, out)
  where
    into : among q (group m p) ≡ true → Joined m p q
    into t marks even here =
        marked_passes marks m.outline m.outline (p ∷ []) even (λ r n. ap marks (Memᴰ.eq_of_singleton n) ∙ here) q (subst (Memᴰ q) (group_is m p) (among_out q (group m p) t))

    out : Joined m p q → among q (group m p) ≡ true
    out joins = joins (λ r. among r (group m p)) (group_balanced m p)
        (among_in p (group m p) (subst (Memᴰ p) (sym (group_is m p)) (passes_keep m.outline m.outline (p ∷ []) p (Memᴰ.head refl))))

pub groups_kept : GroupsKept
unfolding is_stream keeps
groups_kept m s p d stream = every_in (keeps v) m.outline kept
  where
    v : Values
    v = changed_all s (group m p) d

    kept : (b : OutlineEdge) → Memᴰ b m.outline → keeps v b ≡ true
    kept b n = grind (arith, group_balanced, every_out)

pub groups_alike : GroupsAlike
unfolding is_stream keeps
groups_alike m s p q stream t =
    let marks : Point → Bool = λ r. same (s p) (s r) in
    let even : (e : Edge) → Memᴰ (Closed e) m.outline → marks e.from ≡ marks e.to =
    λ e n. ap (same (s p)) (same_is (s e.from) (s e.to) (every_out (keeps s) m.outline stream (Closed e) n)) in
    sym (same_is (s p) (s q) ((groups_joined m p q).0 t marks even (same_from (s p) (s p) refl)))
