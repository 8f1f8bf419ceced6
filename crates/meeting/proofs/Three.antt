-- The first of the three corners at which something stands. Assumes nothing.
use Rattle.std.proofs.Common.{◌≡◌, Bool, true, false, cond, ◌||◌, [], ◌∷◌, Some, None, Option, MatchOption, find, sym, refl, subst}
use Rattle.std.specs.Option.{option_map}
use Rattle.exact.specs.Lists.{any}
use Rattle.rules.specs.declared.Corner.{Corner}
use Rattle.rules.specs.declared.Corner.TheVariants.{A, B, C}
use Rattle.rules.specs.Edges.{each_corner}

pub itself : (r : Option Corner) → option_map (λ i. i) r ≡ r
itself (Some i) = refl
itself None = refl

-- of a test that decides whether two are the same: whether x is one of three parts, and which
module _ {X : Type 0} (test : X → X → Bool) (is : (x y : X) → test x y ≡ true → x ≡ y) (x : X) (part : Corner → X) where
  told : (a b c : Bool) → test x (part A) ≡ a → test x (part B) ≡ b → test x (part C) ≡ c →
      MatchOption (cond a (Some A) (cond b (Some B) (cond c (Some C) None))) ((a || (b || (c || false))) ≡ false) (λ i. (part i ≡ x) × ((a || (b || (c || false))) ≡ true))
  told true b c p q r = (sym (is x (part A) p), refl)
  told false true c p q r = (sym (is x (part B) q), refl)
  told false false true p q r = (sym (is x (part C) r), refl)
  told false false false p q r = refl

  pub found : (r : Option Corner) → r ≡ find (λ i. test x (part i)) each_corner →
      MatchOption r (any (test x) (part A ∷ part B ∷ part C ∷ []) ≡ false) (λ i. (part i ≡ x) × (any (test x) (part A ∷ part B ∷ part C ∷ []) ≡ true))
  found r e =
      subst (λ o. MatchOption o (any (test x) (part A ∷ part B ∷ part C ∷ []) ≡ false) (λ i. (part i ≡ x) × (any (test x) (part A ∷ part B ∷ part C ∷ []) ≡ true)))
      (sym e) (told (test x (part A)) (test x (part B)) (test x (part C)) refl refl refl)
