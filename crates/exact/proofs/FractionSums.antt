-- Laws of finite sums of fractions. Assumes nothing.
use Rattle.std.proofs.Common.{◌≡◌, ◌<◌, List, [], ◌∷◌, ◌++◌, ℤ, pos, sym, refl, ap, ◌∙◌, subst, arith}
use mathlib.Core.List.{flat_map, Memᴰ}
use lib.IntN.{*ℤ-zero}
use Rattle.exact.specs.Fractions.{Fraction, whole, ◌+F◌, scaled, sum_f, ◌≤F◌, ◌≈F◌}
use Rattle.exact.specs.Lists.{sum_z}
use Rattle.exact.proofs.Fractions.{+F_den, ≤F_refl, ≤F_+, +F_comm, +F_assoc, +F_idl, whole_+F, scaled_+F}

-- two sums added term by term
exchange : (p q r s : Fraction) → (p +F q) +F (r +F s) ≡ (p +F r) +F (q +F s)
exchange p q r s =
    +F_assoc p q (r +F s) ∙ ap (λ t. p +F t) (sym (+F_assoc q r s) ∙ ap (λ t. t +F s) (+F_comm q r) ∙ +F_assoc r q s) ∙ sym (+F_assoc p r (q +F s))

module _ {A : Type 0} where
  pub sum_f_den : (f : A → Fraction) (xs : List A) → ((x : A) → Memᴰ x xs → 0 < (f x).den) → 0 < (sum_f f xs).den
  sum_f_den f [] h = omega arith
  sum_f_den f (x ∷ xs) h = +F_den (f x) (sum_f f xs) (h x (Memᴰ.head refl)) (sum_f_den f xs (λ y m. h y (Memᴰ.tail m)))

  pub sum_f_++ : (f : A → Fraction) (xs ys : List A) → sum_f f (xs ++ ys) ≡ sum_f f xs +F sum_f f ys
  sum_f_++ f [] ys = sym (+F_idl (sum_f f ys))
  sum_f_++ f (x ∷ xs) ys = ap (λ p. f x +F p) (sum_f_++ f xs ys) ∙ sym (+F_assoc (f x) (sum_f f xs) (sum_f f ys))

  pub sum_f_+F : (f g : A → Fraction) (xs : List A) → sum_f (λ x. f x +F g x) xs ≡ sum_f f xs +F sum_f g xs
  sum_f_+F f g [] = sym (+F_idl (whole (pos 0)))
  sum_f_+F f g (x ∷ xs) = ap (λ p. (f x +F g x) +F p) (sum_f_+F f g xs) ∙ exchange (f x) (g x) (sum_f f xs) (sum_f g xs)

  pub sum_f_scaled : (z : ℤ) (f : A → Fraction) (xs : List A) → sum_f (λ x. scaled z (f x)) xs ≡ scaled z (sum_f f xs)
  sum_f_scaled z f [] = ap whole (sym (*ℤ-zero z))
  sum_f_scaled z f (x ∷ xs) = ap (λ p. scaled z (f x) +F p) (sum_f_scaled z f xs) ∙ sym (scaled_+F z (f x) (sum_f f xs))

  pub sum_f_whole : (f : A → ℤ) (xs : List A) → sum_f (λ x. whole (f x)) xs ≡ whole (sum_z f xs)
  sum_f_whole f [] = refl
  sum_f_whole f (x ∷ xs) = ap (λ p. whole (f x) +F p) (sum_f_whole f xs) ∙ whole_+F (f x) (sum_z f xs)

  -- two sums are in order, or the same number, where their terms are
  pub sum_f_≤F : (f g : A → Fraction) (xs : List A) → ((x : A) → Memᴰ x xs → f x ≤F g x) → sum_f f xs ≤F sum_f g xs
  sum_f_≤F f g [] h = ≤F_refl (whole (pos 0))
  sum_f_≤F f g (x ∷ xs) h =
      ≤F_+ (f x) (g x) (sum_f f xs) (sum_f g xs) (h x (Memᴰ.head refl)) (sum_f_≤F f g xs (λ y m. h y (Memᴰ.tail m)))

  pub sum_f_≈F : (f g : A → Fraction) (xs : List A) → ((x : A) → Memᴰ x xs → f x ≈F g x) → sum_f f xs ≈F sum_f g xs
  sum_f_≈F f g xs h = (sum_f_≤F f g xs (λ x m. (h x m).0), sum_f_≤F g f xs (λ x m. (h x m).1))

module _ {A B : Type 0} where
  pub sum_f_flat_map : (f : B → Fraction) (g : A → List B) (xs : List A) → sum_f f (flat_map g xs) ≡ sum_f (λ x. sum_f f (g x)) xs
  unfolding flat_map
  sum_f_flat_map f g [] = refl
  sum_f_flat_map f g (x ∷ xs) = sum_f_++ f (g x) (flat_map g xs) ∙ ap (λ p. sum_f f (g x) +F p) (sum_f_flat_map f g xs)

  -- a sum over parts, where the sum over each one's parts is z times as much
  pub sum_f_parts : (z : ℤ) (f : B → Fraction) (g : A → List B) (h : A → Fraction) (xs : List A) → ((x : A) → Memᴰ x xs → sum_f f (g x) ≈F scaled z (h x)) →
      sum_f f (flat_map g xs) ≈F scaled z (sum_f h xs)
  sum_f_parts z f g h xs each =
      subst (λ p. p ≈F scaled z (sum_f h xs)) (sym (sum_f_flat_map f g xs))
      (subst (λ p. sum_f (λ x. sum_f f (g x)) xs ≈F p) (sum_f_scaled z h xs) (sum_f_≈F (λ x. sum_f f (g x)) (λ x. scaled z (h x)) xs each))
