-- Laws of finite sums of integers: how a sum is split, moved through and compared. Assumes nothing.
use Rattle.std.proofs.Common.{◌≡◌, ℕ, suc, Bool, true, false, cond, List, [], ◌∷◌, ◌++◌, map, ℤ, pos, ◌+ℤ◌, ◌*ℤ◌, ◌≤ℤ◌, neg_ℤ, sum_by, sym, refl, ap, ◌∙◌, arith}
use mathlib.Core.List.{flat_map, Memᴰ}
use borrow.Author.Differences.{ints}
use lib.IntN.{+ℤ_assoc, +ℤ_idl, *ℤ-zero, neg_ℤ-+ℤ}
use Rattle.std.proofs.lemmas.List.Sums.{sum_by-cons}
use Rattle.exact.specs.Lists.{sum_z, count}
use Rattle.exact.proofs.Integers.{*ℤ_distrib}

module _ {A : Type 0} where
  pub sum_z_++ : (f : A → ℤ) (xs ys : List A) → sum_z f (xs ++ ys) ≡ sum_z f xs +ℤ sum_z f ys
  sum_z_++ f [] ys = sym (+ℤ_idl (sum_z f ys))
  sum_z_++ f (x ∷ xs) ys = ap (λ n. f x +ℤ n) (sum_z_++ f xs ys) ∙ sym (+ℤ_assoc (f x) (sum_z f xs) (sum_z f ys))

  pub sum_z_+ℤ : (f g : A → ℤ) (xs : List A) → sum_z (λ x. f x +ℤ g x) xs ≡ sum_z f xs +ℤ sum_z g xs
  sum_z_+ℤ f g [] = refl
  sum_z_+ℤ f g (x ∷ xs) = omega (arith, ints, sum_z_+ℤ f g xs)

  pub sum_z_*ℤ : (c : ℤ) (f : A → ℤ) (xs : List A) → sum_z (λ x. c *ℤ f x) xs ≡ c *ℤ sum_z f xs
  sum_z_*ℤ c f [] = sym (*ℤ-zero c)
  sum_z_*ℤ c f (x ∷ xs) = ap (λ n. (c *ℤ f x) +ℤ n) (sum_z_*ℤ c f xs) ∙ sym (*ℤ_distrib c (f x) (sum_z f xs))

  pub sum_z_neg_ℤ : (f : A → ℤ) (xs : List A) → sum_z (λ x. neg_ℤ (f x)) xs ≡ neg_ℤ (sum_z f xs)
  sum_z_neg_ℤ f [] = refl
  sum_z_neg_ℤ f (x ∷ xs) = ap (λ n. neg_ℤ (f x) +ℤ n) (sum_z_neg_ℤ f xs) ∙ sym (neg_ℤ-+ℤ (f x) (sum_z f xs))

  pub sum_z_zero : (xs : List A) → sum_z (λ x. pos 0) xs ≡ pos 0
  sum_z_zero [] = refl
  sum_z_zero (x ∷ xs) = ap (λ n. pos 0 +ℤ n) (sum_z_zero xs)

  -- two sums are equal where their terms are
  pub sum_z_cong_mem : {f g : A → ℤ} (xs : List A) → ((x : A) → Memᴰ x xs → f x ≡ g x) → sum_z f xs ≡ sum_z g xs
  sum_z_cong_mem [] h = refl
  sum_z_cong_mem (x ∷ xs) h =
      let here = h x (Memᴰ.head refl) in
      let rest = sum_z_cong_mem xs (λ y m. h y (Memᴰ.tail m)) in
      cc

  pub sum_z_cong : {f g : A → ℤ} (xs : List A) → ((x : A) → f x ≡ g x) → sum_z f xs ≡ sum_z g xs
  sum_z_cong xs h = sum_z_cong_mem xs (λ x m. h x)

  pub sum_z_≤ℤ : {f g : A → ℤ} (xs : List A) → ((x : A) → Memᴰ x xs → f x ≤ℤ g x) → sum_z f xs ≤ℤ sum_z g xs
  sum_z_≤ℤ [] h = omega (arith, ints)
  sum_z_≤ℤ (x ∷ xs) h =
      let here = h x (Memᴰ.head refl) in
      let rest = sum_z_≤ℤ xs (λ y m. h y (Memᴰ.tail m)) in
      omega (arith, ints)

  -- a sum of the terms that pass a test
  pub sum_z_cond_true : (p : A → Bool) (f : A → ℤ) (xs : List A) → ((x : A) → Memᴰ x xs → p x ≡ true) → sum_z (λ x. cond (p x) (f x) (pos 0)) xs ≡ sum_z f xs
  sum_z_cond_true p f xs h = sum_z_cong_mem xs (λ x m. ap (λ b. cond b (f x) (pos 0)) (h x m))

  pub sum_z_cond_false : (p : A → Bool) (f : A → ℤ) (xs : List A) → ((x : A) → Memᴰ x xs → p x ≡ false) → sum_z (λ x. cond (p x) (f x) (pos 0)) xs ≡ pos 0
  sum_z_cond_false p f xs h = sum_z_cong_mem xs (λ x m. ap (λ b. cond b (f x) (pos 0)) (h x m)) ∙ sum_z_zero xs

  pub sum_z_split : (p : A → Bool) (f : A → ℤ) (xs : List A) → sum_z f xs ≡ sum_z (λ x. cond (p x) (f x) (pos 0)) xs +ℤ sum_z (λ x. cond (p x) (pos 0) (f x)) xs
  sum_z_split p f xs = sum_z_cong xs (λ x. split (p x) (f x)) ∙ sum_z_+ℤ (λ x. cond (p x) (f x) (pos 0)) (λ x. cond (p x) (pos 0) (f x)) xs
    where
      split : (b : Bool) (n : ℤ) → n ≡ cond b n (pos 0) +ℤ cond b (pos 0) n
      split b n = grind arith

  -- one number for each element that passes a test
  pub sum_z_cond_const : (p : A → Bool) (c : ℤ) (xs : List A) → sum_z (λ x. cond (p x) c (pos 0)) xs ≡ pos (count p xs) *ℤ c
  sum_z_cond_const p c [] = omega (arith, ints)
  sum_z_cond_const p c (x ∷ xs) = ap (λ n. cond (p x) c (pos 0) +ℤ n) (sum_z_cond_const p c xs) ∙ one_more (p x) (count p xs)
    where
      one_more : (b : Bool) (n : ℕ) → cond b c (pos 0) +ℤ (pos n *ℤ c) ≡ pos (cond b (suc n) n) *ℤ c
      one_more b n = grind arith

module _ {A B : Type 0} where
  pub sum_z_swap : (f : A → B → ℤ) (xs : List A) (ys : List B) → sum_z (λ x. sum_z (λ y. f x y) ys) xs ≡ sum_z (λ y. sum_z (λ x. f x y) xs) ys
  sum_z_swap f [] ys = sym (sum_z_zero ys)
  sum_z_swap f (x ∷ xs) ys =
      ap (λ n. sum_z (f x) ys +ℤ n) (sum_z_swap f xs ys) ∙ sym (sum_z_+ℤ (f x) (λ y. sum_z (λ x. f x y) xs) ys)

  pub sum_z_map : (f : B → ℤ) (g : A → B) (xs : List A) → sum_z f (map g xs) ≡ sum_z (λ x. f (g x)) xs
  sum_z_map f g [] = refl
  sum_z_map f g (x ∷ xs) = ap (λ n. f (g x) +ℤ n) (sum_z_map f g xs)

  pub sum_z_flat_map : (f : B → ℤ) (g : A → List B) (xs : List A) → sum_z f (flat_map g xs) ≡ sum_z (λ x. sum_z f (g x)) xs
  unfolding flat_map
  sum_z_flat_map f g [] = refl
  sum_z_flat_map f g (x ∷ xs) = sum_z_++ f (g x) (flat_map g xs) ∙ ap (λ n. sum_z f (g x) +ℤ n) (sum_z_flat_map f g xs)

-- a sum over parts, where the sum over each one's parts is c times as much
pub sum_z_parts : {A B : Type 0} (c : ℤ) (f : B → ℤ) (g : A → List B) (h : A → ℤ) (xs : List A) → ((x : A) → Memᴰ x xs → sum_z f (g x) ≡ c *ℤ h x) →
    sum_z f (flat_map g xs) ≡ c *ℤ sum_z h xs
sum_z_parts c f g h xs each = sum_z_flat_map f g xs ∙ sum_z_cong_mem xs each ∙ sum_z_*ℤ c h xs

-- a sum of naturals
pub sum_by_is : {A : Type 0} (f : A → ℕ) (xs : List A) → pos (sum_by f xs) ≡ sum_z (λ x. pos (f x)) xs
sum_by_is f [] = refl
sum_by_is f (x ∷ xs) = ap pos (sum_by-cons f x xs) ∙ ap (λ n. pos (f x) +ℤ n) (sum_by_is f xs)

-- a double sum whose terms change their sign where the two are exchanged is its own negative
pub sum_z_cancels : {A : Type 0} (f : A → A → ℤ) → ((x y : A) → f x y ≡ neg_ℤ (f y x)) → (xs : List A) → sum_z (λ x. sum_z (λ y. f x y) xs) xs ≡ pos 0
sum_z_cancels f turns xs =
    let negative : sum_z (λ x. sum_z (λ y. f x y) xs) xs ≡ neg_ℤ (sum_z (λ x. sum_z (λ y. f x y) xs) xs) =
    sum_z_cong xs (λ x. sum_z_cong xs (turns x) ∙ sum_z_neg_ℤ (λ y. f y x) xs) ∙ sum_z_neg_ℤ (λ x. sum_z (λ y. f y x) xs) xs
    ∙ ap neg_ℤ (sum_z_swap (λ x y. f y x) xs xs) in
    omega (arith, ints)
