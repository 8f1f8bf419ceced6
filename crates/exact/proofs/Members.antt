-- Tests and counts over lists, by the members of the list. Assumes nothing.
use Rattle.std.proofs.Common.{◌≡◌, ℕ, suc, ◌+◌, ◌<◌, ◌≤◌, Bool, true, false, cond, List, [], ◌∷◌, ◌++◌, map, length, ◌⊎◌, inl, inr, sym, refl, ap, ◌∙◌, subst, ⊎_elim, append_assoc, arith}
use mathlib.Core.List.Memᴰ
use mathlib.Core.List.{flat_map, Memᴰ}
use Rattle.std.proofs.lemmas.Bool.{and_parts, and_from, or_cases, or_left, or_right, cases_Bool, true≢false}
use Rattle.exact.specs.Lists.{count, every, any}

-- 1 for a test that passes
abbrev pub one : Bool → ℕ
one b = cond b 1 0

-- how many elements pass, as a sum
abbrev pub ones : {A : Type 0} → (A → Bool) → List A → ℕ
ones p [] = 0
ones p (x ∷ xs) = one (p x) + ones p xs

one_at_most : (b c : Bool) → (b ≡ true → c ≡ true) → one b ≤ one c
one_at_most b c h = grind arith

module _ {A : Type 0} where
  -- ---- all pass a test
  pub every_out : (p : A → Bool) (xs : List A) → every p xs ≡ true → (x : A) → Memᴰ x xs → p x ≡ true
  every_out p [] h x m = elim m [ ]
  every_out p (y ∷ ys) h x (Memᴰ.head e) = ap p e ∙ (and_parts (p y) (every p ys) h).0
  every_out p (y ∷ ys) h x (Memᴰ.tail m) = every_out p ys (and_parts (p y) (every p ys) h).1 x m

  pub every_in : (p : A → Bool) (xs : List A) → ((x : A) → Memᴰ x xs → p x ≡ true) → every p xs ≡ true
  every_in p [] h = refl
  every_in p (x ∷ xs) h = and_from (p x) (every p xs) (h x (Memᴰ.head refl)) (every_in p xs (λ y m. h y (Memᴰ.tail m)))

  -- or some element fails
  pub every_or : (p : A → Bool) (xs : List A) → (every p xs ≡ true) ⊎ ((x : A) × Memᴰ x xs × (p x ≡ false))
  every_or p [] = inl refl
  every_or p (x ∷ xs) =
      ⊎_elim (λ t. ⊎_elim (λ rest. inl (and_from (p x) (every p xs) t rest)) (λ found. inr (found.0, Memᴰ.tail found.1, found.2)) (every_or p xs))
      (λ f. inr (x, Memᴰ.head refl, f)) (cases_Bool (p x))

  -- ---- some pass it
  pub any_out : (p : A → Bool) (xs : List A) → any p xs ≡ true → (x : A) × Memᴰ x xs × (p x ≡ true)
  any_out p [] h = absurd (true≢false (sym h))
  any_out p (x ∷ xs) h =
      ⊎_elim (λ e. (x, Memᴰ.head refl, e)) (λ e. let rest = any_out p xs e in (rest.0, Memᴰ.tail rest.1, rest.2)) (or_cases (p x) (any p xs) h)

  pub any_in : (p : A → Bool) (xs : List A) (x : A) → Memᴰ x xs → p x ≡ true → any p xs ≡ true
  any_in p [] x m h = elim m [ ]
  any_in p (y ∷ ys) x (Memᴰ.head e) h = or_left (p y) (any p ys) (ap p (sym e) ∙ h)
  any_in p (y ∷ ys) x (Memᴰ.tail m) h = or_right (p y) (any p ys) (any_in p ys x m h)

  -- ---- how many do
  pub count_cons : (p : A → Bool) (x : A) (xs : List A) → count p (x ∷ xs) ≡ one (p x) + count p xs
  count_cons p x xs = grind arith

  pub count_ones : (p : A → Bool) (xs : List A) → count p xs ≡ ones p xs
  count_ones p [] = refl
  count_ones p (x ∷ xs) = count_cons p x xs ∙ ap (λ n. one (p x) + n) (count_ones p xs)

  pub count_++ : (p : A → Bool) (xs ys : List A) → count p (xs ++ ys) ≡ count p xs + count p ys
  count_++ p [] ys = omega arith
  count_++ p (x ∷ xs) ys =
      let rest = count_++ p xs ys in
      let here = count_cons p x xs in
      let there = count_cons p x (xs ++ ys) in
      omega arith

  pub count_cong : (p q : A → Bool) (xs : List A) → ((x : A) → Memᴰ x xs → p x ≡ q x) → count p xs ≡ count q xs
  count_cong p q [] h = refl
  count_cong p q (x ∷ xs) h =
      let here = h x (Memᴰ.head refl) in
      let rest = count_cong p q xs (λ y m. h y (Memᴰ.tail m)) in
      cc

  -- where more pass
  pub count_more : (p q : A → Bool) (xs : List A) → ((x : A) → Memᴰ x xs → p x ≡ true → q x ≡ true) → count p xs ≤ count q xs
  count_more p q [] h = omega arith
  count_more p q (x ∷ xs) h =
      let rest = count_more p q xs (λ y m. h y (Memᴰ.tail m)) in
      let left = count_cons p x xs in
      let right = count_cons q x xs in
      let here = one_at_most (p x) (q x) (h x (Memᴰ.head refl)) in
      omega arith

  pub count_one_more : (p q : A → Bool) (xs : List A) → ((x : A) → Memᴰ x xs → p x ≡ true → q x ≡ true) → (x : A) → Memᴰ x xs → p x ≡ false → q x ≡ true → count p xs < count q xs
  count_one_more p q [] h x m fails passes = elim m [ ]
  count_one_more p q (y ∷ ys) h x (Memᴰ.head e) fails passes =
      let rest = count_more p q ys (λ z m. h z (Memᴰ.tail m)) in
      let left = count_cons p y ys in
      let right = count_cons q y ys in
      let none = ap one (ap p (sym e) ∙ fails) in
      let some = ap one (ap q (sym e) ∙ passes) in
      omega arith
  count_one_more p q (y ∷ ys) h x (Memᴰ.tail m) fails passes =
      let rest = count_one_more p q ys (λ z n. h z (Memᴰ.tail n)) x m fails passes in
      let left = count_cons p y ys in
      let right = count_cons q y ys in
      let here = one_at_most (p y) (q y) (h y (Memᴰ.head refl)) in
      omega arith

  pub count_all : (p : A → Bool) (xs : List A) → length xs ≤ count p xs → (x : A) → Memᴰ x xs → p x ≡ true
  count_all p xs h x m = ⊎_elim (λ t. t) (λ f. absurd (too_few (count_one_more p (λ y. true) xs (λ y n t. refl) x m f refl) (count_true xs))) (cases_Bool (p x))
    where
      too_few : count p xs < count (λ y. true) xs → count (λ y. true) xs ≡ length xs → ⊥
      too_few less all = omega arith

      count_true : (ys : List A) → count (λ y. true) ys ≡ length ys
      count_true [] = refl
      count_true (y ∷ ys) = ap suc (count_true ys)

  pub count_none : (p : A → Bool) (xs : List A) → ((x : A) → Memᴰ x xs → p x ≡ false) → count p xs ≡ 0
  count_none p [] h = refl
  count_none p (x ∷ xs) h =
      let here = h x (Memᴰ.head refl) in
      let rest = count_none p xs (λ y m. h y (Memᴰ.tail m)) in
      cc

  pub count_some : (p : A → Bool) (xs : List A) (x : A) → Memᴰ x xs → p x ≡ true → 0 < count p xs
  count_some p [] x m h = elim m [ ]
  count_some p (y ∷ ys) x (Memᴰ.head e) h =
      let first : p y ≡ true = ap p (sym e) ∙ h in
      let is = ap one first in
      let split = count_cons p y ys in
      omega arith
  count_some p (y ∷ ys) x (Memᴰ.tail m) h =
      let rest = count_some p ys x m h in
      let split = count_cons p y ys in
      omega arith

  pub count_one : (p : A → Bool) (xs : List A) → 0 < count p xs → (x : A) × Memᴰ x xs × (p x ≡ true)
  count_one p [] h = absurd (omega arith)
  count_one p (x ∷ xs) h =
      ⊎_elim (λ e. (x, Memᴰ.head refl, e)) (λ e. let rest = count_one p xs (subst (λ b. 0 < cond b (suc (count p xs)) (count p xs)) e h) in (rest.0, Memᴰ.tail rest.1, rest.2)) (cases_Bool (p x))

module _ {A B : Type 0} where
  pub member_flat_map : (f : A → List B) (xs : List A) (x : A) (y : B) → Memᴰ x xs → Memᴰ y (f x) → Memᴰ y (flat_map f xs)
  unfolding flat_map
  member_flat_map f [] x y m n = elim m [ ]
  member_flat_map f (z ∷ zs) x y (Memᴰ.head e) n = Memᴰ.append_left (flat_map f zs) (subst (λ w. Memᴰ y (f w)) e n)
  member_flat_map f (z ∷ zs) x y (Memᴰ.tail m) n = Memᴰ.append_right (f z) (member_flat_map f zs x y m n)

  pub flat_map_member : (f : A → List B) (xs : List A) (y : B) → Memᴰ y (flat_map f xs) → (x : A) × Memᴰ x xs × Memᴰ y (f x)
  unfolding flat_map
  flat_map_member f [] y m = elim m [ ]
  flat_map_member f (x ∷ xs) y m =
      ⊎_elim (λ n. (x, Memᴰ.head refl, n)) (λ n. let rest = flat_map_member f xs y n in (rest.0, Memᴰ.tail rest.1, rest.2)) (Memᴰ.append_cases (f x) m)

  pub every_flat_map : (p : B → Bool) (f : A → List B) (xs : List A) → ((x : A) → Memᴰ x xs → every p (f x) ≡ true) → every p (flat_map f xs) ≡ true
  every_flat_map p f xs h = grind (arith, every_in, flat_map_member, every_out)

  pub count_each : (p : B → Bool) (q : A → Bool) (f : A → List B) (xs : List A) → ((x : A) → Memᴰ x xs → count p (f x) ≡ one (q x)) → count p (flat_map f xs) ≡ count q xs
  unfolding flat_map
  count_each p q f [] h = refl
  count_each p q f (x ∷ xs) h =
      let here = h x (Memᴰ.head refl) in
      let rest = count_each p q f xs (λ y m. h y (Memᴰ.tail m)) in
      let left = count_++ p (f x) (flat_map f xs) in
      let right = count_cons q x xs in
      omega arith

  pub count_map : (p : B → Bool) (f : A → B) (xs : List A) → count p (map f xs) ≡ count (λ x. p (f x)) xs
  count_map p f [] = refl
  count_map p f (x ∷ xs) = ap (λ n. cond (p (f x)) (suc n) n) (count_map p f xs)

  count_part : (p : B → Bool) (f : A → List B) (xs : List A) (x : A) → Memᴰ x xs → count p (f x) ≤ count p (flat_map f xs)
  unfolding flat_map
  count_part p f [] x m = elim m [ ]
  count_part p f (y ∷ ys) x (Memᴰ.head e) = let split = count_++ p (f y) (flat_map f ys) in let here = ap (λ w. count p (f w)) e in omega arith
  count_part p f (y ∷ ys) x (Memᴰ.tail m) = let split = count_++ p (f y) (flat_map f ys) in let rest = count_part p f ys x m in omega arith

  twice_counted : (p : B → Bool) (f : A → List B) (z : A) (zs : List A) → count p (f z ++ flat_map f zs) ≡ 1 → (x y : A) → x ≡ z → Memᴰ y zs → 0 < count p (f x) → 0 < count p (f y) → ⊥
  twice_counted p f z zs h x y e n hx hy = grind (arith, count_++, count_part)

  -- where just one element of all the parts passes, it is in one part
  pub only_one : (p : B → Bool) (f : A → List B) (xs : List A) → count p (flat_map f xs) ≡ 1 → (x y : A) → Memᴰ x xs → Memᴰ y xs → 0 < count p (f x) → 0 < count p (f y) → x ≡ y
  unfolding flat_map
  only_one p f [] h x y m n hx hy = elim m [ ]
  only_one p f (z ∷ zs) h x y (Memᴰ.head e) (Memᴰ.head e') hx hy = e ∙ sym e'
  only_one p f (z ∷ zs) h x y (Memᴰ.head e) (Memᴰ.tail n) hx hy = absurd (twice_counted p f z zs h x y e n hx hy)
  only_one p f (z ∷ zs) h x y (Memᴰ.tail m) (Memᴰ.head e) hx hy = absurd (twice_counted p f z zs h y x e m hy hx)
  only_one p f (z ∷ zs) h x y (Memᴰ.tail m) (Memᴰ.tail n) hx hy =
      let split = count_++ p (f z) (flat_map f zs) in
      let rest = count_part p f zs x m in
      only_one p f zs (omega arith) x y m n hx hy

module _ {A B C : Type 0} where
  pub flat_map_flat_map : (f : A → List B) (g : B → List C) (xs : List A) → flat_map g (flat_map f xs) ≡ flat_map (λ x. flat_map g (f x)) xs
  unfolding flat_map
  flat_map_flat_map f g [] = refl
  flat_map_flat_map f g (x ∷ xs) = flat_map_++ (f x) (flat_map f xs) ∙ ap (λ zs. flat_map g (f x) ++ zs) (flat_map_flat_map f g xs)
    where
      flat_map_++ : (ys zs : List B) → flat_map g (ys ++ zs) ≡ flat_map g ys ++ flat_map g zs
      flat_map_++ [] zs = refl
      flat_map_++ (y ∷ ys) zs = ap (λ ws. g y ++ ws) (flat_map_++ ys zs) ∙ sym (append_assoc (g y) (flat_map g ys) (flat_map g zs))

  -- two counts are equal where they are over the parts
  pub count_flat_map : (p : B → Bool) (q : C → Bool) (f : A → List B) (g : A → List C) (xs : List A) → ((x : A) → Memᴰ x xs → count p (f x) ≡ count q (g x)) →
      count p (flat_map f xs) ≡ count q (flat_map g xs)
  unfolding flat_map
  count_flat_map p q f g [] h = refl
  count_flat_map p q f g (x ∷ xs) h =
      let here = h x (Memᴰ.head refl) in
      let rest = count_flat_map p q f g xs (λ y m. h y (Memᴰ.tail m)) in
      let left = count_++ p (f x) (flat_map f xs) in
      let right = count_++ q (g x) (flat_map g xs) in
      omega arith
