-- Over a list: a sum of integers, how many elements pass a test, whether all or any do, and a listing's elements from an index on. Assumes
-- nothing.
use Rattle.std.specs.Prelude.{ℕ, suc, ◌-◌, Bool, cond, List, [], ◌∷◌, map, ℤ, pos, ◌+ℤ◌}
use Rattle.std.specs.List.{list_all, list_any, range_with_len}

abbrev pub sum_z : {A : Type 0} → (A → ℤ) → List A → ℤ
sum_z f [] = pos 0
sum_z f (x ∷ xs) = f x +ℤ sum_z f xs

abbrev pub count : {A : Type 0} → (A → Bool) → List A → ℕ
count p [] = 0
count p (x ∷ xs) = cond (p x) (suc (count p xs)) (count p xs)

abbrev pub every : {A : Type 0} → (A → Bool) → List A → Bool
every = list_all

abbrev pub any : {A : Type 0} → (A → Bool) → List A → Bool
any = list_any

-- of the n elements that f lists, those from index i on
abbrev pub listed_from : {A : Type 0} → (ℕ → A) → ℕ → ℕ → List A
listed_from f n i = map f (range_with_len i (n - i))
