-- What is read of each element of a list. Assumes nothing.
use Rattle.std.proofs.Common.{◌≡◌, ℕ, Bool, ◌||◌, List, [], ◌∷◌, map, get_or, sym, refl, ap, ◌∙◌}
use Rattle.std.proofs.Math.ListN.{get_or-map}
use Rattle.std.proofs.lemmas.List.Folds.{list_all-map}
use Rattle.exact.specs.Lists.{every, any}

-- ---- an element of a list that f turns into ys
pub get_or_through : {A B : Type 0} (f : A → B) (xs : List A) {ys : List B} → map f xs ≡ ys → (i : ℕ) (d : A) → f (get_or xs i d) ≡ get_or ys i (f d)
get_or_through f xs e i d = sym (get_or-map f xs i d) ∙ ap (λ l. get_or l i (f d)) e

-- all elements pass a test of what f gives of them, or any does
pub every_through : {A B : Type 0} (p : B → Bool) (f : A → B) (xs : List A) {ys : List B} → map f xs ≡ ys → every (λ x. p (f x)) xs ≡ every p ys
every_through p f xs e = sym (list_all-map p f xs) ∙ ap (every p) e

pub any_map : {A B : Type 0} (p : B → Bool) (f : A → B) (xs : List A) → any (λ x. p (f x)) xs ≡ any p (map f xs)
any_map p f [] = refl
any_map p f (x ∷ xs) = ap (λ b. p (f x) || b) (any_map p f xs)
