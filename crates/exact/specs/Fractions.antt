-- Fractions, as a numerator and a denominator, never reduced. They are meant for denominators above 0, which the type does not
-- say: the laws ask for it where they need it. Assumes nothing.
use Rattle.std.specs.Prelude.{ℕ, ◌*◌, List, [], ◌∷◌, ℤ, pos, ◌+ℤ◌, ◌*ℤ◌, neg_ℤ, ◌≤ℤ◌}

pub record Fraction : Type 0 where
  pub num : ℤ
  pub den : ℕ

abbrev pub ratio : ℕ → ℕ → Fraction
ratio n d = record { num = pos n; den = d }

abbrev pub whole : ℤ → Fraction
whole z = record { num = z; den = 1 }

infixl 60 ◌+F◌ ◌-F◌
abbrev pub ◌+F◌ : Fraction → Fraction → Fraction
p +F q = record { num = (p.num *ℤ pos q.den) +ℤ (q.num *ℤ pos p.den); den = p.den * q.den }

abbrev pub neg_f : Fraction → Fraction
neg_f p = record { num = neg_ℤ p.num; den = p.den }

abbrev pub ◌-F◌ : Fraction → Fraction → Fraction
p -F q = p +F neg_f q

-- a whole number times a fraction
abbrev pub scaled : ℤ → Fraction → Fraction
scaled z p = record { num = z *ℤ p.num; den = p.den }

-- a sum over a list
abbrev pub sum_f : {A : Type 0} → (A → Fraction) → List A → Fraction
sum_f f [] = whole (pos 0)
sum_f f (x ∷ xs) = f x +F sum_f f xs

infix 50 ◌≤F◌ ◌≈F◌
abbrev pub ◌≤F◌ : Fraction → Fraction → Type 0
p ≤F q = (p.num *ℤ pos q.den) ≤ℤ (q.num *ℤ pos p.den)

-- the same number, perhaps over another denominator
abbrev pub ◌≈F◌ : Fraction → Fraction → Type 0
p ≈F q = (p ≤F q) × (q ≤F p)
