-- What a capped number says of the number, alone and where a test has to pass too. Assumes nothing.
use Rattle.std.proofs.Common.{◌≡◌, ℕ, ◌^◌, ◌<◌, ◌≤◌, Bool, true, false, cond, ◌&&◌, ltb, ◌⊎◌, Some, None, refl, inl, inr, arith}
use Rattle.exact.specs.Capped.{capped}

pub capped_some : (n m : ℕ) → capped n ≡ Some m → (m ≡ n) × (n < 2 ^ 62)
capped_some n m e = grind arith

pub capped_none : (n : ℕ) → capped n ≡ None → 2 ^ 62 ≤ n
capped_none n e = grind arith

pub capped_past : (n : ℕ) → 2 ^ 62 ≤ n → capped n ≡ None
capped_past n h = grind arith

-- a number that is given where a test passes and it is below the cap
pub capped_where : (b : Bool) (n : ℕ) → cond b (capped n) None ≡ cond (b && ltb n (2 ^ 62)) (Some n) None
capped_where true n = refl
capped_where false n = refl

pub where_none : (b : Bool) (n : ℕ) → cond b (capped n) None ≡ None → (b ≡ false) ⊎ (2 ^ 62 ≤ n)
where_none true n e = inr (capped_none n e)
where_none false n e = inl refl

pub where_some : (b : Bool) (n m : ℕ) → cond b (capped n) None ≡ Some m → (b ≡ true) × (m ≡ n) × (n < 2 ^ 62)
where_some true n m e = let known = capped_some n m e in (refl, known.0, known.1)
where_some false n m e = let z : ◌≡◌ {A = ℕ} 0 1 = cc in absurd (omega arith)
