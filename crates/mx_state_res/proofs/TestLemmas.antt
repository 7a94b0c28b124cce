-- Tests of truth values and of numbers.
use Rattle.std.proofs.Common.{◌≡◌, ℕ, ◌==◌, ◌≤◌, ◌<◌, nat_le, nat_lt, Bool, true, false, not, ◌&&◌, ◌||◌, ◌⊎◌, inl, inr, refl, sym, arith}
use Rattle.std.proofs.lemmas.Bool.Decides.{nat_tests}

-- ---- truth values

pub and-first : (a b : Bool) → (a && b) ≡ true → a ≡ true
and-first true b e = refl
and-first false b e = absurd (cc e)

pub and-second : (a b : Bool) → (a && b) ≡ true → b ≡ true
and-second true b e = e
and-second false b e = absurd (cc e)

pub and-make : (a b : Bool) → a ≡ true → b ≡ true → (a && b) ≡ true
and-make true b e f = f
and-make false b e f = absurd (cc e)

pub and-cases : (a b : Bool) → (a && b) ≡ false → (a ≡ false) ⊎ (b ≡ false)
and-cases true b e = inr e
and-cases false b e = inl refl

pub and-true : (a b : Bool) → b ≡ true → (a && b) ≡ a
and-true true b e = e
and-true false b e = refl

pub and-false : (a b : Bool) → b ≡ false → (a && b) ≡ false
and-false true b e = e
and-false false b e = refl

pub or-false : (a b : Bool) → b ≡ false → (a || b) ≡ a
or-false true b e = refl
or-false false b e = e

pub or-turned : (a b : Bool) → (a || b) ≡ (b || a)
or-turned true true = refl
or-turned true false = refl
or-turned false true = refl
or-turned false false = refl

pub not-true : (b : Bool) → not b ≡ true → b ≡ false
not-true true e = absurd (cc e)
not-true false e = refl

pub not-false : (b : Bool) → not b ≡ false → b ≡ true
not-false true e = refl
not-false false e = absurd (cc e)

pub one-answer : (a b : Bool) → (a ≡ true → b ≡ true) → (b ≡ true → a ≡ true) → a ≡ b
one-answer true b f g = sym (f refl)
one-answer false true f g = g refl
one-answer false false f g = refl

-- ---- numbers

pub lt-from : (a b : ℕ) → nat_lt a b ≡ true → a < b
lt-from a b e = grind (arith, nat_tests)

pub lt-to : (a b : ℕ) → a < b → nat_lt a b ≡ true
lt-to a b l = grind (arith, nat_tests)

pub le-from : (a b : ℕ) → nat_le a b ≡ true → a ≤ b
le-from a b e = grind (arith, nat_tests)

pub le-to : (a b : ℕ) → a ≤ b → nat_le a b ≡ true
le-to a b l = grind (arith, nat_tests)

pub order : (a b : ℕ) → (a ≤ b) ⊎ (b < a)
order a b = by (nat_le a b) refl
  where
    by : (c : Bool) → nat_le a b ≡ c → (a ≤ b) ⊎ (b < a)
    by true e = inl (le-from a b e)
    by false e = inr (grind (arith, nat_tests))

pub unequal : (t p : ℕ) → p < t → (t == p) ≡ false
unequal t p l = grind (arith, nat_tests)
