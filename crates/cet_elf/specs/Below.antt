-- What the numbers below n give, in ascending order: how the entries of a table are gone through.
use Rattle.std.specs.Prelude.{ℕ, zero, suc, ◌+◌, Bool, if◌then◌else◌, List, [], ◌++◌, Option, Some, None}

-- the lists f 0, f 1, .. up to f (n - 1), joined
abbrev pub each_below : {X : Type 0} → ℕ → (ℕ → List X) → List X
each_below zero f = []
each_below (suc n) f = each_below n f ++ f n

-- how many numbers below n pass the test
abbrev pub count_below : ℕ → (ℕ → Bool) → ℕ
count_below zero p = 0
count_below (suc n) p = count_below n p + (if p n then 1 else 0)

-- the sum of f 0, f 1, .. up to f (n - 1)
abbrev pub sum_below : ℕ → (ℕ → ℕ) → ℕ
sum_below zero f = 0
sum_below (suc n) f = sum_below n f + f n

-- the first, or else the second
abbrev pub or_else : {X : Type 0} → Option X → Option X → Option X
or_else (Some x) other = Some x
or_else None other = other

-- the least number below n that passes the test
abbrev pub first_below : ℕ → (ℕ → Bool) → Option ℕ
first_below zero p = None
first_below (suc n) p = or_else (first_below n p) (if p n then Some n else None)
