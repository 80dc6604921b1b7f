-- Numbers of schedules: decimal, or hexadecimal after `0x` with digits of either case. Both may have leading zeros.
use Rattle.std.specs.Prelude.{ℕ, Bool, false, ◌&&◌, nat_eq, nat_lt, if◌then◌else◌, List, [], ◌∷◌, drop, Option, Some, None, codes}
use Rattle.std.specs.Char.{digit_value}
use Rattle.std.specs.Str.Parse.{digits_value}
use Rattle.std.specs.List.{list_all, starts_with}

-- one digit at least, and each below the base
abbrev pub are_digits : ℕ → List ℕ → Bool
are_digits base [] = false
are_digits base (c ∷ cs) = list_all (λ d. nat_lt (digit_value d) base) (c ∷ cs)

-- the number that digits of a base write, where it is below the limit
abbrev pub digits_below : ℕ → ℕ → List ℕ → Option ℕ
digits_below limit base cs = if are_digits base cs && nat_lt (digits_value base cs) limit then Some (digits_value base cs) else None

-- the number that a field is, where it is below the limit
abbrev pub number_below : ℕ → List ℕ → Option ℕ
number_below limit cs = if starts_with nat_eq cs (codes "0x") then digits_below limit 16 (drop 2 cs) else digits_below limit 10 cs
