-- Numbers of assembly text: decimal, or hexadecimal after `0x` with digits of either case. Both may have leading zeros and a `-` in front.
use Rattle.std.specs.Prelude.{ℕ, ◌-◌, ◌%◌, ◌^◌, Bool, false, not, ◌&&◌, ◌||◌, ◌==◌, nat_eq, nat_lt, nat_le, if◌then◌else◌, List, [], ◌∷◌, drop, ℤ, pos, neg_ℤ, Option, Some, None, codes}
use Rattle.std.specs.Option.{option_map, option_and_then}
use Rattle.std.specs.Char.{digit_value}
use Rattle.std.specs.Str.Parse.{digits_value}
use Rattle.std.specs.List.{list_all, starts_with}
use Rattle.cet_syntax.specs.declared.number.Number.{Number}

-- one digit at least, and each below the base
abbrev pub are_digits : ℕ → List ℕ → Bool
are_digits base [] = false
are_digits base (c ∷ cs) = list_all (λ d. nat_lt (digit_value d) base) (c ∷ cs)

-- a value of 64 bits, or none: no field holds a larger one
abbrev pub narrowed : ℕ → Option ℕ
narrowed n = if nat_lt n (2 ^ 64) then Some n else None

-- the number that digits of a base write
abbrev pub digits_in : ℕ → List ℕ → Option Number
digits_in base cs = if are_digits base cs then Some (record { negative = false; magnitude = narrowed (digits_value base cs) }) else None

-- a number without a sign
abbrev pub unsigned_number : List ℕ → Option Number
unsigned_number cs = if starts_with nat_eq cs (codes "0x") then digits_in 16 (drop 2 cs) else digits_in 10 cs

-- with the other sign
abbrev pub negated : Number → Number
negated n = record { negative = not n.negative; magnitude = n.magnitude }

abbrev pub number_of : List ℕ → Option Number
number_of cs = if starts_with nat_eq cs (codes "-") then option_map negated (unsigned_number (drop 1 cs)) else unsigned_number cs

-- ---- fields: none where the number lies outside

-- -limit to limit - 1
abbrev pub signed_field : ℕ → Number → Option ℤ
signed_field limit n = option_and_then (λ m. if n.negative then (if nat_le m limit then Some (neg_ℤ (pos m)) else None) else if nat_lt m limit then Some (pos m) else None) n.magnitude

-- 0 to limit - 1
abbrev pub unsigned_field : ℕ → Number → Option ℕ
unsigned_field limit n = option_and_then (λ m. if nat_lt m limit && (not n.negative || m == 0) then Some m else None) n.magnitude

-- -2^(bits - 1) to 2^bits - 1, a number below 0 in two's complement
abbrev pub either_field : ℕ → Number → Option ℕ
either_field bits n = option_and_then (λ m. if n.negative then (if nat_le m (2 ^ (bits - 1)) then Some ((2 ^ bits - m) % 2 ^ bits) else None) else if nat_lt m (2 ^ bits) then Some m else None) n.magnitude
