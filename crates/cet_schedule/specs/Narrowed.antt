-- Numbers of 64 bits, as the reader keeps them.
use Rattle.std.specs.Prelude.{ℕ, ◌^◌, nat_lt, if◌then◌else◌, Option, Some, None}

-- none where it needs more than 64 bits
abbrev pub narrowed : ℕ → Option ℕ
narrowed n = if nat_lt n (2 ^ 64) then Some n else None
