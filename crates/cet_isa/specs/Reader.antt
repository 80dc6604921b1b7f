-- Readers: from a list of bytes to a value and the bytes after it, or why there is none.
use Rattle.std.specs.Prelude.{ℕ, List, [], ◌∷◌, length, take, drop, ℤ, Result, Ok, Err, nat_lt, if◌then◌else◌}
use Rattle.std.specs.Int.{Width, byte_len, from_le_bytes, cast_signed}
use Rattle.cet_isa.specs.declared.decode_error.DecodeError.{DecodeError}
use Rattle.cet_isa.specs.declared.decode_error.DecodeError.TheVariants.{Short}

abbrev pub Read : Type 0 → Type 0
Read A = Result (A × List ℕ) DecodeError

infixl 10 ◌>>=◌
abbrev pub ◌>>=◌ : {A B : Type 0} → Result A DecodeError → (A → Result B DecodeError) → Result B DecodeError
(Ok x) >>= f = f x
(Err e) >>= f = Err e

abbrev pub byte_at : List ℕ → Read ℕ
byte_at [] = Err Short
byte_at (x ∷ rest) = Ok (x, rest)

-- an unsigned number, little endian
abbrev pub unsigned_at : Width → List ℕ → Read ℕ
unsigned_at w bytes = if nat_lt (length bytes) (byte_len w) then Err Short else Ok (from_le_bytes w (take (byte_len w) bytes), drop (byte_len w) bytes)

-- a number in two's complement, little endian
abbrev pub signed_at : Width → List ℕ → Read ℤ
signed_at w bytes = unsigned_at w bytes >>= λ n. Ok (cast_signed w n.0, n.1)
