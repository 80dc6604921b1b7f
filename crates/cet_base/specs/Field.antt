-- Little-endian fields of a list of bytes, as the ELF gABI's ELFDATA2LSB has them: the least significant byte
-- comes first.
use Rattle.std.specs.Prelude.{ℕ, ◌+◌, ◌*◌, nat_le, if◌then◌else◌, List, [], ◌∷◌, length, take, drop, Option, Some, None}

-- the number that these bytes are, the lowest first
abbrev pub little_endian : List ℕ → ℕ
little_endian [] = 0
little_endian (byte ∷ rest) = byte + 256 * little_endian rest

-- the field of `width` bytes at `at`, or none where it passes the end
abbrev pub field : ℕ → List ℕ → ℕ → Option ℕ
field width bytes at =
    if nat_le (at + width) (length bytes) then Some (little_endian (take width (drop at bytes))) else None
