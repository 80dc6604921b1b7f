-- The bytes of a section after its relocations (psABI, "Relocation Types": S is the value of the symbol, A the addend, P the place of the
-- field). Sums are exact. R_X86_64_NONE, of type 0, does nothing.
use Rattle.std.specs.Prelude.{ℕ, ◌+◌, ◌-◌, ◌*◌, ◌%◌, ◌^◌, ◌==◌, ◌||◌, ◌&&◌, nat_lt, nat_le, Bool, true, false, if◌then◌else◌, List, [], ◌∷◌, map, Option, None, Some, ℤ, pos, negsuc, ◌+ℤ◌, ◌-ℤ◌, slice_index}
use Rattle.std.specs.Option.{option_or, option_map_or}
use Rattle.std.specs.List.{enumerate_from}
use Rattle.byteorder.specs.Endian.{little_bytes}
use Rattle.cet_elf.specs.declared.object.Object.{Object}
use Rattle.cet_elf.specs.declared.object.Rela.{Rela}
use Rattle.cet_elf.specs.ObjectRelocations.{field_size}
use Rattle.cet_link.specs.Inputs.{Part}
use Rattle.cet_link.specs.Places.{place}
use Rattle.cet_link.specs.Values.{value_at}

-- R_X86_64_PC32, R_X86_64_PLT32 and R_X86_64_PC64 count from the place
abbrev pub is_relative : ℕ → Bool
is_relative kind = kind == 2 || kind == 4 || kind == 24

-- S + A, or S + A - P
abbrev pub sum_of : ℕ → ℕ → ℤ → ℕ → ℤ
sum_of kind s a p = if is_relative kind then (pos s +ℤ a) -ℤ pos p else pos s +ℤ a

-- -2^31 to 2^31 - 1, and 0 to 2^32 - 1
abbrev pub is_signed_word : ℤ → Bool
is_signed_word (pos n) = nat_lt n (2 ^ 31)
is_signed_word (negsuc n) = nat_lt n (2 ^ 31)

abbrev pub is_unsigned_word : ℤ → Bool
is_unsigned_word (pos n) = nat_lt n (2 ^ 32)
is_unsigned_word (negsuc n) = false

-- The sum fits the field: R_X86_64_32 is extended by zeros, and R_X86_64_32S, R_X86_64_PC32 and R_X86_64_PLT32 by the sign. What has 64 bits,
-- R_X86_64_64 and R_X86_64_PC64, is taken modulo 2^64
abbrev pub sum_fits : ℕ → ℤ → Bool
sum_fits kind sum =
    if kind == 10 then is_unsigned_word sum
    else if kind == 2 || kind == 4 || kind == 11 then is_signed_word sum
    else true

-- an integer modulo 2^bits
abbrev pub residue : ℕ → ℤ → ℕ
residue bits (pos n) = n % 2 ^ bits
residue bits (negsuc n) = 2 ^ bits - 1 - n % 2 ^ bits

-- the sum of a relocation of a section
unfoldable pub relocated : List Object → List ℕ → Part → Rela → ℤ
relocated inputs note p r = sum_of r.kind (value_at inputs note p.input r.symbol) r.addend (place inputs note p.input p.number + r.offset)

-- the bytes of its field
unfoldable pub field : List Object → List ℕ → Part → Rela → List ℕ
field inputs note p r = little_bytes (field_size r.kind) (residue (8 * field_size r.kind) (relocated inputs note p r))

-- the byte at an offset lies in the field
abbrev pub covers : ℕ → Rela → Bool
covers at r = nat_le r.offset at && nat_lt at (r.offset + field_size r.kind)

-- the last relocation over a byte
abbrev pub last_over : ℕ → List Rela → Option Rela
last_over at [] = None
last_over at (r ∷ others) = option_or (last_over at others) (if covers at r then Some r else None)

-- A byte of a section: that of the field of the last relocation over it, or else the input's
unfoldable pub patched_byte : List Object → List ℕ → Part → ℕ → ℕ → ℕ
patched_byte inputs note p at byte = option_map_or (λ r. slice_index (field inputs note p r) (at - r.offset)) (last_over at p.section.relocations) byte

unfoldable pub patched : List Object → List ℕ → Part → List ℕ
patched inputs note p = map (λ i. patched_byte inputs note p i.0 i.1) (enumerate_from 0 p.section.bytes)
