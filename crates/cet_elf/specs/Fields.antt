-- Fields of a file by their offset in it (gABI, "Data Representation", ELFDATA2LSB: the least significant byte first).
use Rattle.std.specs.Prelude.{ℕ, ◌+◌, ◌==◌, nat_le, Bool, not, ◌||◌, List, length, take, drop, bit_and}
use Rattle.cet_base.specs.Field.{little_endian}

-- the number that the `width` bytes at `at` are. Bytes past the end of the file count as absent
unfoldable pub number : ℕ → List ℕ → ℕ → ℕ
number width bytes at = little_endian (take width (drop at bytes))

-- unsigned char, Elf64_Half, Elf64_Word and Elf64_Xword (or Elf64_Addr, Elf64_Off)
abbrev pub byte : List ℕ → ℕ → ℕ
byte bytes at = number 1 bytes at

abbrev pub half : List ℕ → ℕ → ℕ
half bytes at = number 2 bytes at

abbrev pub word : List ℕ → ℕ → ℕ
word bytes at = number 4 bytes at

abbrev pub xword : List ℕ → ℕ → ℕ
xword bytes at = number 8 bytes at

-- the `size` bytes at `at`
abbrev pub part : List ℕ → ℕ → ℕ → List ℕ
part bytes at size = take size (drop at bytes)

-- the `size` bytes at `at` are in the file. A part of no bytes is in every file, whatever its offset
abbrev pub is_part : List ℕ → ℕ → ℕ → Bool
is_part bytes at size = size == 0 || nat_le (at + size) (length bytes)

-- some bit of the mask is set
abbrev pub has_flag : ℕ → ℕ → Bool
has_flag flags mask = not (bit_and flags mask == 0)
