-- The listing of code: a line for each instruction, in the order of the addresses.
use Rattle.std.specs.Prelude.{◌≡◌, ◌≢◌, ℕ, ◌+◌, List, [], ◌++◌, length, codes}
use Rattle.hex.specs.Hex.{encode_lower}
use Rattle.cet_base.specs.Text.{line, hexadecimal}
use Rattle.cet_isa.specs.declared.instruction.Insn.{Insn}
use Rattle.cet_isa.specs.declared.decode_error.DecodeError.{DecodeError}
use Rattle.cet_isa.specs.declared.decode_error.DecodeError.TheVariants.{Short, Outside}
use Rattle.cet_isa.specs.Form.{Form}
use Rattle.cet_isa.specs.Law.{IsProperPrefix, IsNoForm}
use Rattle.cet_isa.specs.Text.{text}

-- the line of an instruction: its address, the bytes of its form and its text
abbrev pub instruction_line : ℕ → List ℕ → Insn → List ℕ
instruction_line at form insn = line (hexadecimal at ++ codes " " ++ encode_lower form ++ codes " " ++ text insn)

-- the bytes are forms, one after the other and the first one at the address, and the text is their lines
pub data IsListing : ℕ → List ℕ → List ℕ → Type 0 where
  nothing : {at : ℕ} {bytes lines : List ℕ} → bytes ≡ [] → lines ≡ [] → IsListing at bytes lines
  instruction : {at : ℕ} {bytes lines : List ℕ} (insn : Insn) (form rest more : List ℕ) → Form insn form → IsListing (at + length form) rest more
      → bytes ≡ form ++ rest → lines ≡ instruction_line at form insn ++ more → IsListing at bytes lines

-- there is a listing of the bytes
abbrev pub IsListed : ℕ → List ℕ → Type 0
IsListed at bytes = (lines : List ℕ) × IsListing at bytes lines

-- no form stands at the head of the bytes, for this reason: they are less than a form, or neither a prefix nor an extension of
-- them is one
abbrev pub IsReason : DecodeError → List ℕ → Type 0
IsReason Short bytes = IsProperPrefix bytes
IsReason Outside bytes = IsNoForm bytes

-- forms stand one after the other from the address on up to `stop`, and of the bytes there, one at least, none is the head of
-- a form, for this reason
pub data StopsAt : ℕ → List ℕ → ℕ → DecodeError → Type 0 where
  here : {at stop : ℕ} {bytes : List ℕ} {why : DecodeError} → stop ≡ at → bytes ≢ [] → IsReason why bytes → StopsAt at bytes stop why
  later : {at stop : ℕ} {bytes : List ℕ} {why : DecodeError} (insn : Insn) (form rest : List ℕ) → Form insn form
      → StopsAt (at + length form) rest stop why → bytes ≡ form ++ rest → StopsAt at bytes stop why
