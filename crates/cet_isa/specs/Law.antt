-- What holds of the forms, and of what is decoded.
use Rattle.std.specs.Prelude.{◌≡◌, ◌≢◌, ℕ, ◌%◌, ◌<◌, ◌≤◌, Bool, false, ◌&&◌, ◌||◌, ◌==◌, nat_lt, List, [], ◌++◌, length, take, Some, Ok, Err}
use Rattle.cet_isa.specs.declared.instruction.Insn.{Insn}
use Rattle.cet_isa.specs.declared.decode_error.DecodeError.TheVariants.{Short, Outside}
use Rattle.cet_isa.specs.Form.{Form}
pub use Rattle.cet_isa.specs.Form.{IsBytes}
use Rattle.cet_isa.specs.Decoded.{decoded}
use Rattle.cet_isa.specs.Canonical.{canonical}

-- the first n items of b are a form of i
pub record Begins (b : List ℕ) (i : Insn) (n : ℕ) : Type 0 where
  pub within : n ≤ length b
  pub form : Form i (take n b)

-- b is less than a whole form
abbrev pub IsProperPrefix : List ℕ → Type 0
IsProperPrefix b = (i : Insn) × (more : List ℕ) × (more ≢ []) × Form i (b ++ more)

-- neither a prefix nor an extension of b is a form
abbrev pub IsNoForm : List ℕ → Type 0
IsNoForm b = ((i : Insn) (n : ℕ) → ¬ Begins b i n) × ((i : Insn) (more : List ℕ) → ¬ Form i (b ++ more))

-- a form has a byte at least, and 15 at most (SDM volume 2, 2.3.11)
abbrev pub FormLength : Type 0
FormLength = (i : Insn) (b : List ℕ) → Form i b → (0 < length b) × (length b ≤ 15)

abbrev pub OneForm : Type 0
OneForm = (i j : Insn) (a b x y : List ℕ) → Form i a → Form j b → a ++ x ≡ b ++ y → (i ≡ j) × (a ≡ b)

abbrev pub FormIsDecoded : Type 0
FormIsDecoded = (i : Insn) (a more : List ℕ) → Form i a → decoded (a ++ more) ≡ Ok (i, length a)

abbrev pub DecodedIsForm : Type 0
DecodedIsForm = (b : List ℕ) (i : Insn) (n : ℕ) → IsBytes b → decoded b ≡ Ok (i, n) → Begins b i n

abbrev pub ShortIsProperPrefix : Type 0
ShortIsProperPrefix = (b : List ℕ) → IsBytes b → decoded b ≡ Err Short → IsProperPrefix b

abbrev pub OutsideStays : Type 0
OutsideStays = (b more : List ℕ) → decoded b ≡ Err Outside → decoded (b ++ more) ≡ Err Outside

-- at most one form stands at the head of a list
abbrev pub OneHead : Type 0
OneHead = (b : List ℕ) (i j : Insn) (n m : ℕ) → Begins b i n → Begins b j m → (i ≡ j) × (n ≡ m)

-- the canonical form of a value is a form of it
abbrev pub CanonicalIsForm : Type 0
CanonicalIsForm = (i : Insn) (b : List ℕ) → canonical i ≡ Some b → Form i b

-- a value that has a form has a canonical form: where there is none, no list is a form of the value
abbrev pub FormHasCanonical : Type 0
FormHasCanonical = (i : Insn) (b : List ℕ) → Form i b → (c : List ℕ) × (canonical i ≡ Some c)

-- the opcodes of AL, EAX and RAX with a constant: op*8+4, op*8+5, A8 and A9. Their values have an encoding that is listed before.
abbrev pub is_accumulator : ℕ → Bool
is_accumulator opcode = (nat_lt opcode 0x40 && (opcode % 8 == 4 || opcode % 8 == 5)) || opcode == 0xA8 || opcode == 0xA9

-- but for those opcodes, no form of a value is shorter than its canonical form
abbrev pub CanonicalIsShortest : Type 0
CanonicalIsShortest = (i : Insn) (b c : List ℕ) (form : Form i b) → is_accumulator form.opcode ≡ false → canonical i ≡ Some c → length c ≤ length b
