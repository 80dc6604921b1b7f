-- The forms of the instruction values: which bytes each value may have (SDM volume 2, 2.1 instruction format).
use Rattle.std.specs.Prelude.{◌≡◌, ℕ, ◌<◌, List, ◌∷◌, ◌++◌, All, Option}
use Rattle.cet_isa.specs.declared.instruction.Insn.{Insn}
use Rattle.cet_isa.specs.Row.{RowBytes}
use Rattle.cet_isa.specs.PrefixedMap.{Prefix, prefix_bytes, IsPrefix, rex_bytes, IsRex, row}

-- each item is a byte
abbrev pub IsBytes : List ℕ → Type 0
IsBytes b = All (λ x. x < 256) b

-- b is a form of i: prefixes, an optional REX, an opcode byte, and the bytes that the opcode's row says
pub record Form (i : Insn) (b : List ℕ) : Type 0 where
  pub prefix : Prefix
  pub rex : Option ℕ
  pub opcode : ℕ
  pub operands : List ℕ
  pub whole : b ≡ prefix_bytes prefix ++ (rex_bytes rex ++ (opcode ∷ operands))
  pub is_bytes : IsBytes b
  pub is_prefix : IsPrefix prefix
  pub is_rex : IsRex prefix rex
  pub row_bytes : RowBytes rex (row prefix rex opcode) i operands
