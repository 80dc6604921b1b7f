-- What stands before the operands of a form: prefix and opcode.
use Rattle.std.specs.Prelude.{ℕ, List, [], ◌∷◌}
use Rattle.cet_isa.specs.PrefixedMap as map
use Rattle.cet_encode.specs.declared.shape.Prefix.{Prefix}
use Rattle.cet_encode.specs.declared.shape.Prefix.TheVariants.{Absent, Mandatory, Lock, Notrack}
use Rattle.cet_encode.specs.declared.shape.Opcode.{Opcode}
use Rattle.cet_encode.specs.declared.shape.Opcode.TheVariants.{OneByte, TwoByte, ThreeByte}

abbrev pub prefix_of : Prefix → map.Prefix
prefix_of Absent = map.none
prefix_of Mandatory = map.mandatory
prefix_of Lock = map.lock
prefix_of Notrack = map.notrack

-- SDM volume 2, 2.1.2
abbrev pub opcode_bytes : Opcode → List ℕ
opcode_bytes (OneByte byte) = byte ∷ []
opcode_bytes (TwoByte byte) = 0x0F ∷ byte ∷ []
opcode_bytes (ThreeByte byte) = 0x0F ∷ 0x38 ∷ byte ∷ []
