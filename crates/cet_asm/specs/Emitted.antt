-- What a statement puts into its section: bytes, and the fields among them that wait for the value of a symbol (gABI, "Relocation"; psABI,
-- "Relocation Types"). Both depend on the statement, on where it stands, and on where names are defined, and on nothing else.
use Rattle.std.specs.Prelude.{ℕ, ◌+◌, ◌-◌, ◌%◌, Bool, true, false, ◌==◌, if◌then◌else◌, List, [], ◌∷◌, ◌++◌, length, take, drop, map, replicate, ℤ, pos, ◌-ℤ◌, Option, Some, None, unwrap_or}
use Rattle.std.specs.Option.{option_map, option_to_list}
use Rattle.std.specs.List.{sum_by}
use Rattle.std.specs.Int.{w8, w64, to_le_bytes}
use Rattle.cet_isa.specs.declared.register.Reg.TheVariants.{Rcx}
use Rattle.cet_isa.specs.declared.operand.Width.{Width}
use Rattle.cet_isa.specs.declared.operand.Width.TheVariants.{B1, B4, B8}
use Rattle.cet_isa.specs.declared.operand.Mem.{Mem}
use Rattle.cet_isa.specs.declared.operand.Rm.{Rm}
use Rattle.cet_isa.specs.declared.operand.Rm.TheVariants as rm
use Rattle.cet_isa.specs.declared.operand.Rel.{Rel}
use Rattle.cet_isa.specs.declared.operand.Rel.TheVariants.{S, L}
use Rattle.cet_isa.specs.declared.operation.ShiftCount.{ShiftCount}
use Rattle.cet_isa.specs.declared.operation.ShiftCount.TheVariants as count
use Rattle.cet_isa.specs.declared.instruction.Insn.{Insn}
use Rattle.cet_isa.specs.declared.instruction.Insn.TheVariants as insn
use Rattle.cet_isa.specs.Canonical.{canonical, fits}
use Rattle.cet_syntax.specs.declared.template.Reference.{Reference}
use Rattle.cet_syntax.specs.declared.template.Template.{Template}
use Rattle.cet_syntax.specs.declared.template.Code.TheVariants as code
use Rattle.cet_syntax.specs.declared.statement.SectionName.{SectionName}
use Rattle.cet_syntax.specs.declared.statement.Quad.TheVariants as quad
use Rattle.cet_syntax.specs.declared.statement.Directive.{Directive}
use Rattle.cet_syntax.specs.declared.statement.Directive.TheVariants as directive
use Rattle.cet_syntax.specs.declared.statement.Site.{Site}
use Rattle.cet_syntax.specs.declared.statement.Statement.{Statement}
use Rattle.cet_syntax.specs.declared.statement.Statement.TheVariants as statement
use Rattle.cet_syntax.specs.Instruction.{stand_in, short_branch}
use Rattle.cet_asm.specs.declared.part.Mark.{Mark}
use Rattle.cet_asm.specs.declared.part.Mark.TheVariants.{Again, Resumed, Past}
use Rattle.cet_asm.specs.declared.part.Part.{Part}
use Rattle.cet_asm.specs.declared.part.Part.TheVariants.{Whole, Branch, Resumption, Here}
use Rattle.cet_asm.specs.declared.usage.Use.{Use}
use Rattle.cet_asm.specs.declared.placed.Around.{Around}
use Rattle.cet_asm.specs.declared.placed.Spot.{Spot}
use Rattle.cet_asm.specs.Sequence.{sequence}

-- ---- relocation types (psABI, "Relocation Types")

abbrev pub R_X86_64_64 : ℕ
R_X86_64_64 = 1

abbrev pub R_X86_64_PC32 : ℕ
R_X86_64_PC32 = 2

abbrev pub R_X86_64_PLT32 : ℕ
R_X86_64_PLT32 = 4

abbrev pub R_X86_64_32 : ℕ
R_X86_64_32 = 10

abbrev pub R_X86_64_32S : ℕ
R_X86_64_32S = 11

-- ---- the fields of an instruction

abbrev pub code_of : Insn → List ℕ
code_of value = unwrap_or (canonical value) []

abbrev pub by_width : Width → ℕ → ℕ → ℕ
by_width B1 byte other = byte
by_width _ byte other = other

-- a constant of 8 bits where it fits, else of 32
abbrev pub short_or_long_size : ℤ → ℕ
short_or_long_size z = if fits w8 z then 1 else 4

abbrev pub long_constant_size : Width → ℕ
long_constant_size B1 = 1
long_constant_size B4 = 4
long_constant_size B8 = 8

abbrev pub count_size : ShiftCount → ℕ
count_size (count.Imm n) = if n == 1 then 0 else 1
count_size count.Cl = 0

abbrev pub jump_size : Rel → ℕ
jump_size (S rel) = 1
jump_size (L rel) = 4

-- the bytes of the constant or branch displacement that ends the canonical form
abbrev pub constant_size : Insn → ℕ
constant_size (insn.MovImm w dst imm) = by_width w 1 4
constant_size (insn.MovAbs w dst imm) = long_constant_size w
constant_size (insn.AluImm op w dst imm) = by_width w 1 (short_or_long_size imm)
constant_size (insn.TestImm w dst imm) = by_width w 1 4
constant_size (insn.Shift op w dst by) = count_size by
constant_size (insn.IMul3 w dst src imm) = short_or_long_size imm
constant_size (insn.PushImm imm) = short_or_long_size imm
constant_size (insn.Call rel) = 4
constant_size (insn.Jmp rel) = jump_size rel
constant_size (insn.Jcc c rel) = jump_size rel
constant_size _ = 0

abbrev pub memory_in : Rm → Option Mem
memory_in (rm.Reg r) = None
memory_in (rm.Mem m) = Some m

-- the memory operand, where there is one
abbrev pub memory_operand : Insn → Option Mem
memory_operand (insn.Mov w dst src) = memory_in dst
memory_operand (insn.MovLoad w dst src) = memory_in src
memory_operand (insn.MovImm w dst imm) = memory_in dst
memory_operand (insn.MovZx w dst src) = memory_in src
memory_operand (insn.MovSx w dst src) = memory_in src
memory_operand (insn.MovSxd dst src) = memory_in src
memory_operand (insn.Lea w dst mem) = Some mem
memory_operand (insn.Alu op w dst src) = memory_in dst
memory_operand (insn.AluLoad op w dst src) = memory_in src
memory_operand (insn.AluImm op w dst imm) = memory_in dst
memory_operand (insn.Test w dst src) = memory_in dst
memory_operand (insn.TestImm w dst imm) = memory_in dst
memory_operand (insn.Unary op w dst) = memory_in dst
memory_operand (insn.Shift op w dst by) = memory_in dst
memory_operand (insn.IMul2 w dst src) = memory_in src
memory_operand (insn.IMul3 w dst src imm) = memory_in src
memory_operand (insn.MulDiv op w src) = memory_in src
memory_operand (insn.PushMem mem) = Some mem
memory_operand (insn.CallInd target notrack) = memory_in target
memory_operand (insn.JmpInd target notrack) = memory_in target
memory_operand (insn.SetCc c dst) = memory_in dst
memory_operand (insn.CMov c w dst src) = memory_in src
memory_operand (insn.Xchg w dst src) = memory_in dst
memory_operand (insn.CmpXchg w dst src lock) = Some dst
memory_operand (insn.XAdd w dst src lock) = Some dst
memory_operand (insn.RstorSsp mem) = Some mem
memory_operand (insn.WrSs mem src) = Some mem
memory_operand _ = None

abbrev pub is_rip_relative : Option Mem → Bool
is_rip_relative None = false
is_rip_relative (Some m) = m.rip

-- a displacement of 32 bits before the constant; rip counts from the instruction's end
abbrev pub displacement_use : Insn → Reference → Use
displacement_use value r =
    let behind = constant_size value in
    if is_rip_relative (memory_operand value)
    then record { offset = length (code_of value) - behind - 4; size = 4; kind = R_X86_64_PC32; name = r.name; addend = r.addend -ℤ pos (behind + 4) }
    else record { offset = length (code_of value) - behind - 4; size = 4; kind = R_X86_64_32S; name = r.name; addend = r.addend }

abbrev pub absolute_kind : Width → ℕ
absolute_kind B8 = R_X86_64_64
absolute_kind _ = R_X86_64_32

-- the type of a constant's field
abbrev pub constant_kind : Insn → ℕ
constant_kind (insn.Call rel) = R_X86_64_PLT32
constant_kind (insn.Jmp rel) = R_X86_64_PC32
constant_kind (insn.Jcc c rel) = R_X86_64_PC32
constant_kind (insn.MovAbs w dst imm) = absolute_kind w
constant_kind _ = R_X86_64_32S

-- a branch counts from the end of its field
abbrev pub constant_bias : Insn → ℕ
constant_bias (insn.Call rel) = 4
constant_bias (insn.Jmp rel) = 4
constant_bias (insn.Jcc c rel) = 4
constant_bias _ = 0

abbrev pub constant_use : Insn → Reference → Use
constant_use value r =
    record { offset = length (code_of value) - constant_size value; size = constant_size value; kind = constant_kind value; name = r.name; addend = r.addend -ℤ pos (constant_bias value) }

abbrev pub template_uses : Template → List Use
template_uses t = option_to_list (option_map (displacement_use t.insn) t.memory) ++ option_to_list (option_map (constant_use t.insn) t.immediate)

-- a field that waits is zero
abbrev pub zeroed : List ℕ → List Use → List ℕ
zeroed bytes [] = bytes
zeroed bytes (u ∷ us) = zeroed (take u.offset bytes ++ (replicate u.size 0 ++ drop (u.offset + u.size) bytes)) us

-- ---- what a statement emits

pub record Emitted : Type 0 where
  pub bytes : List ℕ
  pub uses : List Use

abbrev pub of_template : Template → Emitted
of_template t = record { bytes = zeroed (code_of t.insn) (template_uses t); uses = template_uses t }

abbrev pub no_bytes : Emitted
no_bytes = record { bytes = []; uses = [] }

abbrev pub only_bytes : List ℕ → Emitted
only_bytes bytes = record { bytes = bytes; uses = [] }

-- the use as it stands behind other bytes
abbrev pub moved : ℕ → Use → Use
moved by u = record { offset = by + u.offset; size = u.size; kind = u.kind; name = u.name; addend = u.addend }

-- ---- sites

abbrev pub part_size : Part → ℕ
part_size (Whole t) = length (code_of t.insn)
part_size (Branch c m) = 6
part_size Resumption = 5
part_size (Here m) = 0

abbrev pub same_mark : Mark → Mark → Bool
same_mark Again Again = true
same_mark Resumed Resumed = true
same_mark Past Past = true
same_mark _ _ = false

-- the place of a mark among the parts, counted in bytes
abbrev pub mark_place : Mark → List Part → ℕ
mark_place m [] = 0
mark_place m (Here n ∷ parts) = if same_mark m n then 0 else mark_place m parts
mark_place m (part ∷ parts) = part_size part + mark_place m parts

-- R of a Switch is the symbol of the function around, with the distance from its start
abbrev pub resumption_use : Option Around → ℕ → List Use
resumption_use None place = []
resumption_use (Some f) place = record { offset = 1; size = 4; kind = R_X86_64_32; name = f.name; addend = pos place -ℤ pos f.start } ∷ []

-- the part at this place of a site that begins at the offset
abbrev pub part_emitted : List Part → Spot → ℕ → Part → Emitted
part_emitted parts spot place (Whole t) = of_template t
part_emitted parts spot place (Branch c m) = only_bytes (code_of (insn.Jcc c (L (pos (mark_place m parts) -ℤ pos (place + 6)))))
part_emitted parts spot place Resumption =
    record { bytes = zeroed (code_of (insn.MovAbs B4 Rcx stand_in)) (resumption_use spot.around 0); uses = resumption_use spot.around (spot.offset + mark_place Resumed parts) }
part_emitted parts spot place (Here m) = no_bytes

abbrev pub joined : ℕ → Emitted → Emitted → Emitted
joined size first rest = record { bytes = first.bytes ++ rest.bytes; uses = first.uses ++ map (moved size) rest.uses }

-- the parts from a place on
abbrev pub parts_emitted : List Part → Spot → ℕ → List Part → Emitted
parts_emitted parts spot place [] = no_bytes
parts_emitted parts spot place (part ∷ others) = joined (part_size part) (part_emitted parts spot place part) (parts_emitted parts spot (place + part_size part) others)

abbrev pub site_emitted : Spot → Site → Emitted
site_emitted spot s = parts_emitted (sequence s) spot 0 (sequence s)

-- ---- short branches, resolved in place

-- from the end of its two bytes to the target
abbrev pub short_distance : ℕ → ℕ → ℤ
short_distance offset target = pos target -ℤ pos (offset + 2)

-- ---- statements

-- up to the next multiple
abbrev pub padding : ℕ → ℕ → ℕ
padding boundary offset = (boundary - offset % boundary) % boundary

-- `.off`: the symbol's distance from the label, so the field's own distance from the label is added
abbrev pub offset_use : ℕ → ℕ → List ℕ → Use
offset_use offset table name = record { offset = 0; size = 4; kind = R_X86_64_PC32; name = name; addend = pos offset -ℤ pos table }

-- the target of a name in the section of the statement
abbrev pub Targets : Type 0
Targets = SectionName → List ℕ → Option ℕ

abbrev pub directive_emitted : Targets → Spot → Directive → Emitted
directive_emitted targets spot (directive.Object name size) = only_bytes (replicate (padding 8 spot.offset + size) 0)
directive_emitted targets spot (directive.Word (quad.Number n)) = only_bytes (to_le_bytes w64 n)
directive_emitted targets spot (directive.Word (quad.Symbol name)) =
    record { bytes = replicate 8 0; uses = record { offset = 0; size = 8; kind = R_X86_64_64; name = name; addend = pos 0 } ∷ [] }
directive_emitted targets spot (directive.Byte n) = only_bytes (n ∷ [])
directive_emitted targets spot (directive.Zero size) = only_bytes (replicate size 0)
directive_emitted targets spot (directive.Align boundary) = only_bytes (replicate (padding boundary spot.offset) 0)
directive_emitted targets spot (directive.Off name table) =
    record { bytes = replicate 4 0; uses = offset_use spot.offset (unwrap_or (targets spot.section table) 0) name ∷ [] }
directive_emitted targets spot _ = no_bytes

abbrev pub emitted : Targets → Spot → Statement → Emitted
emitted targets spot (statement.Code (code.Long t)) = of_template t
emitted targets spot (statement.Code (code.Short c name)) =
    only_bytes (code_of (short_branch c (short_distance spot.offset (unwrap_or (targets spot.section name) 0))))
emitted targets spot (statement.Directive d) = directive_emitted targets spot d
emitted targets spot (statement.Site s) = site_emitted spot s

-- the bytes that a statement takes in its section: those of no name are as many
abbrev pub directive_size : ℕ → Directive → ℕ
directive_size offset (directive.Object name size) = padding 8 offset + size
directive_size offset (directive.Word value) = 8
directive_size offset (directive.Byte n) = 1
directive_size offset (directive.Zero size) = size
directive_size offset (directive.Align boundary) = padding boundary offset
directive_size offset (directive.Off name table) = 4
directive_size offset _ = 0

abbrev pub size_of : ℕ → Statement → ℕ
size_of offset (statement.Code (code.Long t)) = length (code_of t.insn)
size_of offset (statement.Code (code.Short c name)) = 2
size_of offset (statement.Directive d) = directive_size offset d
size_of offset (statement.Site s) = sum_by part_size (sequence s)
