-- Operands of assembly text: those of the instruction texts, where a number may also be hexadecimal, and a constant or displacement a
-- symbol's value, `@NAME`, with a number added.
use Rattle.std.specs.Prelude.{ℕ, ◌+◌, ◌-◌, Bool, true, false, ◌&&◌, ◌||◌, ◌==◌, nat_eq, nat_le, if◌then◌else◌, List, length, take, drop, Option, Some, None, option_and_then, codes}
use Rattle.std.specs.Option.{option_map, option_map_or, option_or, option_zip}
use Rattle.std.specs.List.{starts_with, ends_with, before_first, prefix_len}
use Rattle.std.specs.Str.{bytes_eq}
use Rattle.cet_isa.specs.declared.register.Reg.{Reg}
use Rattle.cet_syntax.specs.declared.number.Number.{Number}
use Rattle.cet_syntax.specs.declared.operand.Address.{Address}
use Rattle.cet_syntax.specs.declared.operand.Constant.{Constant}
use Rattle.cet_syntax.specs.declared.operand.Constant.TheVariants as constant
use Rattle.cet_syntax.specs.declared.operand.Memory.{Memory}
use Rattle.cet_syntax.specs.declared.operand.Place.TheVariants as place
use Rattle.cet_syntax.specs.declared.operand.Operand.{Operand}
use Rattle.cet_syntax.specs.declared.operand.Operand.TheVariants as operand
use Rattle.cet_syntax.specs.Number.{number_of, unsigned_number, negated}
use Rattle.cet_syntax.specs.Name.{continues_name, name_of, register_of}

-- whether the text begins with this one
abbrev pub begins : List ℕ → List ℕ → Bool
begins cs front = starts_with nat_eq cs front

abbrev pub whole_number : ℕ → Number
whole_number n = record { negative = false; magnitude = Some n }

abbrev pub is_0 : Number → Bool
is_0 n = option_map_or (λ m. m == 0) n.magnitude false

-- ---- `@NAME`, `@NAME+n`, `@NAME-n`

-- what is added to a name: nothing, or a number behind `+` or `-`
abbrev pub addend_of : List ℕ → Option Number
addend_of cs =
    if begins cs (codes "+") then number_of (drop 1 cs) else
    if begins cs (codes "-") then option_map negated (number_of (drop 1 cs)) else
    if length cs == 0 then Some (whole_number 0) else None

abbrev pub address_behind : List ℕ → Option Address
address_behind cs =
    let size = prefix_len continues_name cs in
    option_map (λ parts. record { name = parts.0; addend = parts.1 }) (option_zip (name_of (take size cs)) (addend_of (drop size cs)))

abbrev pub address_of : List ℕ → Option Address
address_of cs = if begins cs (codes "@") then address_behind (drop 1 cs) else None

-- ---- memory

-- a number with its sign, as it stands behind another term: not 0
abbrev pub nonzero : Option Number → Option Number
nonzero n = option_and_then (λ m. if is_0 m then None else Some m) n

-- the displacement behind a register: nothing, `+@NAME..`, `+n` or `-n`; n is written only where it is not 0
abbrev pub displacement_of : List ℕ → Option Constant
displacement_of cs =
    if length cs == 0 then Some (constant.Number (whole_number 0)) else
    if begins cs (codes "+@") then option_map constant.Address (address_of (drop 1 cs)) else
    if begins cs (codes "+") then option_map constant.Number (nonzero (unsigned_number (drop 1 cs))) else
    if begins cs (codes "-") then option_map (λ n. constant.Number (negated n)) (nonzero (unsigned_number (drop 1 cs))) else None

-- the displacement behind rip is always written
abbrev pub rip_displacement_of : List ℕ → Option Constant
rip_displacement_of cs =
    if length cs == 0 then None else
    if begins cs (codes "+") then option_or (option_map constant.Number (unsigned_number (drop 1 cs))) (displacement_of cs) else displacement_of cs

-- register*scale
abbrev pub index_of : List ℕ → Option (Reg × Number)
index_of cs =
    let name = before_first (λ c. c == 42) cs in
    if length name == length cs then None else option_zip (register_of name) (unsigned_number (drop (length name + 1) cs))

abbrev pub is_sign : ℕ → Bool
is_sign c = c == 43 || c == 45

-- the term at the head, up to a sign
abbrev pub first_term : List ℕ → List ℕ
first_term cs = before_first is_sign cs

abbrev pub behind_first_term : List ℕ → List ℕ
behind_first_term cs = drop (length (first_term cs)) cs

abbrev pub memory_at : Option Reg → Option Reg → Number → Constant → Memory
memory_at base index scale disp = record { base = base; index = index; scale = scale; disp = disp; rip = false }

-- the terms from an index on
abbrev pub indexed : Option Reg → List ℕ → Option Memory
indexed base cs =
    option_map (λ parts. memory_at base (Some parts.0.0) parts.0.1 parts.1) (option_zip (index_of (first_term cs)) (displacement_of (behind_first_term cs)))

-- the terms behind a base
abbrev pub based : Reg → List ℕ → Option Memory
based base cs =
    option_or (if begins cs (codes "+") then indexed (Some base) (drop 1 cs) else None)
    (option_map (memory_at (Some base) None (whole_number 1)) (displacement_of cs))

abbrev pub based_or_indexed : Option Reg → List ℕ → List ℕ → Option Memory
based_or_indexed (Some base) cs rest = based base rest
based_or_indexed None cs rest = indexed None cs

abbrev pub from_register : List ℕ → Option Memory
from_register cs =
    let first = first_term cs in
    let rest = behind_first_term cs in
    if bytes_eq first (codes "rip")
    then option_map (λ disp. record { base = None; index = None; scale = whole_number 1; disp = disp; rip = true }) (rip_displacement_of rest)
    else based_or_indexed (register_of first) cs rest

-- a constant alone: a number or an address
abbrev pub constant_of : List ℕ → Option Constant
constant_of cs = option_or (option_map constant.Number (number_of cs)) (option_map constant.Address (address_of cs))

-- what stands in the brackets
abbrev pub memory_of : List ℕ → Option Memory
memory_of cs = option_or (option_map (memory_at None None (whole_number 1)) (constant_of cs)) (from_register cs)

-- ---- operands

abbrev pub bracketed : List ℕ → Option (List ℕ)
bracketed cs = if begins cs (codes "[") && ends_with nat_eq cs (codes "]") && nat_le 2 (length cs) then Some (take (length cs - 2) (drop 1 cs)) else None

abbrev pub operand_of : List ℕ → Option Operand
operand_of cs =
    if begins cs (codes "[") then option_map (λ m. operand.Place (place.Memory m)) (option_and_then memory_of (bracketed cs)) else
    if begins cs (codes "$") then option_map operand.Relative (number_of (drop 1 cs)) else
    option_or (option_map (λ r. operand.Place (place.Reg r)) (register_of cs))
    (option_or (option_map operand.Constant (constant_of cs)) (option_map operand.Name (name_of cs)))
