-- Names of symbols: a letter or `_`, then letters, digits and `_`, at most 255 bytes in all, and no register.
use Rattle.std.specs.Prelude.{ℕ, Bool, false, not, ◌&&◌, ◌||◌, ◌==◌, nat_le, if◌then◌else◌, List, [], ◌∷◌, length, Option, Some, None, is_some, codes}
use Rattle.std.specs.List.{list_all}
use Rattle.std.specs.Str.{bytes_eq}
use Rattle.cet_isa.specs.declared.register.Reg.{Reg}
use Rattle.cet_isa.specs.declared.register.Reg.TheVariants.{Rax, Rcx, Rdx, Rbx, Rsp, Rbp, Rsi, Rdi, R8, R9, R10, R11, R12, R13, R14, R15}
use Rattle.cet_syntax.specs.declared.name.TheConstants.{NAME_LIMIT}

abbrev pub is_between : ℕ → ℕ → ℕ → Bool
is_between low high c = nat_le low c && nat_le c high

-- a letter or `_`
abbrev pub begins_name : ℕ → Bool
begins_name c = is_between 65 90 c || is_between 97 122 c || c == 95

abbrev pub continues_name : ℕ → Bool
continues_name c = begins_name c || is_between 48 57 c

-- the register of a name, whatever the width it is used at
abbrev pub register_of : List ℕ → Option Reg
register_of name =
    if bytes_eq name (codes "rax") then Some Rax else
    if bytes_eq name (codes "rcx") then Some Rcx else
    if bytes_eq name (codes "rdx") then Some Rdx else
    if bytes_eq name (codes "rbx") then Some Rbx else
    if bytes_eq name (codes "rsp") then Some Rsp else
    if bytes_eq name (codes "rbp") then Some Rbp else
    if bytes_eq name (codes "rsi") then Some Rsi else
    if bytes_eq name (codes "rdi") then Some Rdi else
    if bytes_eq name (codes "r8") then Some R8 else
    if bytes_eq name (codes "r9") then Some R9 else
    if bytes_eq name (codes "r10") then Some R10 else
    if bytes_eq name (codes "r11") then Some R11 else
    if bytes_eq name (codes "r12") then Some R12 else
    if bytes_eq name (codes "r13") then Some R13 else
    if bytes_eq name (codes "r14") then Some R14 else
    if bytes_eq name (codes "r15") then Some R15 else None

abbrev pub is_spelled_as_name : List ℕ → Bool
is_spelled_as_name [] = false
is_spelled_as_name (c ∷ cs) = begins_name c && list_all continues_name cs

abbrev pub is_name : List ℕ → Bool
is_name name = is_spelled_as_name name && nat_le (length name) NAME_LIMIT && not (is_some (register_of name))

abbrev pub name_of : List ℕ → Option (List ℕ)
name_of cs = if is_name cs then Some cs else None
