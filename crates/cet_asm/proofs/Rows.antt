-- Small texts, assembled by the definition; the bytes are those that GNU as gives for the same instructions in its own spelling.
use Rattle.std.proofs.Common.{◌≡◌, ℕ, List, [], ◌∷◌, refl, Option, Some, None, codes, Result, Ok, Err, pos, map}
use Rattle.cet_isa.specs.Canonical.{canonical}
use Rattle.cet_syntax.specs.Word.{word_of, unsized_word, sized_word}
use Rattle.cet_syntax.specs.Lines.{items_of, parts}
use Rattle.cet_elf.specs.declared.object.Object.{Object}
use Rattle.cet_elf.specs.declared.object.Section.{Section}
use Rattle.cet_elf.specs.declared.object.Symbol.{Symbol}
use Rattle.cet_elf.specs.declared.object.Rela.{Rela}
use Rattle.cet_asm.specs.declared.error.AsmKind.TheVariants as fault
use Rattle.cet_asm.specs.declared.error.AsmError.{AsmError}
use Rattle.cet_asm.specs.Assembled.{assembly}

second_line : assembly (codes "nop\nmov.2 rax, rbx") ≡ Err (record { line = 2; kind = fault.Word })
unfolding assembly items_of parts word_of unsized_word sized_word canonical
second_line = refl

sections_of : Result Object AsmError → List Section
sections_of (Ok o) = o.sections
sections_of (Err e) = []

symbols_of : Result Object AsmError → List Symbol
symbols_of (Ok o) = o.symbols
symbols_of (Err e) = []

first_bytes : List Section → List ℕ
first_bytes [] = []
first_bytes (s ∷ others) = s.bytes

first_relocations : List Section → List Rela
first_relocations [] = []
first_relocations (s ∷ others) = s.relocations

p_text : List ℕ
p_text = codes ".note ibt shstk; .global _start\n.func restorer; mov.8 rax, 15; syscall; .end\n.func onsig; endbr64; ret; .end\n.func callee; endbr64; ret; .end\n.func _start; action 10, @act; movabs.4 rax, @callee; call rax\nmovabs.4 rdi, 0; movabs.4 rax, 231; syscall; ud2; .end\n.section rodata\nact: .word @onsig; .word 0x04000000; .word @restorer; .word 0\n"

p_bytes : first_bytes (sections_of (assembly p_text)) ≡ 72 ∷ 199 ∷ 192 ∷ 15 ∷ 0 ∷ 0 ∷ 0 ∷ 15 ∷ 5 ∷ 243 ∷ 15 ∷ 30 ∷ 250 ∷ 195 ∷ 243 ∷ 15 ∷ 30 ∷ 250 ∷ 195 ∷ 191 ∷ 10 ∷ 0 ∷ 0 ∷ 0 ∷ 190 ∷ 0 ∷ 0 ∷ 0 ∷ 0 ∷ 186 ∷ 0 ∷ 0 ∷ 0 ∷ 0 ∷ 65 ∷ 186 ∷ 8 ∷ 0 ∷ 0 ∷ 0 ∷ 184 ∷ 13 ∷ 0 ∷ 0 ∷ 0 ∷ 15 ∷ 5 ∷ 184 ∷ 0 ∷ 0 ∷ 0 ∷ 0 ∷ 255 ∷ 208 ∷ 191 ∷ 0 ∷ 0 ∷ 0 ∷ 0 ∷ 184 ∷ 231 ∷ 0 ∷ 0 ∷ 0 ∷ 15 ∷ 5 ∷ 15 ∷ 11 ∷ []
unfolding assembly items_of parts word_of unsized_word sized_word canonical p_text sections_of first_bytes
p_bytes = refl

-- entry 0, restorer, onsig, callee, act, then the global _start
p_names : map (λ s. s.name) (symbols_of (assembly p_text)) ≡ [] ∷ codes "restorer" ∷ codes "onsig" ∷ codes "callee" ∷ codes "act" ∷ codes "_start" ∷ []
unfolding assembly items_of parts word_of unsized_word sized_word canonical p_text symbols_of
p_names = refl

p_values : map (λ s. s.value) (symbols_of (assembly p_text)) ≡ 0 ∷ 0 ∷ 9 ∷ 14 ∷ 0 ∷ 19 ∷ []
unfolding assembly items_of parts word_of unsized_word sized_word canonical p_text symbols_of
p_values = refl

p_sizes : map (λ s. s.size) (symbols_of (assembly p_text)) ≡ 0 ∷ 9 ∷ 5 ∷ 5 ∷ 0 ∷ 49 ∷ []
unfolding assembly items_of parts word_of unsized_word sized_word canonical p_text symbols_of
p_sizes = refl

p_relocations : first_relocations (sections_of (assembly p_text)) ≡ record { offset = 25; kind = 10; symbol = 4; addend = pos 0 } ∷ record { offset = 48; kind = 10; symbol = 3; addend = pos 0 } ∷ []
unfolding assembly items_of parts word_of unsized_word sized_word canonical p_text sections_of first_relocations
p_relocations = refl

sites_text : List ℕ
sites_text = codes ".func f; land 8, @l; release 8; throw; switch @a, @b+8; fibermake @a, @f; spawn f; read @a, 5; .end"

sites_bytes : first_bytes (sections_of (assembly sites_text)) ≡ 76 ∷ 137 ∷ 124 ∷ 36 ∷ 8 ∷ 243 ∷ 72 ∷ 15 ∷ 30 ∷ 200 ∷ 72 ∷ 137 ∷ 68 ∷ 36 ∷ 16 ∷ 184 ∷ 0 ∷ 0 ∷ 0 ∷ 0 ∷ 72 ∷ 137 ∷ 68 ∷ 36 ∷ 24 ∷ 72 ∷ 137 ∷ 100 ∷ 36 ∷ 32 ∷ 72 ∷ 137 ∷ 108 ∷ 36 ∷ 40 ∷ 76 ∷ 141 ∷ 124 ∷ 36 ∷ 8 ∷ 76 ∷ 139 ∷ 124 ∷ 36 ∷ 8 ∷ 73 ∷ 139 ∷ 79 ∷ 8 ∷ 243 ∷ 72 ∷ 15 ∷ 30 ∷ 200 ∷ 72 ∷ 41 ∷ 193 ∷ 72 ∷ 193 ∷ 233 ∷ 3 ∷ 184 ∷ 255 ∷ 0 ∷ 0 ∷ 0 ∷ 72 ∷ 57 ∷ 193 ∷ 72 ∷ 15 ∷ 66 ∷ 193 ∷ 243 ∷ 72 ∷ 15 ∷ 174 ∷ 232 ∷ 72 ∷ 41 ∷ 193 ∷ 15 ∷ 133 ∷ 230 ∷ 255 ∷ 255 ∷ 255 ∷ 73 ∷ 139 ∷ 87 ∷ 16 ∷ 73 ∷ 139 ∷ 111 ∷ 32 ∷ 73 ∷ 139 ∷ 103 ∷ 24 ∷ 77 ∷ 139 ∷ 63 ∷ 255 ∷ 226 ∷ 184 ∷ 0 ∷ 0 ∷ 0 ∷ 0 ∷ 72 ∷ 135 ∷ 4 ∷ 37 ∷ 0 ∷ 0 ∷ 0 ∷ 0 ∷ 72 ∷ 133 ∷ 192 ∷ 15 ∷ 132 ∷ 55 ∷ 0 ∷ 0 ∷ 0 ∷ 85 ∷ 65 ∷ 87 ∷ 185 ∷ 0 ∷ 0 ∷ 0 ∷ 0 ∷ 81 ∷ 243 ∷ 72 ∷ 15 ∷ 30 ∷ 201 ∷ 72 ∷ 131 ∷ 233 ∷ 8 ∷ 81 ∷ 72 ∷ 139 ∷ 8 ∷ 243 ∷ 15 ∷ 1 ∷ 41 ∷ 243 ∷ 15 ∷ 1 ∷ 234 ∷ 72 ∷ 137 ∷ 226 ∷ 72 ∷ 137 ∷ 196 ∷ 72 ∷ 137 ∷ 20 ∷ 37 ∷ 0 ∷ 0 ∷ 0 ∷ 0 ∷ 89 ∷ 89 ∷ 65 ∷ 95 ∷ 93 ∷ 255 ∷ 225 ∷ 243 ∷ 15 ∷ 30 ∷ 250 ∷ 191 ∷ 0 ∷ 0 ∷ 0 ∷ 0 ∷ 190 ∷ 0 ∷ 0 ∷ 1 ∷ 0 ∷ 186 ∷ 3 ∷ 0 ∷ 0 ∷ 0 ∷ 65 ∷ 186 ∷ 34 ∷ 0 ∷ 2 ∷ 0 ∷ 73 ∷ 199 ∷ 192 ∷ 255 ∷ 255 ∷ 255 ∷ 255 ∷ 65 ∷ 185 ∷ 0 ∷ 0 ∷ 0 ∷ 0 ∷ 184 ∷ 9 ∷ 0 ∷ 0 ∷ 0 ∷ 15 ∷ 5 ∷ 72 ∷ 133 ∷ 192 ∷ 15 ∷ 136 ∷ 78 ∷ 0 ∷ 0 ∷ 0 ∷ 76 ∷ 141 ∷ 128 ∷ 224 ∷ 255 ∷ 0 ∷ 0 ∷ 191 ∷ 0 ∷ 0 ∷ 0 ∷ 0 ∷ 190 ∷ 0 ∷ 0 ∷ 1 ∷ 0 ∷ 186 ∷ 1 ∷ 0 ∷ 0 ∷ 0 ∷ 184 ∷ 197 ∷ 1 ∷ 0 ∷ 0 ∷ 15 ∷ 5 ∷ 72 ∷ 133 ∷ 192 ∷ 15 ∷ 136 ∷ 40 ∷ 0 ∷ 0 ∷ 0 ∷ 72 ∷ 129 ∷ 192 ∷ 248 ∷ 255 ∷ 0 ∷ 0 ∷ 73 ∷ 137 ∷ 0 ∷ 185 ∷ 0 ∷ 0 ∷ 0 ∷ 0 ∷ 73 ∷ 137 ∷ 72 ∷ 8 ∷ 185 ∷ 0 ∷ 0 ∷ 0 ∷ 0 ∷ 73 ∷ 137 ∷ 72 ∷ 16 ∷ 73 ∷ 137 ∷ 72 ∷ 24 ∷ 76 ∷ 137 ∷ 4 ∷ 37 ∷ 0 ∷ 0 ∷ 0 ∷ 0 ∷ 191 ∷ 0 ∷ 0 ∷ 0 ∷ 0 ∷ 190 ∷ 0 ∷ 0 ∷ 1 ∷ 0 ∷ 186 ∷ 3 ∷ 0 ∷ 0 ∷ 0 ∷ 65 ∷ 186 ∷ 34 ∷ 0 ∷ 2 ∷ 0 ∷ 73 ∷ 199 ∷ 192 ∷ 255 ∷ 255 ∷ 255 ∷ 255 ∷ 65 ∷ 185 ∷ 0 ∷ 0 ∷ 0 ∷ 0 ∷ 184 ∷ 9 ∷ 0 ∷ 0 ∷ 0 ∷ 15 ∷ 5 ∷ 72 ∷ 133 ∷ 192 ∷ 15 ∷ 136 ∷ 61 ∷ 0 ∷ 0 ∷ 0 ∷ 72 ∷ 141 ∷ 176 ∷ 0 ∷ 0 ∷ 1 ∷ 0 ∷ 191 ∷ 0 ∷ 15 ∷ 5 ∷ 0 ∷ 186 ∷ 0 ∷ 0 ∷ 0 ∷ 0 ∷ 65 ∷ 186 ∷ 0 ∷ 0 ∷ 0 ∷ 0 ∷ 65 ∷ 184 ∷ 0 ∷ 0 ∷ 0 ∷ 0 ∷ 184 ∷ 56 ∷ 0 ∷ 0 ∷ 0 ∷ 15 ∷ 5 ∷ 72 ∷ 133 ∷ 192 ∷ 15 ∷ 133 ∷ 16 ∷ 0 ∷ 0 ∷ 0 ∷ 189 ∷ 0 ∷ 0 ∷ 0 ∷ 0 ∷ 65 ∷ 191 ∷ 0 ∷ 0 ∷ 0 ∷ 0 ∷ 233 ∷ 0 ∷ 0 ∷ 0 ∷ 0 ∷ 190 ∷ 0 ∷ 0 ∷ 0 ∷ 0 ∷ 186 ∷ 5 ∷ 0 ∷ 0 ∷ 0 ∷ 184 ∷ 0 ∷ 0 ∷ 0 ∷ 0 ∷ 15 ∷ 5 ∷ []
unfolding assembly items_of parts word_of unsized_word sized_word canonical sites_text sections_of first_bytes
sites_bytes = refl

fault_of : List ℕ → Option AsmError
fault_of text = read (assembly text) where
  read : Result Object AsmError → Option AsmError
  read (Ok o) = None
  read (Err e) = Some e

-- a short branch reaches 127 bytes on and 128 back
far_on : fault_of (codes "jmp.s a; .zero 127; a:") ≡ None
unfolding assembly items_of parts word_of unsized_word sized_word canonical fault_of
far_on = refl

too_far_on : fault_of (codes "nop\njmp.s a; .zero 128; a:") ≡ Some (record { line = 2; kind = fault.Range })
unfolding assembly items_of parts word_of unsized_word sized_word canonical fault_of
too_far_on = refl

far_back : fault_of (codes "a: .zero 126; jne.s a") ≡ None
unfolding assembly items_of parts word_of unsized_word sized_word canonical fault_of
far_back = refl

too_far_back : fault_of (codes "a: .zero 127; jne.s a") ≡ Some (record { line = 1; kind = fault.Range })
unfolding assembly items_of parts word_of unsized_word sized_word canonical fault_of
too_far_back = refl

other_section : fault_of (codes "jmp.s a\n.section data\na:") ≡ Some (record { line = 1; kind = fault.Label })
unfolding assembly items_of parts word_of unsized_word sized_word canonical fault_of
other_section = refl

-- an early fault goes before a late one on an earlier line
early_first : fault_of (codes ".func f\njmp.s nowhere\n.align 3") ≡ Some (record { line = 3; kind = fault.Range })
unfolding assembly items_of parts word_of unsized_word sized_word canonical fault_of
early_first = refl

open_function : fault_of (codes "nop\n.func f\njmp.s nowhere") ≡ Some (record { line = 2; kind = fault.Word })
unfolding assembly items_of parts word_of unsized_word sized_word canonical fault_of
open_function = refl

twice : fault_of (codes "a: nop; a: mov.1 rax, 500") ≡ Some (record { line = 1; kind = fault.Twice })
unfolding assembly items_of parts word_of unsized_word sized_word canonical fault_of
twice = refl

range_before_twice : fault_of (codes ".section bss\n.object a 1; .object a 18446744073709551616") ≡ Some (record { line = 2; kind = fault.Range })
unfolding assembly items_of parts word_of unsized_word sized_word canonical fault_of
range_before_twice = refl

huge_bss : fault_of (codes ".section bss; .zero 18446744073709551615; .zero 1") ≡ Some (record { line = 1; kind = fault.Range })
unfolding assembly items_of parts word_of unsized_word sized_word canonical fault_of
huge_bss = refl

table_behind : fault_of (codes ".section rodata; .off x, t; t:") ≡ Some (record { line = 1; kind = fault.Operand })
unfolding assembly items_of parts word_of unsized_word sized_word canonical fault_of
table_behind = refl

global_only : map (λ s. s.name) (symbols_of (assembly (codes ".global b; .global a; call c; b: nop; .word @d"))) ≡ [] ∷ codes "b" ∷ codes "c" ∷ codes "d" ∷ []
unfolding assembly items_of parts word_of unsized_word sized_word canonical symbols_of
global_only = refl
