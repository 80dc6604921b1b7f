-- The fields of an instruction that wait, as zeros among its bytes.
use Rattle.std.proofs.Common.{◌≡◌, ℕ, ◌-◌, Bool, true, false, cond, List, [], ◌∷◌, length, Option, Some, None, is_some, refl, ap, sym, ◌∙◌}
use Rattle.cet_isa.specs.declared.instruction.Insn.{Insn}
use Rattle.cet_syntax.specs.declared.template.Reference.{Reference}
use Rattle.cet_syntax.specs.declared.template.Template.{Template}
use Rattle.cet_asm.specs.declared.usage.Use.{Use}
use Rattle.cet_asm.specs.declared.placed.Around.{Around}
use Rattle.cet_asm.specs.Emitted.{code_of, constant_size, memory_operand, is_rip_relative, displacement_use, constant_use, template_uses, zeroed, resumption_use}
use Rattle.cet_asm.specs.Zeroed.{cut, cut_where}

offset_of : (rip : Bool) (one two : Use) (n : ℕ) → one.offset ≡ n → two.offset ≡ n → (cond rip one two).offset ≡ n
offset_of true one two n first second = first
offset_of false one two n first second = second

size_of : (rip : Bool) (one two : Use) (n : ℕ) → one.size ≡ n → two.size ≡ n → (cond rip one two).size ≡ n
size_of true one two n first second = first
size_of false one two n first second = second

displacement_offset : (value : Insn) (r : Reference) → (displacement_use value r).offset ≡ length (code_of value) - constant_size value - 4
displacement_offset value r = offset_of (is_rip_relative (memory_operand value)) _ _ (length (code_of value) - constant_size value - 4) refl refl

displacement_size : (value : Insn) (r : Reference) → (displacement_use value r).size ≡ 4
displacement_size value r = size_of (is_rip_relative (memory_operand value)) _ _ 4 refl refl

one_field : (bytes : List ℕ) (u : Use) (us : List Use) (offset size : ℕ) → u.offset ≡ offset → u.size ≡ size → zeroed bytes (u ∷ us) ≡ zeroed (cut offset size bytes) us
one_field bytes u us offset size where_it how_long = ap (λ (o : ℕ). zeroed (cut o u.size bytes) us) where_it ∙ ap (λ (s : ℕ). zeroed (cut offset s bytes) us) how_long

fields : (value : Insn) (memory immediate : Option Reference) (bytes : List ℕ) (c : ℕ) → c ≡ length (code_of value) - constant_size value
    → zeroed bytes (template_uses (record { insn = value; memory = memory; immediate = immediate })) ≡ cut_where (is_some immediate) c (constant_size value) (cut_where (is_some memory) (c - 4) 4 bytes)
fields value None None bytes c place = refl
fields value None (Some i) bytes c place = one_field bytes (constant_use value i) [] c (constant_size value) (sym place) refl
fields value (Some m) None bytes c place =
    one_field bytes (displacement_use value m) [] (c - 4) 4 (displacement_offset value m ∙ ap (λ (n : ℕ). n - 4) (sym place)) (displacement_size value m)
fields value (Some m) (Some i) bytes c place =
    one_field bytes (displacement_use value m) (constant_use value i ∷ []) (c - 4) 4 (displacement_offset value m ∙ ap (λ (n : ℕ). n - 4) (sym place)) (displacement_size value m)
    ∙ one_field (cut (c - 4) 4 bytes) (constant_use value i) [] c (constant_size value) (sym place) refl

pub template_zeroed : (t : Template) (bytes : List ℕ) (c : ℕ) → c ≡ length (code_of t.insn) - constant_size t.insn
    → zeroed bytes (template_uses t) ≡ cut_where (is_some t.immediate) c (constant_size t.insn) (cut_where (is_some t.memory) (c - 4) 4 bytes)
template_zeroed t bytes c place = fields t.insn t.memory t.immediate bytes c place

pub resumption_zeroed : (around : Option Around) (bytes : List ℕ) → zeroed bytes (resumption_use around 0) ≡ cut_where (is_some around) 1 4 bytes
resumption_zeroed None bytes = refl
resumption_zeroed (Some f) bytes = refl
