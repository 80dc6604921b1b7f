-- The bytes of the sections, as a function of the section.
use Rattle.std.proofs.Common.{◌≡◌, ℕ, ◌+◌, true, refl, sym, ◌∙◌, ap}
use Rattle.std.proofs.Math.Path.{fun_ext}
use Rattle.std.specs.Prelude.{if◌then◌else◌}
use Rattle.cet_syntax.specs.declared.statement.SectionName.{SectionName}
use Rattle.cet_syntax.specs.declared.statement.SectionName.TheVariants.{Text, Rodata, Data, Bss}
use Rattle.cet_asm.specs.declared.cursor.Sizes.{Sizes}
use Rattle.cet_syntax.specs.declared.statement.Directive.TheVariants as directive
use Rattle.cet_syntax.specs.declared.statement.Statement.{Statement}
use Rattle.cet_syntax.specs.declared.statement.Statement.TheVariants as statement
use Rattle.cet_asm.specs.declared.cursor.Cursor.{Cursor}
use Rattle.cet_asm.specs.Emitted.{size_of}
use Rattle.cet_asm.specs.Assembled.{State, same_section, grown, after_statement}
use Rattle.cet_asm.specs.Placing.{size_in, with_size, takes_bytes, state_of}

pub size_in-none : (sizes : Sizes) → sizes.text ≡ 0 → sizes.rodata ≡ 0 → sizes.data ≡ 0 → sizes.bss ≡ 0 → size_in sizes ≡ (λ section. 0)
size_in-none sizes a b c d = fun_ext by_section where
  by_section : (section : SectionName) → size_in sizes section ≡ 0
  by_section Text = a
  by_section Rodata = b
  by_section Data = c
  by_section Bss = d

-- one section with more bytes
pub size_in-with : (sizes : Sizes) (here : SectionName) (by : ℕ) → size_in (with_size sizes here (size_in sizes here + by)) ≡ (λ section. if same_section section here then size_in sizes section + by else size_in sizes section)
size_in-with sizes here by = fun_ext (by_section here) where
  by_section : (here section : SectionName) → size_in (with_size sizes here (size_in sizes here + by)) section ≡ (if same_section section here then size_in sizes section + by else size_in sizes section)
  by_section Text Text = refl
  by_section Text Rodata = refl
  by_section Text Data = refl
  by_section Text Bss = refl
  by_section Rodata Text = refl
  by_section Rodata Rodata = refl
  by_section Rodata Data = refl
  by_section Rodata Bss = refl
  by_section Data Text = refl
  by_section Data Rodata = refl
  by_section Data Data = refl
  by_section Data Bss = refl
  by_section Bss Text = refl
  by_section Bss Rodata = refl
  by_section Bss Data = refl
  by_section Bss Bss = refl

pub after-grown : (s : State) (st : Statement) → takes_bytes st ≡ true → after_statement s st ≡ grown s (size_of (s.sizes s.section) st)
after-grown s (statement.Directive (directive.Section name)) e = cc
after-grown s (statement.Directive (directive.Func name)) e = cc
after-grown s (statement.Directive directive.End) e = cc
after-grown s (statement.Directive d) e = refl
after-grown s (statement.Code c) e = refl
after-grown s (statement.Site t) e = refl

-- behind a statement that takes bytes
pub state_of-grown : (cursor : Cursor) (st : Statement) (end : ℕ) → takes_bytes st ≡ true → end ≡ size_in cursor.sizes cursor.section + size_of (size_in cursor.sizes cursor.section) st → state_of (record { section = cursor.section; sizes = with_size cursor.sizes cursor.section end; around = cursor.around }) ≡ after_statement (state_of cursor) st
state_of-grown cursor st end e ends =
    let made : (SectionName → ℕ) → State = λ f. record { section = cursor.section; sizes = f; around = cursor.around } in
    rw ends (ap made (size_in-with cursor.sizes cursor.section (size_of (size_in cursor.sizes cursor.section) st)) ∙ sym (after-grown (state_of cursor) st e))
