use Rattle.std.proofs.Common.{sym, ap, ◌∙◌, true, refl, ◌≡◌, arith}
use Rattle.cet_elf.specs.declared.entries.SectionHeader.{SectionHeader}
use Rattle.cet_elf.specs.Header.{section_count}
use Rattle.cet_elf.specs.ObjectSections.{is_symbol_table}
use Rattle.cet_elf.specs.ObjectSymbols.{symbol_table}
use Rattle.cet_exec.proofs.SymbolTables.{first_below-first}
use Rattle.cet_exec.proofs.symbols.find_table.Goals as goal

pub returns-then-section-eq2 : goal.returns-then-section-eq2
unfolding symbol_table
returns-then-section-eq2 c =
    let kind = ap (λ (s : SectionHeader). s.kind) (sym c.section.ensures) ∙ c.if-section-eq2.true in
    let is : is_symbol_table c.args.bytes.now c.loop-i.i ≡ true = rw kind refl in
    sym (first_below-first (section_count c.args.bytes.now) c.loop-i.i (is_symbol_table c.args.bytes.now) (omega (arith, c.loop-i-test.true, c.section_count-i-end.ensures)) c.loop-i.invariant is)
