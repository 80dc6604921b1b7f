use Rattle.cet_elf.specs.declared.object.Section.{Section}
use Rattle.cet_syntax.specs.declared.statement.SectionName.{SectionName}
use Rattle.cet_asm.specs.Placing.{size_in}
use Rattle.cet_asm.specs.Tables.{number_at, targets_at}
use Rattle.cet_asm.specs.Whole.{is_kept_in, section_by, number_by}
use Rattle.cet_asm.proofs.SectionList.{four}
use Rattle.cet_asm.proofs.object.sections.Goals as goal

pub returns : goal.returns
returns c =
    let l = c.args.layout in
    let make : SectionName → Section = λ name. section_by (number_by (number_at c.args.numbers.now)) (targets_at c.args.targets.now) c.args.placed.now name (size_in l.sizes name) in
    four (is_kept_in l.kept) make c.new-list.result c.push_section.new.list c.push_section-2.new.list c.push_section-3.new.list c.push_section-4.new.list c.new-list.ensures c.in_ok-push_section.ensures c.in_ok-push_section-2.ensures c.in_ok-push_section-3.ensures c.in_ok-push_section-4.ensures
