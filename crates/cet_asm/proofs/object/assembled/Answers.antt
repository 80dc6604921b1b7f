use Rattle.std.proofs.Common.{◌≡◌, ◌∙◌, map}
use Rattle.cet_asm.specs.Placing.{size_in}
use Rattle.cet_asm.specs.Tables.{number_at, targets_at}
use Rattle.cet_asm.specs.Assembled.{section_of, kept}
use Rattle.cet_asm.specs.Whole.{number_by}
use Rattle.cet_asm.proofs.SectionList.{number_kept, sections_made}
use Rattle.cet_asm.proofs.Made.{object_made}
use Rattle.cet_asm.proofs.object.assembled.Goals as goal

pub symbols-requires-clause-kept : goal.symbols-requires-clause-kept
symbols-requires-clause-kept c = number_kept c.args.placed.now c.kept_of-kept.result c.kept_of-kept.ensures

pub returns : goal.returns
returns c =
    let placed = c.args.placed.now in
    let kept_here = c.kept_of-kept.result in
    let made : c.in_ok-sections.sections ≡ map (section_of placed) (kept placed) =
    c.in_ok-sections.ensures
    ∙ sections_made placed kept_here (number_by (number_at c.in_ok-symbols.symbols.numbers)) (targets_at c.args.targets.now) (size_in c.args.sizes) c.kept_of-kept.ensures c.in_ok-symbols.ensures.numbers c.requires.targets c.requires.sizes in
    object_made placed c.in_ok-sections.sections c.in_ok-symbols.symbols.list c.in_ok-notes.notes made c.in_ok-symbols.ensures.list c.in_ok-notes.ensures
