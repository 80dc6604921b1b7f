use Rattle.std.proofs.Common.{subst, ◌∷◌, [], ◌<◌, ◌^◌}
use Rattle.std.proofs.lemmas.List.Elements.{All-more}
use Rattle.cet_elf.specs.declared.object.Section.{Section}
use Rattle.cet_elf.specs.Layout.{Adds}
use Rattle.cet_elf.specs.Written.{section_part}
use Rattle.cet_elf.proofs.Layouts.{Adds-map}
use Rattle.cet_elf.proofs.parts.add_sections.Goals as goal

pub loop-section-preserved : goal.loop-section-preserved
loop-section-preserved c =
    let xs = c.args.sections.now in
    let i = c.loop-section.section-index in
    let s = c.section-item.result in
    let is = c.section-item.is in
    let Fits : Section → Type 0 = λ t. t.size < 2 ^ 64 in
    record {
      parts = Adds-map section_part _ _ _ xs i s c.loop-section-test.true is c.loop-section.invariant.parts (subst (λ p. Adds c.loop-section.layout c.add.new.self (p ∷ [])) (rw (c.as_slice.ensures, c.as_slice-in-loop-section.ensures) c.section_fields-fields.ensures.part) c.in_ok-add.ensures);
      fit = All-more Fits xs i s c.loop-section-test.true c.loop-section.invariant.fit (subst Fits is c.section_fields-fields.ensures.fits);
    }
