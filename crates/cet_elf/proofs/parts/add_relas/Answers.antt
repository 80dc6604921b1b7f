use Rattle.std.proofs.Common.{subst, All}
use Rattle.std.proofs.lemmas.List.Elements.{All-more}
use Rattle.cet_elf.specs.declared.object.Section.{Section}
use Rattle.cet_elf.specs.Regular.{RelaFits}
use Rattle.cet_elf.proofs.Layouts.{Adds-relas}
use Rattle.cet_elf.proofs.parts.add_relas.Goals as goal

pub loop-number-preserved : goal.loop-number-preserved
loop-number-preserved c =
    let xs = c.args.sections.now in
    let i = c.loop-number.number in
    let s = c.index-sections-number.result in
    let is = c.index-sections-number.is in
    let Fit : Section → Type 0 = λ t. All RelaFits t.relocations in
    record {
      parts = Adds-relas c.args.symtab _ _ _ xs i s c.loop-number-test.true is c.loop-number.invariant.parts c.in_ok-add_rela.ensures.parts;
      fit = All-more Fit xs i s c.loop-number-test.true c.loop-number.invariant.fit (subst Fit is c.in_ok-add_rela.ensures.fit);
    }
