use Rattle.std.proofs.Common.{pos}
use Rattle.std.proofs.lemmas.Result.{err_from_is_err_and}
use Rattle.cet_elf.specs.declared.object.Rela.{Rela}
use Rattle.cet_link.specs.Faults.{overflow_fault}
use Rattle.cet_link.proofs.LoopLemmas.{flat_none_at, flat_first_at}
use Rattle.cet_link.proofs.overflow.check_section.Goals as goal

abbrev none_there : Rela
none_there = record { offset = 0; kind = 0; symbol = 0; addend = pos 0 }

pub loop-rela-preserved : goal.loop-rela-preserved
loop-rela-preserved c = λ inputs note tables section.
    flat_none_at (overflow_fault inputs note (record { input = c.args.input; number = c.args.number; section = section })) c.args.relocations.now c.loop-rela.rela-index none_there c.loop-rela-test.true
    (c.loop-rela.invariant inputs note tables section) (c.in_ok-check_relocation.ensures inputs note tables section)

pub returns-in_err-check_relocation : goal.returns-in_err-check_relocation
returns-in_err-check_relocation c = λ inputs note tables section.
    let p = err_from_is_err_and c.from_residual.result c.from_residual.ensures.1 in
    rw (p.1, p.2) (flat_first_at c.in_err-check_relocation.field-0.0 (overflow_fault inputs note (record { input = c.args.input; number = c.args.number; section = section })) c.args.relocations.now c.loop-rela.rela-index none_there
    c.loop-rela-test.true (c.loop-rela.invariant inputs note tables section) (c.in_err-check_relocation.ensures inputs note tables section))
