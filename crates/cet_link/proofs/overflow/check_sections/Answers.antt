use Rattle.std.proofs.Common.{ℕ, List}
use Rattle.std.specs.List.{flat_map}
use Rattle.std.proofs.lemmas.Result.{err_from_is_err_and}
use Rattle.cet_link.specs.declared.error.LinkError.{LinkError}
use Rattle.cet_elf.specs.declared.object.Object.{Object}
use Rattle.cet_link.specs.Inputs.{Part}
use Rattle.cet_link.specs.Faults.{overflow_fault}
use Rattle.cet_link.proofs.OverflowLemmas.{sections_none, sections_first}
use Rattle.cet_link.proofs.overflow.check_sections.Goals as goal

abbrev faults_of : List Object → List ℕ → Part → List LinkError
faults_of inputs note p = flat_map (overflow_fault inputs note p) p.section.relocations

pub loop-number-preserved : goal.loop-number-preserved
loop-number-preserved c = λ inputs note tables.
    let s = c.index-sections-number.result in
    let one = rw c.as_slice.ensures at (c.in_ok-check_section.ensures inputs note tables s) in
    sections_none (faults_of inputs note) c.args.input c.args.sections.now c.loop-number.number s c.loop-number-test.true c.index-sections-number.is (c.loop-number.invariant inputs note tables) one

pub returns-in_err-check_section : goal.returns-in_err-check_section
returns-in_err-check_section c = λ inputs note tables.
    let s = c.index-sections-number.result in
    let p = err_from_is_err_and c.from_residual.result c.from_residual.ensures.1 in
    let one = rw c.as_slice.ensures at (c.in_err-check_section.ensures inputs note tables s) in
    rw (p.1, p.2) (sections_first c.in_err-check_section.field-0.0 (faults_of inputs note) c.args.input c.args.sections.now c.loop-number.number s c.loop-number-test.true c.index-sections-number.is
    (c.loop-number.invariant inputs note tables) one)
