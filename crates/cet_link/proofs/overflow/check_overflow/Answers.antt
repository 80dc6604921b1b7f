use Rattle.std.proofs.Common.{ℕ, List, refl}
use Rattle.std.specs.List.{flat_map}
use Rattle.std.proofs.lemmas.Result.{err_from_is_err_and}
use Rattle.cet_link.specs.declared.error.LinkError.{LinkError}
use Rattle.cet_elf.specs.declared.object.Object.{Object}
use Rattle.cet_link.specs.Inputs.{Part}
use Rattle.cet_link.specs.Faults.{overflow_fault}
use Rattle.cet_link.proofs.OverflowLemmas.{parts-none, parts_none, parts_first, few_sections}
use Rattle.cet_link.proofs.overflow.check_overflow.Goals as goal

abbrev faults_of : List Object → List ℕ → Part → List LinkError
faults_of inputs note p = flat_map (overflow_fault inputs note p) p.section.relocations

pub check_sections-requires : goal.check_sections-requires
check_sections-requires c =
    rw c.as_slice.ensures (few_sections c.args.inputs.now c.loop-number.number c.index-inputs-number.result c.loop-number-test.true c.index-inputs-number.is c.requires.consistent)

pub loop-number-init : goal.loop-number-init
loop-number-init c = λ note tables. rw parts-none refl

pub loop-number-preserved : goal.loop-number-preserved
loop-number-preserved c = λ note tables.
    let inputs = c.args.inputs.now in
    let one = rw c.as_slice.ensures at (c.in_ok-check_sections.ensures inputs note tables) in
    parts_none (faults_of inputs note) inputs c.loop-number.number c.index-inputs-number.result c.loop-number-test.true c.index-inputs-number.is (c.loop-number.invariant note tables) one

pub returns-in_err-check_sections : goal.returns-in_err-check_sections
returns-in_err-check_sections c = λ note tables.
    let inputs = c.args.inputs.now in
    let p = err_from_is_err_and c.from_residual.result c.from_residual.ensures.1 in
    let one = rw c.as_slice.ensures at (c.in_err-check_sections.ensures inputs note tables) in
    rw (p.1, p.2) (parts_first c.in_err-check_sections.field-0.0 (faults_of inputs note) inputs c.loop-number.number c.index-inputs-number.result c.loop-number-test.true c.index-inputs-number.is (c.loop-number.invariant note tables) one)
