use Rattle.std.proofs.Common.{◌≡◌, List, ℕ, Some, sym, subst}
use Rattle.std.specs.Prelude.{◌≢◌}
use Rattle.cet_elf.specs.declared.error.ElfError.TheVariants.{NoMemory}
use Rattle.cet_elf.specs.ObjectFile.{object_fault}
use Rattle.cet_verbs.specs.Command.{Link}
use Rattle.cet_verbs.specs.Unfit.{IsUnfitFor}
use Rattle.cet_verbs.specs.declared.refusal.Unfit.TheVariants.{NoObject}
use Rattle.cet_verbs.proofs.FirstFaults.{object_refused}
use Rattle.cet_verbs.proofs.Reports.{meets_more}
use Rattle.cet_verbs.proofs.link.read_input.Goals as goal

pub returns-in-Err-clause-refused : goal.returns-in-Err-clause-refused
returns-in-Err-clause-refused c = λ told before after to start names holds.
    let bytes = c.args.bytes.now in
    let fault = c.in-Err.fault in
    let command = Link to start names in
    c.no_object.ensures told before after command
    (meets_more told c.args.name.now (λ held. held ≡ bytes) (λ held. fault ≢ NoMemory → IsUnfitFor command (NoObject fault) held)
    (λ held same known. subst (λ (b : List ℕ). object_fault b ≡ Some fault) (sym same) (object_refused bytes fault c.in-Err.ensures.fault known)) holds)
