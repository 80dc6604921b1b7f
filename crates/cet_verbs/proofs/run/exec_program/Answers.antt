use Rattle.std.proofs.Common.{◌≡◌, List, ℕ, Some, refl, sym, subst}
use Rattle.std.specs.Prelude.{◌≢◌, false}
use Rattle.cet_elf.specs.declared.error.ElfError.TheVariants.{NoMemory}
use Rattle.cet_exec.specs.ExecFile.{exec_fault, IsExecFile}
use Rattle.cet_image.specs.declared.error.ImageError.TheVariants as images
use Rattle.cet_verbs.specs.Command.{Run}
use Rattle.cet_verbs.specs.Unfit.{IsUnfitFor}
use Rattle.cet_verbs.specs.declared.refusal.Unfit.TheVariants.{NoExec, NoImage}
use Rattle.cet_verbs.proofs.Executables.{exec_fits}
use Rattle.cet_verbs.proofs.FirstFaults.{exec_refused}
use Rattle.cet_verbs.proofs.Reports.{meets_more}
use Rattle.cet_verbs.proofs.run.exec_program.Goals as goal

pub returns-in-Err-clause-refused : goal.returns-in-Err-clause-refused
returns-in-Err-clause-refused c = λ told before after schedule input limit holds.
    let bytes = c.args.bytes.now in
    let fault = c.in-Err.fault in
    let command = Run false schedule input limit c.args.name.now in
    c.no_exec.ensures told before after command
    (meets_more told c.args.name.now (λ held. held ≡ bytes) (λ held. fault ≢ NoMemory → IsUnfitFor command (NoExec fault) held)
    (λ held same known. (refl, subst (λ (b : List ℕ). exec_fault b ≡ Some fault) (sym same) (exec_refused bytes fault c.in-Err.ensures.fault known))) holds)

pub image_of-requires : goal.image_of-requires
image_of-requires c = exec_fits c.args.bytes.now c.in-Ok.exec c.in-Ok.ensures.exec

pub returns-clause-refused : goal.returns-clause-refused
returns-clause-refused c = λ told before after schedule input limit holds.
    let exec = c.in-Ok.exec in
    let error = c.in-Err-image_of.error in
    let command = Run false schedule input limit c.args.name.now in
    c.no_image.ensures told before after command
    (meets_more told c.args.name.now (λ held. held ≡ c.args.bytes.now) (λ held. error ≢ images.NoMemory → IsUnfitFor command (NoImage error) held)
    (λ held same known. (exec, subst (λ (b : List ℕ). IsExecFile b exec) (sym same) c.in-Ok.ensures.exec, c.in-Err-image_of.ensures.fault known)) holds)
