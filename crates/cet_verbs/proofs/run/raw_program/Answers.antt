use Rattle.std.proofs.Common.{◌≡◌, List, ℕ, Some, sym, subst}
use Rattle.std.specs.Prelude.{◌≢◌, true}
use Rattle.cet_image.specs.declared.error.ImageError.TheVariants as images
use Rattle.cet_image.specs.ImageOf.{raw_error}
use Rattle.cet_verbs.specs.Command.{Run}
use Rattle.cet_verbs.specs.Unfit.{IsUnfitFor}
use Rattle.cet_verbs.specs.declared.refusal.Unfit.TheVariants.{NoImage}
use Rattle.cet_verbs.proofs.Reports.{meets_more}
use Rattle.cet_verbs.proofs.run.raw_program.Goals as goal

pub returns-in-Err-clause-refused : goal.returns-in-Err-clause-refused
returns-in-Err-clause-refused c = λ told before after schedule input limit holds.
    let error = c.in-Err.error in
    let command = Run true schedule input limit c.args.name.now in
    c.no_image.ensures told before after command
    (meets_more told c.args.name.now (λ held. held ≡ c.args.bytes.now) (λ held. error ≢ images.NoMemory → IsUnfitFor command (NoImage error) held)
    (λ held same known. subst (λ (b : List ℕ). raw_error b ≡ Some error) (sym same) (c.in-Err.ensures.fault known)) holds)
