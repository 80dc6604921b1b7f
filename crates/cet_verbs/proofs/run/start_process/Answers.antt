use Rattle.std.proofs.Common.{◌≡◌, Some, inl, inr}
use Rattle.std.specs.Prelude.{◌≢◌}
use Rattle.cet_process.specs.declared.load_error.LoadError.TheVariants.{NoMemory}
use Rattle.cet_process.specs.Start.{load_error}
use Rattle.cet_rules.specs.declared.image.Image.{Image}
use Rattle.cet_verbs.specs.Runs.{IsProgram}
use Rattle.cet_verbs.proofs.Reports.{meets_more}
use Rattle.cet_verbs.proofs.run.start_process.Goals as goal

pub returns-in-Err-clause-refused : goal.returns-in-Err-clause-refused
returns-in-Err-clause-refused c = λ told before after raw schedule input limit holds.
    let fault = c.in-Err.fault in
    let image = c.args.image.now in
    c.no_load.ensures told before after raw schedule input limit
    (meets_more told c.args.name.now (λ held. IsProgram raw held image) (λ held. fault ≢ NoMemory → (image : Image) × IsProgram raw held image × (load_error image ≡ Some fault))
    (λ held is known. elim c.in-Err.ensures.refused [ inl same ↦ absurd (known same) | inr error ↦ (image, is, error) ]) holds)
