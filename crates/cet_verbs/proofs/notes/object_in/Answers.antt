use Rattle.std.proofs.Common.{◌≡◌, List, ℕ, sym, subst}
use Rattle.std.specs.Prelude.{◌≢◌}
use Rattle.cet_elf.specs.declared.error.ElfError.TheVariants.{NoMemory}
use Rattle.cet_verbs.specs.Command.{Notes}
use Rattle.cet_verbs.specs.Unfit.{IsUnfitFor}
use Rattle.cet_verbs.specs.declared.refusal.Unfit.TheVariants.{NoObject}
use Rattle.cet_verbs.proofs.FirstFaults.{object_refused}
use Rattle.cet_verbs.proofs.Reports.{meets_more}
use Rattle.cet_verbs.proofs.notes.object_in.Goals as goal

pub returns-in-Err : goal.returns-in-Err
returns-in-Err c = record {
  object = tt;
  refused = λ told before after names holds.
      let bytes = c.args.bytes.now in
      let fault = c.in-Err.fault in
      c.no_object.ensures told before after (Notes names)
      (meets_more told c.args.name.now (λ held. held ≡ bytes) (λ held. fault ≢ NoMemory → IsUnfitFor (Notes names) (NoObject fault) held)
      (λ held same known. subst (λ (b : List ℕ). IsUnfitFor (Notes names) (NoObject fault) b) (sym same) (c.requires, object_refused bytes fault c.in-Err.ensures.fault known)) holds);
}
