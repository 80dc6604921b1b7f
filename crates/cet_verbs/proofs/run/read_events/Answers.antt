use Rattle.std.proofs.Common.{◌≡◌, List, ℕ, Err, sym, subst}
use Rattle.std.specs.Prelude.{◌≢◌}
use Rattle.cet_schedule.specs.declared.error.ScheduleError.TheVariants.{NoMemory}
use Rattle.cet_schedule.specs.Schedule.{schedule as events_of}
use Rattle.cet_verbs.specs.Command.{Run}
use Rattle.cet_verbs.specs.Unfit.{IsUnfitFor}
use Rattle.cet_verbs.specs.declared.refusal.Unfit.TheVariants.{NoSchedule}
use Rattle.cet_verbs.proofs.Reports.{meets_more}
use Rattle.cet_verbs.proofs.run.read_events.Goals as goal

pub returns-in-Err-clause-refused : goal.returns-in-Err-clause-refused
returns-in-Err-clause-refused c = λ told before after raw schedule input limit file holds.
    let fault = c.in-Err.fault in
    let command = Run raw schedule input limit file in
    c.no_schedule.ensures told before after command
    (meets_more told c.args.name.now (λ held. held ≡ c.args.text.now) (λ held. fault ≢ NoMemory → IsUnfitFor command (NoSchedule fault) held)
    (λ held same known. subst (λ (b : List ℕ). events_of b ≡ Err fault) (sym same) (c.in-Err.ensures.fault known)) holds)
