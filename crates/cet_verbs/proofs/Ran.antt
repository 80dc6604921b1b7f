-- What a run answers, from what its steps do.
use Rattle.std.proofs.Common.{◌≡◌, ℕ, ◌≤◌, List, length, true, false, Option, Some, Result, Ok, Err, sym, ap, subst, ◌∙◌}
use Rattle.std.specs.Prelude.{OnOk, OnErr}
use Rattle.std.proofs.lemmas.List.{length-map}
use Rattle.std.specs.Result.{is_err}
use Rattle.cet_process.specs.declared.event.Event.{Event}
use Rattle.cet_process.specs.State.{State}
use Rattle.cet_process.specs.Run.{state_after}
use Rattle.cet_process.specs.Start.{start}
use Rattle.cet_process.specs.Chosen.{Plan}
use Rattle.cet_rules.specs.declared.image.Image.{Image}
use Rattle.cet_base.specs.Files.{Contents}
use Rattle.cet_run.specs.declared.report.Done.{Done}
use Rattle.cet_run.specs.declared.report.RunEnd.{RunEnd}
use Rattle.cet_run.specs.declared.report.Report.{Report}
use Rattle.cet_run.specs.Report.{done, last, report}
use Rattle.cet_run.specs.Run.{applied, BeginsWith, AreChosen, UsesGiven}
use Rattle.cet_verbs.specs.declared.refusal.Refusal.{Refusal}
use Rattle.cet_verbs.specs.declared.refusal.Refusal.TheVariants.{Unwritten}
use Rattle.cet_verbs.specs.Command.{Command}
use Rattle.cet_verbs.specs.Runs.{IsReportOf}
use Rattle.cet_verbs.specs.Refused.{IsOfFiles}

-- a report is that of a run where each of its parts is
pub is_report : (r : Report) (S : State) (events : List Event) (limit : ℕ) → r.events ≡ done S events → r.output ≡ (state_after S events).output
    → r.last ≡ last (state_after S events).end (length events) limit → r ≡ report S events limit
is_report r S events limit same_events same_output same_last =
    let end = state_after S events in
    ap (λ (e : List Done). let x : Report = record { events = e; output = r.output; last = r.last } in x) same_events
    ∙ (ap (λ (o : List ℕ). let x : Report = record { events = done S events; output = o; last = r.last } in x) same_output
    ∙ ap (λ (l : RunEnd). let x : Report = record { events = done S events; output = end.output; last = l } in x) same_last)

-- what a run of given events and choosers says of itself is that it is a report of them
pub is_report_of : (image : Image) (input : List ℕ) (S : State) (passed given : List Event) (plans : List (Option Plan)) (limit : ℕ) (r : Report) → start image input ≡ Some S → passed ≡ given
    → r.events ≡ done S (applied r.events) → r.output ≡ (state_after S (applied r.events)).output → r.last ≡ last (state_after S (applied r.events)).end (length r.events) limit
    → BeginsWith passed (applied r.events) → length r.events ≤ limit → UsesGiven S passed limit r.events → AreChosen S passed plans limit (applied r.events)
    → IsReportOf image input given plans limit r
is_report_of image input S passed given plans limit r starts same events output ends begins within used chosen =
    let all = applied r.events in
    let count : length all ≡ length r.events = length-map r.events (λ (d : Done). d.event) in
    record {
      started = S;
      starts = starts;
      reports = is_report r S all limit events output (subst (λ (n : ℕ). r.last ≡ last (state_after S all).end n limit) (sym count) ends);
      given_first = subst (λ (es : List Event). BeginsWith es all) same begins;
      within = within;
      used = subst (λ (es : List Event). UsesGiven S es limit r.events) same used;
      chosen = subst (λ (es : List Event). AreChosen S es plans limit all) same chosen;
    }

-- a refusal over the files is not that of the output
pub not_unwritten : (files : Option Contents) (before after : ℕ) (command : Command) (refusal : Refusal) → IsOfFiles files before after command refusal → refusal ≡ Unwritten → ⊥
not_unwritten files before after command refusal cause same = subst (λ (r : Refusal). IsOfFiles files before after command r) same cause

-- what holds after a success holds where there was one
pub on_success : {T E : Type 0} (P : Type 0) (r : Result T E) → is_err r ≡ false → OnOk r P → P
on_success P (Ok x) is holds = holds
on_success P (Err e) is holds = absurd cc

-- what holds after an error holds where there was one
pub on_error : {T E : Type 0} (P : Type 0) (r : Result T E) → is_err r ≡ true → OnErr r P → P
on_error P (Ok x) is holds = absurd cc
on_error P (Err e) is holds = holds
