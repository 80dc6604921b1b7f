use Rattle.std.proofs.Common.{◌≡◌, List, ℕ, map, Some, refl, sym, subst}
use Rattle.std.proofs.lemmas.Result.{err_from_is_err_and}
use Rattle.cet_base.specs.Files.{FileMeets}
use Rattle.cet_process.specs.Start.{start}
use Rattle.cet_verbs.specs.Named.{word_of}
use Rattle.cet_verbs.specs.Runs.{IsProgram, HoldsOption}
use Rattle.cet_verbs.proofs.Ran.{is_report_of}
use Rattle.cet_verbs.proofs.Reports.{meets_more, on_err}
use Rattle.cet_verbs.proofs.RunSteps.{schedule_refused, program_refused}
use Rattle.cet_verbs.proofs.run.report.Goals as goal

pub returns-in_err-events-clause-refused : goal.returns-in_err-events-clause-refused
returns-in_err-events-clause-refused g c =
    let p = err_from_is_err_and c.from_residual-in_err-events.result c.from_residual-in_err-events.ensures.1 in
    let q = c.args.request in
    let told = g.F.Files.contents c.args.files.now in
    let before = g.F.Files.faults c.args.files.now in
    let after = g.F.Files.faults c.read_files.new.files in
    let held = c.in_ok-held.held in
    let text = c.deref.result.now in
    let s_holds : HoldsOption told (word_of q.schedule) text = subst (λ (b : List ℕ). HoldsOption told (word_of q.schedule) b) (sym c.deref.ensures.value) c.in_ok-held.ensures.schedule in
    rw (p.1, p.2)
    (schedule_refused told before after q.raw (word_of q.schedule) (word_of q.input) q.limit q.file.now text held.input.items held.program.items c.in_err-events.field-0.0
    s_holds c.in_ok-held.ensures.input c.in_ok-held.ensures.program (c.in_err-events.ensures.refused told before after s_holds))

pub returns-in_err-image-clause-refused : goal.returns-in_err-image-clause-refused
returns-in_err-image-clause-refused g c =
    let p = err_from_is_err_and c.from_residual-in_err-image.result c.from_residual-in_err-image.ensures.1 in
    let q = c.args.request in
    let told = g.F.Files.contents c.args.files.now in
    let before = g.F.Files.faults c.args.files.now in
    let after = g.F.Files.faults c.read_files.new.files in
    let held = c.in_ok-held.held in
    let text = c.deref.result.now in
    let s_holds : HoldsOption told (word_of q.schedule) text = subst (λ (b : List ℕ). HoldsOption told (word_of q.schedule) b) (sym c.deref.ensures.value) c.in_ok-held.ensures.schedule in
    let holds : FileMeets told q.file.now (λ held. held ≡ c.deref-2.result.now) = subst (λ (b : List ℕ). FileMeets told q.file.now (λ held. held ≡ b)) (sym c.deref-2.ensures.value) c.in_ok-held.ensures.program.0 in
    rw (p.1, p.2)
    (program_refused told before after q.raw (word_of q.schedule) (word_of q.input) q.limit q.file.now text held.input.items held.program.items c.in_ok-events.events c.in_err-image.field-0.0
    s_holds c.in_ok-held.ensures.input c.in_ok-held.ensures.program (c.in_ok-events.ensures.events told s_holds)
    (c.in_err-image.ensures.refused told before after (word_of q.schedule) (word_of q.input) q.limit holds))

pub returns-in_err-process-clause-refused : goal.returns-in_err-process-clause-refused
returns-in_err-process-clause-refused g c =
    let p = err_from_is_err_and c.from_residual-in_err-process.result c.from_residual-in_err-process.ensures.1 in
    let q = c.args.request in
    let told = g.F.Files.contents c.args.files.now in
    let before = g.F.Files.faults c.args.files.now in
    let after = g.F.Files.faults c.read_files.new.files in
    let held = c.in_ok-held.held in
    let text = c.deref.result.now in
    let image = c.in_ok-image.image in
    let s_holds : HoldsOption told (word_of q.schedule) text = subst (λ (b : List ℕ). HoldsOption told (word_of q.schedule) b) (sym c.deref.ensures.value) c.in_ok-held.ensures.schedule in
    let is : IsProgram q.raw held.program.items image = subst (λ (b : List ℕ). IsProgram q.raw b image) c.deref-2.ensures.value c.in_ok-image.ensures.image in
    let holds : FileMeets told q.file.now (λ held. IsProgram q.raw held image) =
    meets_more told q.file.now (λ b. b ≡ held.program.items) (λ b. IsProgram q.raw b image) (λ b same. subst (λ (x : List ℕ). IsProgram q.raw x image) (sym same) is) c.in_ok-held.ensures.program.0 in
    rw (p.1, p.2)
    (program_refused told before after q.raw (word_of q.schedule) (word_of q.input) q.limit q.file.now text held.input.items held.program.items c.in_ok-events.events c.in_err-process.field-0.0
    s_holds c.in_ok-held.ensures.input c.in_ok-held.ensures.program (c.in_ok-events.ensures.events told s_holds)
    (c.in_err-process.ensures.refused told before after q.raw (word_of q.schedule) (word_of q.input) q.limit holds))

pub returns-in-Ok-clause-run : goal.returns-in-Ok-clause-run
returns-in-Ok-clause-run g c =
    let q = c.args.request in
    let told = g.F.Files.contents c.args.files.now in
    let held = c.in_ok-held.held in
    let text = c.deref.result.now in
    let image = c.in_ok-image.image in
    let process = c.in_ok-process.process in
    let events = c.in_ok-events.events in
    let done = c.in-Ok.ensures in
    let s_holds : HoldsOption told (word_of q.schedule) text = subst (λ (b : List ℕ). HoldsOption told (word_of q.schedule) b) (sym c.deref.ensures.value) c.in_ok-held.ensures.schedule in
    let starts : start image held.input.items ≡ Some process = subst (λ (b : List ℕ). start image b ≡ Some process) c.deref-3.ensures.value c.in_ok-process.ensures.started in
    record {
      program = held.program.items;
      image = image;
      input_bytes = held.input.items;
      events = events;
      holds_program = c.in_ok-held.ensures.program;
      is_program = subst (λ (b : List ℕ). IsProgram q.raw b image) c.deref-2.ensures.value c.in_ok-image.ensures.image;
      holds_input = c.in_ok-held.ensures.input;
      holds_events = c.in_ok-events.ensures.events told s_holds;
      is_report =
          is_report_of image held.input.items process c.as_slice.result.now events (map g.C.Chooser.plan c.args.choosers.items) q.limit c.in-Ok.report starts c.as_slice.ensures
          done.events done.output done.last done.given_first done.within done.used done.chosen;
    }

-- the watchers were not lent before the run
pub returns-in_err-held-clause-watchers_stay : goal.returns-in_err-held-clause-watchers_stay
returns-in_err-held-clause-watchers_stay g c = on_err c.from_residual.result _ (λ refusal early. refl)

pub returns-in_err-events-clause-watchers_stay : goal.returns-in_err-events-clause-watchers_stay
returns-in_err-events-clause-watchers_stay g c = on_err c.from_residual-in_err-events.result _ (λ refusal early. refl)

pub returns-in_err-image-clause-watchers_stay : goal.returns-in_err-image-clause-watchers_stay
returns-in_err-image-clause-watchers_stay g c = on_err c.from_residual-in_err-image.result _ (λ refusal early. refl)

pub returns-in_err-process-clause-watchers_stay : goal.returns-in_err-process-clause-watchers_stay
returns-in_err-process-clause-watchers_stay g c = on_err c.from_residual-in_err-process.result _ (λ refusal early. refl)
