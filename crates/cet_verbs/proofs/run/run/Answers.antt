use Rattle.std.proofs.Common.{◌≡◌, true, false, refl, sym, ◌∙◌}
use Rattle.std.specs.Result.{is_err}
use Rattle.std.proofs.lemmas.Result.{err_from_is_err_and}
use Rattle.cet_base.specs.Faults.{Rose}
use Rattle.cet_base.specs.Sink.{Gains, GainsPart}
use Rattle.cet_run.specs.Text.{run_text}
use Rattle.cet_verbs.specs.Named.{run_of}
use Rattle.cet_verbs.specs.Runs.{run_status}
use Rattle.cet_verbs.proofs.Ran.{on_error, on_success, not_unwritten}
use Rattle.cet_verbs.proofs.run.run.Goals as goal

pub returns-then-is_err-clause-refused : goal.returns-then-is_err-clause-refused
returns-then-is_err-clause-refused g c =
    let r = c.write_run.result in
    let done = c.in_ok-done.done in
    let failed : is_err r ≡ true = sym c.is_err.ensures.value ∙ c.if-is_err.true in
    let rose = on_error (Rose (g.O.Sink.faults c.args.out.now) (g.O.Sink.faults c.write_run.new.out)) r failed c.write_run.ensures.failed in
    let part = on_error (GainsPart (g.O.Sink.bytes c.args.out.now) (g.O.Sink.bytes c.write_run.new.out) (run_text done)) r failed c.write_run.ensures.part in
    (rose, (run_status done.last, run_text done, part, (done, c.in_ok-done.ensures.run, refl, refl)))

pub returns-clause-watched : goal.returns-clause-watched
returns-clause-watched g c =
    let r = c.write_run.result in
    let done = c.in_ok-done.done in
    let succeeded : is_err r ≡ false = sym c.is_err.ensures.value ∙ c.if-is_err.false in
    record {
      report = done;
      is_run = c.in_ok-done.ensures.run;
      is_told = on_success (Gains (g.O.Sink.bytes c.args.out.now) (g.O.Sink.bytes c.write_run.new.out) (run_text done)) r succeeded c.write_run.ensures.taken;
      watched = c.in_ok-done.ensures.watched;
      untouched = c.in_ok-done.ensures.untouched;
    }

pub returns-then-is_err-clause-watched_cut_off : goal.returns-then-is_err-clause-watched_cut_off
returns-then-is_err-clause-watched_cut_off g c = λ unwritten.
    let r = c.write_run.result in
    let done = c.in_ok-done.done in
    let failed : is_err r ≡ true = sym c.is_err.ensures.value ∙ c.if-is_err.true in
    record {
      report = done;
      is_run = c.in_ok-done.ensures.run;
      is_told = on_error (GainsPart (g.O.Sink.bytes c.args.out.now) (g.O.Sink.bytes c.write_run.new.out) (run_text done)) r failed c.write_run.ensures.part;
      watched = c.in_ok-done.ensures.watched;
      untouched = c.in_ok-done.ensures.untouched;
    }

pub returns-in_err-done-clause-watched_cut_off : goal.returns-in_err-done-clause-watched_cut_off
returns-in_err-done-clause-watched_cut_off g c =
    let p = err_from_is_err_and c.from_residual.result c.from_residual.ensures.1 in
    rw (p.1, p.2)
    (λ unwritten. absurd (not_unwritten (g.F.Files.contents c.args.files.now) (g.F.Files.faults c.args.files.now) (g.F.Files.faults c.report.new.files) (run_of c.args.request) c.in_err-done.field-0.0 c.in_err-done.ensures.refused unwritten))

pub returns-in_err-done-clause-watchers_stay : goal.returns-in_err-done-clause-watchers_stay
returns-in_err-done-clause-watchers_stay g c =
    let p = err_from_is_err_and c.from_residual.result c.from_residual.ensures.1 in
    rw (p.1, p.2) c.in_err-done.ensures.watchers_stay
