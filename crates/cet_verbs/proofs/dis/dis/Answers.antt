use Rattle.std.proofs.Common.{◌≡◌, ℕ, List, [], refl, subst, sym}
use Rattle.std.proofs.lemmas.Result.{err_from_is_err_and}
use Rattle.cet_base.specs.Files.{FileMeets}
use Rattle.cet_verbs.specs.Command.{Dis}
use Rattle.cet_verbs.specs.Refused.{Effects}
use Rattle.cet_verbs.proofs.Reports.{gains_nothing}
use Rattle.cet_verbs.proofs.StepLemmas.{before_output, one_read_refused, one_form_refused}
use Rattle.cet_verbs.proofs.dis.dis.Goals as goal

pub returns-in_err-bytes-clause-refused : goal.returns-in_err-bytes-clause-refused
returns-in_err-bytes-clause-refused g c =
    let p = err_from_is_err_and c.from_residual.result c.from_residual.ensures.1 in
    let e : Effects = record {
      files = g.F.Files.contents c.args.files.now;
      plans = [];
      faults_before = g.F.Files.faults c.args.files.now;
      faults_after = g.F.Files.faults c.read_file.new.files;
      out_before = g.O.Sink.bytes c.args.out.now;
      out_after = g.O.Sink.bytes c.args.out.now;
      out_faults_before = g.O.Sink.faults c.args.out.now;
      out_faults_after = g.O.Sink.faults c.args.out.now;
    } in
    let command = Dis c.args.file.now in
    rw (p.1, p.2)
    (before_output e command c.in_err-bytes.field-0.0 (gains_nothing e.out_before)
    (one_read_refused e.files e.faults_before e.faults_after command c.args.file.now c.in_err-bytes.field-0.0 refl (c.in_err-bytes.ensures.refused command)))

pub returns-in_err-check_form-clause-refused : goal.returns-in_err-check_form-clause-refused
returns-in_err-check_form-clause-refused g c =
    let p = err_from_is_err_and c.from_residual-in_err-check_form.result c.from_residual-in_err-check_form.ensures.1 in
    let e : Effects = record {
      files = g.F.Files.contents c.args.files.now;
      plans = [];
      faults_before = g.F.Files.faults c.args.files.now;
      faults_after = g.F.Files.faults c.read_file.new.files;
      out_before = g.O.Sink.bytes c.args.out.now;
      out_after = g.O.Sink.bytes c.args.out.now;
      out_faults_before = g.O.Sink.faults c.args.out.now;
      out_faults_after = g.O.Sink.faults c.args.out.now;
    } in
    let command = Dis c.args.file.now in
    let name = c.args.file.now in
    let bytes = c.in_ok-bytes.bytes.items in
    let held : FileMeets e.files name (λ held. held ≡ c.deref.result.now) = subst (λ (b : List ℕ). FileMeets e.files name (λ held. held ≡ b)) (sym c.deref.ensures.value) c.in_ok-bytes.ensures.held.0 in
    rw (p.1, p.2)
    (before_output e command c.in_err-check_form.field-0.0 (gains_nothing e.out_before)
    (one_form_refused e.files e.faults_before e.faults_after command name bytes c.in_err-check_form.field-0.0 refl refl c.in_ok-bytes.ensures.held
    (c.in_err-check_form.ensures.refused e.files e.faults_before e.faults_after held)))
