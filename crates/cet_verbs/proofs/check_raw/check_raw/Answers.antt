use Rattle.std.proofs.Common.{◌≡◌, List, [], length, ℕ, Some, refl, sym, subst, ap, ◌∙◌}
use Rattle.std.specs.Prelude.{◌≢◌, vec_len}
use Rattle.cet_base.specs.Files.{FileMeets}
use Rattle.cet_image.specs.declared.error.ImageError.TheVariants.{NoMemory}
use Rattle.cet_image.specs.ImageOf.{raw_error}
use Rattle.cet_verbs.specs.Command.{CheckRaw}
use Rattle.cet_verbs.specs.Held.{HoldsBytes}
use Rattle.cet_verbs.specs.Refused.{Effects}
use Rattle.cet_verbs.specs.Unfit.{IsUnfitFor}
use Rattle.cet_verbs.specs.declared.refusal.Unfit.TheVariants.{NoImage}
use Rattle.cet_verbs.proofs.Checked.{held_is_read, verdict_on_read, reported, unwritten}
use Rattle.cet_verbs.proofs.Reports.{meets_more, gains_nothing}
use Rattle.cet_verbs.proofs.StepLemmas.{before_output, one_form_refused}
use Rattle.cet_verbs.proofs.check_raw.check_raw.Goals as goal

pub returns-in-Err-clause-refused : goal.returns-in-Err-clause-refused
returns-in-Err-clause-refused g c =
    let e : Effects = record {
      files = g.F.Files.contents c.args.files.now;
      plans = [];
      faults_before = g.F.Files.faults c.args.files.now;
      faults_after = g.F.Files.faults c.read_all.new.files;
      out_before = g.O.Sink.bytes c.args.out.now;
      out_after = g.O.Sink.bytes c.args.out.now;
      out_faults_before = g.O.Sink.faults c.args.out.now;
      out_faults_after = g.O.Sink.faults c.args.out.now;
    } in
    let name = c.args.file.now in
    let command = CheckRaw name in
    let bytes = c.in-Ok.bytes.items in
    let error = c.in-Err.error in
    let held : FileMeets e.files name (λ held. held ≡ bytes) = held_is_read e.files name bytes c.in-Ok.ensures.whole in
    let same_length : length bytes ≡ vec_len c.in-Ok.bytes = ap length (sym c.deref.ensures.value) ∙ c.deref.ensures.len in
    let holds : HoldsBytes e.files name bytes = (held, rw same_length c.in-Ok.ensures.limit) in
    before_output e command c.no_image.result (gains_nothing e.out_before)
    (one_form_refused e.files e.faults_before e.faults_after command name bytes c.no_image.result refl refl holds
    (c.no_image.ensures e.files e.faults_before e.faults_after command
    (meets_more e.files name (λ held. held ≡ bytes) (λ held. error ≢ NoMemory → IsUnfitFor command (NoImage error) held)
    (λ held same known. subst (λ (b : List ℕ). raw_error b ≡ Some error) (c.deref.ensures.value ∙ sym same) (c.in-Err.ensures.fault known)) held)))

pub returns-in-Ok-certify-clause-reported : goal.returns-in-Ok-certify-clause-reported
returns-in-Ok-certify-clause-reported g c =
    reported (g.F.Files.contents c.args.files.now) c.args.file.now c.in-Ok.bytes.items c.in-Ok-certify.verdict c.report.result _ _
    (held_is_read (g.F.Files.contents c.args.files.now) c.args.file.now c.in-Ok.bytes.items c.in-Ok.ensures.whole)
    (verdict_on_read c.in-Ok.bytes.items c.deref.result.now c.in-Ok-raw_image.image c.in-Ok-certify.verdict c.deref.ensures.value c.in-Ok-raw_image.ensures.image c.in-Ok-certify.ensures)
    c.report.ensures.written

pub returns-in-Ok-certify-clause-refused : goal.returns-in-Ok-certify-clause-refused
returns-in-Ok-certify-clause-refused g c =
    let e : Effects = record {
      files = g.F.Files.contents c.args.files.now;
      plans = [];
      faults_before = g.F.Files.faults c.args.files.now;
      faults_after = g.F.Files.faults c.read_all.new.files;
      out_before = g.O.Sink.bytes c.args.out.now;
      out_after = g.O.Sink.bytes c.report.new.out;
      out_faults_before = g.O.Sink.faults c.args.out.now;
      out_faults_after = g.O.Sink.faults c.report.new.out;
    } in
    unwritten e c.args.file.now c.in-Ok.bytes.items c.in-Ok-certify.verdict c.report.result
    (held_is_read (g.F.Files.contents c.args.files.now) c.args.file.now c.in-Ok.bytes.items c.in-Ok.ensures.whole)
    (verdict_on_read c.in-Ok.bytes.items c.deref.result.now c.in-Ok-raw_image.image c.in-Ok-certify.verdict c.deref.ensures.value c.in-Ok-raw_image.ensures.image c.in-Ok-certify.ensures)
    c.report.ensures.unwritten
