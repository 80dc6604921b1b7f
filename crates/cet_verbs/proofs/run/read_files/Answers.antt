use Rattle.std.proofs.Common.{◌≤◌, Option, subst, ◌∙◌, arith}
use Rattle.std.proofs.lemmas.Result.{err_from_is_err_and}
use Rattle.cet_base.specs.Files.{Contents}
use Rattle.cet_verbs.specs.Named.{word_of, run_of}
use Rattle.cet_verbs.specs.Runs.{HoldsOption}
use Rattle.cet_verbs.specs.Steps.{Read}
use Rattle.cet_verbs.specs.Refused.{IsAtStep, IsAtOption}
use Rattle.cet_verbs.proofs.RunSteps.{schedule_read_refused, input_refused, file_refused}
use Rattle.cet_verbs.proofs.run.read_files.Goals as goal

pub returns-in_err-schedule-clause-refused : goal.returns-in_err-schedule-clause-refused
returns-in_err-schedule-clause-refused g c =
    let p = err_from_is_err_and c.from_residual.result c.from_residual.ensures.1 in
    let q = c.args.request in
    rw (p.1, p.2)
    (schedule_read_refused (g.F.Files.contents c.args.files.now) (g.F.Files.faults c.args.files.now) (g.F.Files.faults c.read_option.new.files) q.raw (word_of q.schedule) (word_of q.input) q.limit q.file.now
    c.in_err-schedule.field-0.0 c.in_err-schedule.ensures.refused)

pub returns-in_err-input-clause-refused : goal.returns-in_err-input-clause-refused
returns-in_err-input-clause-refused g c =
    let p = err_from_is_err_and c.from_residual-in_err-input.result c.from_residual-in_err-input.ensures.1 in
    let q = c.args.request in
    let told = g.F.Files.contents c.args.files.now in
    let middle = g.F.Files.faults c.read_option.new.files in
    let after = g.F.Files.faults c.read_option-2.new.files in
    let refusal = c.in_err-input.field-0.0 in
    let refused : IsAtOption told middle after (word_of q.input) refusal =
    subst (λ (t : Option Contents). IsAtOption t middle after (word_of q.input) refusal) c.read_option.ensures.contents c.in_err-input.ensures.refused in
    rw (p.1, p.2)
    (input_refused told (g.F.Files.faults c.args.files.now) middle after q.raw (word_of q.schedule) (word_of q.input) q.limit q.file.now c.in_ok-schedule.schedule.items refusal
    c.in_ok-schedule.ensures.held c.read_option.ensures.faults refused)

pub returns-in_err-program-clause-refused : goal.returns-in_err-program-clause-refused
returns-in_err-program-clause-refused g c =
    let p = err_from_is_err_and c.from_residual-in_err-program.result c.from_residual-in_err-program.ensures.1 in
    let q = c.args.request in
    let command = run_of q in
    let told = g.F.Files.contents c.args.files.now in
    let before = g.F.Files.faults c.args.files.now in
    let middle = g.F.Files.faults c.read_option-2.new.files in
    let after = g.F.Files.faults c.read_file.new.files in
    let refusal = c.in_err-program.field-0.0 in
    let same = c.read_option-2.ensures.contents ∙ c.read_option.ensures.contents in
    let order : before ≤ middle = omega (arith, c.read_option.ensures.faults, c.read_option-2.ensures.faults) in
    let at : IsAtStep told middle after command (Read q.file.now) refusal =
    subst (λ (t : Option Contents). IsAtStep t middle after command (Read q.file.now) refusal) same (c.in_err-program.ensures.refused command) in
    let i_holds : HoldsOption told (word_of q.input) c.in_ok-input.input.items =
    subst (λ (t : Option Contents). HoldsOption t (word_of q.input) c.in_ok-input.input.items) c.read_option.ensures.contents c.in_ok-input.ensures.held in
    rw (p.1, p.2)
    (file_refused told before middle after q.raw (word_of q.schedule) (word_of q.input) q.limit q.file.now c.in_ok-schedule.schedule.items c.in_ok-input.input.items refusal
    c.in_ok-schedule.ensures.held i_holds order at)
