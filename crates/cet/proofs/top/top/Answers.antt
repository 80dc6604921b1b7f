use Rattle.std.proofs.Common.{ℕ, List, map, subst, sym, inr, arith}
use Rattle.cet_base.specs.Sink.{Gains}
use Rattle.cet_verbs.specs.Command.{Command, CheckRaw, Link, RunsNothing}
use Rattle.cet.specs.Command.{texts}
use Rattle.cet.specs.Named.{named}
use Rattle.cet_verbs.specs.Answer.{IsReport, LeavesWith}
use Rattle.cet_verbs.specs.Refused.{Effects}
use Rattle.cet.proofs.Asked.{asks_one}
use Rattle.cet_verbs.proofs.Reports.{report_is_answer, report_status}
use Rattle.cet.proofs.Certified.{accepted_report}
use Rattle.cet_verbs.proofs.Features.{link_claims}
use Rattle.cet_verbs.proofs.Refusals.{leaves_done, unread_told, unfit_told, refusal_is_answer, told_before_run, told_unwritten, told_no_report}
use Rattle.cet.proofs.top.top.Goals as goal

pub returns-in-Ok-run-clause-accepted : goal.returns-in-Ok-run-clause-accepted
returns-in-Ok-run-clause-accepted g c file asks done =
    let files = g.F.Files.contents c.args.files.now in
    let (text, gains, is_report) = c.in-Ok-run.ensures.reported in
    let same = asks_one (texts c.args.words.now) (named c.in-Ok.request) (CheckRaw file) c.in-Ok.ensures.found asks in
    let plans = map (λ b. (goal.Chooser-dyn g (b.vtable, b.value)).plan b.value) c.args.choosers.items in
    let here : IsReport files plans (CheckRaw file) 0 text = subst (λ (s : ℕ). IsReport files plans (CheckRaw file) s text) done (subst (λ (asked : Command). IsReport files plans asked c.in-Ok-run.status text) same is_report) in
    let certified = accepted_report c.soundness.ensures.loaded c.soundness.ensures.run files plans file text here in
    (subst (λ (t : List ℕ). Gains (g.O.Sink.bytes c.args.out.now) (g.O.Sink.bytes c.run.new.out) t) certified.0 gains, certified.1)

pub returns-in-Ok-run-clause-features : goal.returns-in-Ok-run-clause-features
returns-in-Ok-run-clause-features g c to start names asks done =
    let old = g.F.Files.contents c.args.files.now in
    let now = g.F.Files.contents c.run.new.files in
    let command = Link to start names in
    let same = asks_one (texts c.args.words.now) (named c.in-Ok.request) command c.in-Ok.ensures.found asks in
    let left : LeavesWith c.in-Ok-run.status old now command = subst (λ (asked : Command). LeavesWith c.in-Ok-run.status old now asked) same c.in-Ok-run.ensures.left in
    link_claims old now to start names (leaves_done old now command c.in-Ok-run.status left done)

pub returns-in-Ok-run-clause-complete : goal.returns-in-Ok-run-clause-complete
returns-in-Ok-run-clause-complete g c held command tells asks there files_stood out_stood err_stood =
    let (text, gains, is_report) = c.in-Ok-run.ensures.reported in
    let same = asks_one (texts c.args.words.now) (named c.in-Ok.request) command c.in-Ok.ensures.found asks in
    let plans = map (λ b. (goal.Chooser-dyn g (b.vtable, b.value)).plan b.value) c.args.choosers.items in
    inr (report_is_answer (g.F.Files.contents c.args.files.now) held plans (named c.in-Ok.request) command c.in-Ok-run.status _ _ _ text tells same gains is_report)

pub returns-in-Err-clause-unfit : goal.returns-in-Err-clause-unfit
returns-in-Err-clause-unfit g c six =
    let e : Effects = record {
      files = g.F.Files.contents c.args.files.now;
      plans = map (λ b. (goal.Chooser-dyn g (b.vtable, b.value)).plan b.value) c.args.choosers.items;
      faults_before = g.F.Files.faults c.args.files.now;
      faults_after = g.F.Files.faults c.run.new.files;
      out_before = g.O.Sink.bytes c.args.out.now;
      out_after = g.O.Sink.bytes c.run.new.out;
      out_faults_before = g.O.Sink.faults c.args.out.now;
      out_faults_after = g.O.Sink.faults c.run.new.out;
    } in
    let asked = named c.in-Ok.request in
    (asked, c.in-Ok.ensures.found, unfit_told e asked c.in-Err.refusal c.tell.result (g.E.Sink.bytes c.args.err.now) (g.E.Sink.bytes c.tell.new.err) (g.E.Sink.faults c.args.err.now) (g.E.Sink.faults c.tell.new.err) c.in-Err.ensures.refused c.tell.ensures.told six)

pub returns-in-Err-clause-unread : goal.returns-in-Err-clause-unread
returns-in-Err-clause-unread g c three =
    let e : Effects = record {
      files = g.F.Files.contents c.args.files.now;
      plans = map (λ b. (goal.Chooser-dyn g (b.vtable, b.value)).plan b.value) c.args.choosers.items;
      faults_before = g.F.Files.faults c.args.files.now;
      faults_after = g.F.Files.faults c.run.new.files;
      out_before = g.O.Sink.bytes c.args.out.now;
      out_after = g.O.Sink.bytes c.run.new.out;
      out_faults_before = g.O.Sink.faults c.args.out.now;
      out_faults_after = g.O.Sink.faults c.run.new.out;
    } in
    let asked = named c.in-Ok.request in
    (asked, c.in-Ok.ensures.found, unread_told e (g.F.Files.contents c.run.new.files) asked c.in-Err.refusal c.tell.result (g.E.Sink.bytes c.args.err.now) (g.E.Sink.bytes c.tell.new.err) (g.E.Sink.faults c.args.err.now) (g.E.Sink.faults c.tell.new.err) c.in-Err.ensures.refused c.in-Err.ensures.left_refused c.tell.ensures.told three)

pub returns-in-Err-clause-complete : goal.returns-in-Err-clause-complete
returns-in-Err-clause-complete g c held command tells asks there files_stood out_stood err_stood =
    let e : Effects = record {
      files = g.F.Files.contents c.args.files.now;
      plans = map (λ b. (goal.Chooser-dyn g (b.vtable, b.value)).plan b.value) c.args.choosers.items;
      faults_before = g.F.Files.faults c.args.files.now;
      faults_after = g.F.Files.faults c.run.new.files;
      out_before = g.O.Sink.bytes c.args.out.now;
      out_after = g.O.Sink.bytes c.run.new.out;
      out_faults_before = g.O.Sink.faults c.args.out.now;
      out_faults_after = g.O.Sink.faults c.run.new.out;
    } in
    let same = asks_one (texts c.args.words.now) (named c.in-Ok.request) command c.in-Ok.ensures.found asks in
    refusal_is_answer e held (named c.in-Ok.request) command c.in-Err.refusal c.tell.result (g.E.Sink.bytes c.args.err.now) (g.E.Sink.bytes c.tell.new.err) (g.E.Sink.faults c.args.err.now) (g.E.Sink.faults c.tell.new.err) tells same there files_stood out_stood err_stood c.in-Err.ensures.refused c.tell.ensures.told

-- ---- watchers

pub returns-in-Ok-run-clause-watched : goal.returns-in-Ok-run-clause-watched
returns-in-Ok-run-clause-watched g c done = (named c.in-Ok.request, c.in-Ok.ensures.found, c.in-Ok-run.ensures.watched)

pub returns-in-Ok-run-clause-watched_cut_off : goal.returns-in-Ok-run-clause-watched_cut_off
returns-in-Ok-run-clause-watched_cut_off g c five =
    let (text, gains, is_report) = c.in-Ok-run.ensures.reported in
    let plans = map (λ b. (goal.Chooser-dyn g (b.vtable, b.value)).plan b.value) c.args.choosers.items in
    let below = report_status (g.F.Files.contents c.args.files.now) plans (named c.in-Ok.request) c.in-Ok-run.status text is_report in
    absurd (omega (arith, below))

pub returns-in-Ok-run-clause-watchers_stay : goal.returns-in-Ok-run-clause-watchers_stay
returns-in-Ok-run-clause-watchers_stay g c refused no_memory written =
    let (text, gains, is_report) = c.in-Ok-run.ensures.reported in
    let plans = map (λ b. (goal.Chooser-dyn g (b.vtable, b.value)).plan b.value) c.args.choosers.items in
    let below = report_status (g.F.Files.contents c.args.files.now) plans (named c.in-Ok.request) c.in-Ok-run.status text is_report in
    absurd (omega (arith, below))

pub returns-in-Ok-run-clause-watchers_unused : goal.returns-in-Ok-run-clause-watchers_unused
returns-in-Ok-run-clause-watchers_unused g c command asks none =
    let same = asks_one (texts c.args.words.now) (named c.in-Ok.request) command c.in-Ok.ensures.found asks in
    c.run.ensures.watchers_unused (subst RunsNothing (sym same) none)

pub returns-in-Err-clause-watched : goal.returns-in-Err-clause-watched
returns-in-Err-clause-watched g c done =
    let above = told_no_report c.in-Err.refusal c.tell.result (g.E.Sink.bytes c.args.err.now) (g.E.Sink.bytes c.tell.new.err) (g.E.Sink.faults c.args.err.now) (g.E.Sink.faults c.tell.new.err) c.tell.ensures.told in
    absurd (omega (arith, above))

pub returns-in-Err-clause-watched_cut_off : goal.returns-in-Err-clause-watched_cut_off
returns-in-Err-clause-watched_cut_off g c five =
    (named c.in-Ok.request, c.in-Ok.ensures.found, c.in-Err.ensures.watched_cut_off (told_unwritten c.in-Err.refusal c.tell.result (g.E.Sink.bytes c.args.err.now) (g.E.Sink.bytes c.tell.new.err) (g.E.Sink.faults c.args.err.now) (g.E.Sink.faults c.tell.new.err) c.tell.ensures.told five))

pub returns-in-Err-clause-watchers_stay : goal.returns-in-Err-clause-watchers_stay
returns-in-Err-clause-watchers_stay g c refused no_memory written =
    c.in-Err.ensures.watchers_stay (told_before_run c.in-Err.refusal c.tell.result (g.E.Sink.bytes c.args.err.now) (g.E.Sink.bytes c.tell.new.err) (g.E.Sink.faults c.args.err.now) (g.E.Sink.faults c.tell.new.err) c.tell.ensures.told no_memory written)

pub returns-in-Err-clause-watchers_unused : goal.returns-in-Err-clause-watchers_unused
returns-in-Err-clause-watchers_unused g c command asks none =
    let same = asks_one (texts c.args.words.now) (named c.in-Ok.request) command c.in-Ok.ensures.found asks in
    c.run.ensures.watchers_unused (subst RunsNothing (sym same) none)
