use Rattle.std.proofs.Common.{[], map, refl}
use Rattle.cet_verbs.specs.Command.{CheckRaw, Asm, Dis, Notes}
use Rattle.cet_verbs.specs.Named.{names_of, link_of}
use Rattle.cet_verbs.specs.Refused.{Effects}
use Rattle.cet_verbs.proofs.Reports.{reports_nothing, on_ok, on_err}
use Rattle.cet_verbs.proofs.Refusals.{cause_by_any_plans}
use Rattle.cet.proofs.command.Command.run.Goals as goal

pub returns-in-Asm-clause-reported : goal.returns-in-Asm-clause-reported
returns-in-Asm-clause-reported g c =
    rw c.in-Asm.is
    (reports_nothing c.asm.result (g.F.Files.contents c.args.files.now) (map g.C.Chooser.plan c.args.choosers.items) (Asm c.in-Asm.to.now c.in-Asm.file.now) (g.O.Sink.bytes c.args.out.now) c.asm.ensures.reported)

pub returns-in-CheckRaw-clause-refused : goal.returns-in-CheckRaw-clause-refused
returns-in-CheckRaw-clause-refused g c =
    let e : Effects = record {
      files = g.F.Files.contents c.args.files.now;
      plans = map g.C.Chooser.plan c.args.choosers.items;
      faults_before = g.F.Files.faults c.args.files.now;
      faults_after = g.F.Files.faults c.check_raw.new.files;
      out_before = g.O.Sink.bytes c.args.out.now;
      out_after = g.O.Sink.bytes c.check_raw.new.out;
      out_faults_before = g.O.Sink.faults c.args.out.now;
      out_faults_after = g.O.Sink.faults c.check_raw.new.out;
    } in
    rw c.in-CheckRaw.is (cause_by_any_plans c.check_raw.result e [] (CheckRaw c.in-CheckRaw.file.now) tt c.check_raw.ensures.refused)

pub returns-in-Dis-clause-refused : goal.returns-in-Dis-clause-refused
returns-in-Dis-clause-refused g c =
    let e : Effects = record {
      files = g.F.Files.contents c.args.files.now;
      plans = map g.C.Chooser.plan c.args.choosers.items;
      faults_before = g.F.Files.faults c.args.files.now;
      faults_after = g.F.Files.faults c.dis.new.files;
      out_before = g.O.Sink.bytes c.args.out.now;
      out_after = g.O.Sink.bytes c.dis.new.out;
      out_faults_before = g.O.Sink.faults c.args.out.now;
      out_faults_after = g.O.Sink.faults c.dis.new.out;
    } in
    rw c.in-Dis.is (cause_by_any_plans c.dis.result e [] (Dis c.in-Dis.file.now) tt c.dis.ensures.refused)

pub returns-in-Notes-clause-refused : goal.returns-in-Notes-clause-refused
returns-in-Notes-clause-refused g c =
    let e : Effects = record {
      files = g.F.Files.contents c.args.files.now;
      plans = map g.C.Chooser.plan c.args.choosers.items;
      faults_before = g.F.Files.faults c.args.files.now;
      faults_after = g.F.Files.faults c.notes.new.files;
      out_before = g.O.Sink.bytes c.args.out.now;
      out_after = g.O.Sink.bytes c.notes.new.out;
      out_faults_before = g.O.Sink.faults c.args.out.now;
      out_faults_after = g.O.Sink.faults c.notes.new.out;
    } in
    rw c.in-Notes.is (cause_by_any_plans c.notes.result e [] (Notes (names_of c.in-Notes.names.items)) tt (rw c.deref.ensures.value at c.notes.ensures.refused))

pub returns-in-Link-clause-refused : goal.returns-in-Link-clause-refused
returns-in-Link-clause-refused g c =
    let e : Effects = record {
      files = g.F.Files.contents c.args.files.now;
      plans = map g.C.Chooser.plan c.args.choosers.items;
      faults_before = g.F.Files.faults c.args.files.now;
      faults_after = g.F.Files.faults c.link.new.files;
      out_before = g.O.Sink.bytes c.args.out.now;
      out_after = g.O.Sink.bytes c.link.new.out;
      out_faults_before = g.O.Sink.faults c.args.out.now;
      out_faults_after = g.O.Sink.faults c.link.new.out;
    } in
    rw c.in-Link.is (cause_by_any_plans c.link.result e [] (link_of c.in-Link.request) tt c.link.ensures.refused)

pub returns-in-Run-clause-refused : goal.returns-in-Run-clause-refused
returns-in-Run-clause-refused g c = rw c.in-Run.is c.run.ensures.refused

-- a command that runs nothing leaves the watchers
pub returns-in-CheckRaw-clause-watched : goal.returns-in-CheckRaw-clause-watched
returns-in-CheckRaw-clause-watched g c = rw c.in-CheckRaw.is (on_ok c.check_raw.result _ refl)

pub returns-in-CheckRaw-clause-watched_cut_off : goal.returns-in-CheckRaw-clause-watched_cut_off
returns-in-CheckRaw-clause-watched_cut_off g c = rw c.in-CheckRaw.is (on_err c.check_raw.result _ (λ refusal same. refl))

pub returns-in-CheckRaw-clause-watchers_stay : goal.returns-in-CheckRaw-clause-watchers_stay
returns-in-CheckRaw-clause-watchers_stay g c = on_err c.check_raw.result _ (λ refusal early. refl)

pub returns-in-Asm-clause-watched : goal.returns-in-Asm-clause-watched
returns-in-Asm-clause-watched g c = rw c.in-Asm.is (on_ok c.asm.result _ refl)

pub returns-in-Asm-clause-watched_cut_off : goal.returns-in-Asm-clause-watched_cut_off
returns-in-Asm-clause-watched_cut_off g c = rw c.in-Asm.is (on_err c.asm.result _ (λ refusal same. refl))

pub returns-in-Asm-clause-watchers_stay : goal.returns-in-Asm-clause-watchers_stay
returns-in-Asm-clause-watchers_stay g c = on_err c.asm.result _ (λ refusal early. refl)

pub returns-in-Dis-clause-watched : goal.returns-in-Dis-clause-watched
returns-in-Dis-clause-watched g c = rw c.in-Dis.is (on_ok c.dis.result _ refl)

pub returns-in-Dis-clause-watched_cut_off : goal.returns-in-Dis-clause-watched_cut_off
returns-in-Dis-clause-watched_cut_off g c = rw c.in-Dis.is (on_err c.dis.result _ (λ refusal same. refl))

pub returns-in-Dis-clause-watchers_stay : goal.returns-in-Dis-clause-watchers_stay
returns-in-Dis-clause-watchers_stay g c = on_err c.dis.result _ (λ refusal early. refl)

pub returns-in-Notes-clause-watched : goal.returns-in-Notes-clause-watched
returns-in-Notes-clause-watched g c = rw c.in-Notes.is (on_ok c.notes.result _ refl)

pub returns-in-Notes-clause-watched_cut_off : goal.returns-in-Notes-clause-watched_cut_off
returns-in-Notes-clause-watched_cut_off g c = rw c.in-Notes.is (on_err c.notes.result _ (λ refusal same. refl))

pub returns-in-Notes-clause-watchers_stay : goal.returns-in-Notes-clause-watchers_stay
returns-in-Notes-clause-watchers_stay g c = on_err c.notes.result _ (λ refusal early. refl)

pub returns-in-Link-clause-watched : goal.returns-in-Link-clause-watched
returns-in-Link-clause-watched g c = rw c.in-Link.is (on_ok c.link.result _ refl)

pub returns-in-Link-clause-watched_cut_off : goal.returns-in-Link-clause-watched_cut_off
returns-in-Link-clause-watched_cut_off g c = rw c.in-Link.is (on_err c.link.result _ (λ refusal same. refl))

pub returns-in-Link-clause-watchers_stay : goal.returns-in-Link-clause-watchers_stay
returns-in-Link-clause-watchers_stay g c = on_err c.link.result _ (λ refusal early. refl)

-- and what is run is no such command
pub returns-in-Run-clause-watchers_unused : goal.returns-in-Run-clause-watchers_unused
returns-in-Run-clause-watchers_unused g c = rw c.in-Run.is (λ none. absurd none)
