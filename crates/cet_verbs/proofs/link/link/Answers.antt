use Rattle.std.proofs.Common.{ℕ, List, [], Option, Bor, refl, subst}
use Rattle.std.specs.Prelude.{◌≢◌, IfOk, IfErr}
use Rattle.std.proofs.lemmas.Result.{err_from_is_err_and}
use Rattle.cet_base.specs.Files.{Contents}
use Rattle.cet_base.specs.Sink.{Gains}
use Rattle.cet_elf.specs.declared.object.Object.{Object}
use Rattle.cet_link.specs.declared.error.LinkError.TheVariants as errors
use Rattle.cet_link.specs.Links.{IsLinked, IsLinkFault}
use Rattle.cet_verbs.specs.Command.{Command, Link}
use Rattle.cet_verbs.specs.Named.{names_of}
use Rattle.cet_verbs.specs.Links.{HoldObjects, fault_line}
use Rattle.cet_verbs.specs.Named.{link_of}
use Rattle.cet_verbs.specs.Steps.{Replace}
use Rattle.cet_verbs.specs.Refused.{Effects, IsAtStep, IsOfFiles, IsUntold}
use Rattle.cet_verbs.proofs.Reports.{gains_nothing}
use Rattle.cet_verbs.proofs.StepLemmas.{before_output}
use Rattle.cet_verbs.proofs.LinkSteps.{save_refused, tell_left, tell_left_refused, tell_reported, tell_refused}
use Rattle.cet_verbs.proofs.link.link.Goals as goal

pub returns-in_err-objects-clause-refused : goal.returns-in_err-objects-clause-refused
returns-in_err-objects-clause-refused g c =
    let p = err_from_is_err_and c.from_residual.result c.from_residual.ensures.1 in
    let q = c.args.request in
    let e : Effects = record {
      files = g.F.Files.contents c.args.files.now;
      plans = [];
      faults_before = g.F.Files.faults c.args.files.now;
      faults_after = g.F.Files.faults c.inputs.new.files;
      out_before = g.O.Sink.bytes c.args.out.now;
      out_after = g.O.Sink.bytes c.args.out.now;
      out_faults_before = g.O.Sink.faults c.args.out.now;
      out_faults_after = g.O.Sink.faults c.args.out.now;
    } in
    let refusal = c.in_err-objects.field-0.0 in
    let cause : IsOfFiles e.files e.faults_before e.faults_after (link_of q) refusal =
    subst (λ (ns : List (Bor (List ℕ))). IsOfFiles e.files e.faults_before e.faults_after (Link q.to.now q.start.now (names_of ns)) refusal) c.as_slice-names.ensures.value
    (c.in_err-objects.ensures.refused q.to.now q.start.now) in
    rw (p.1, p.2) (before_output e (link_of q) refusal (gains_nothing e.out_before) cause)

pub returns-in-Ok-clause-refused : goal.returns-in-Ok-clause-refused
returns-in-Ok-clause-refused g c =
    let q = c.args.request in
    let told = g.F.Files.contents c.args.files.now in
    let objects = c.in_ok-objects.objects.items in
    let exec = c.in-Ok.exec in
    let middle = g.F.Files.faults c.inputs.new.files in
    let e : Effects = record {
      files = told;
      plans = [];
      faults_before = g.F.Files.faults c.args.files.now;
      faults_after = g.F.Files.faults c.save.new.files;
      out_before = g.O.Sink.bytes c.args.out.now;
      out_after = g.O.Sink.bytes c.args.out.now;
      out_faults_before = g.O.Sink.faults c.args.out.now;
      out_faults_after = g.O.Sink.faults c.args.out.now;
    } in
    let holds : HoldObjects told (names_of q.files.items) objects =
    subst (λ (ns : List (Bor (List ℕ))). HoldObjects told (names_of ns) objects) c.as_slice-names.ensures.value c.in_ok-objects.ensures.objects in
    let linked : IsLinked objects q.start.now exec = subst (λ (os : List Object). IsLinked os q.start.now exec) c.deref.ensures.value c.in-Ok.ensures.linked in
    let at : IfErr c.save.result (λ refusal. (command : Command) → IsAtStep told middle e.faults_after command (Replace q.to.now) refusal) =
    subst (λ (t : Option Contents). IfErr c.save.result (λ refusal. (command : Command) → IsAtStep t middle e.faults_after command (Replace q.to.now) refusal)) c.inputs.ensures.contents c.save.ensures.refused in
    save_refused told q.to.now q.start.now (names_of q.files.items) objects holds c.save.result e middle exec refl refl c.inputs.ensures.faults linked at

pub returns-clause-left : goal.returns-clause-left
returns-clause-left g c =
    let q = c.args.request in
    let told = g.F.Files.contents c.args.files.now in
    let objects = c.in_ok-objects.objects.items in
    let holds : HoldObjects told (names_of q.files.items) objects =
    subst (λ (ns : List (Bor (List ℕ))). HoldObjects told (names_of ns) objects) c.as_slice-names.ensures.value c.in_ok-objects.ensures.objects in
    tell_left told q.to.now q.start.now (names_of q.files.items) objects holds c.refuse.result (g.F.Files.contents c.inputs.new.files) c.inputs.ensures.contents c.refuse.ensures.status

pub returns-clause-left_refused : goal.returns-clause-left_refused
returns-clause-left_refused g c =
    let q = c.args.request in
    let told = g.F.Files.contents c.args.files.now in
    let objects = c.in_ok-objects.objects.items in
    let holds : HoldObjects told (names_of q.files.items) objects =
    subst (λ (ns : List (Bor (List ℕ))). HoldObjects told (names_of ns) objects) c.as_slice-names.ensures.value c.in_ok-objects.ensures.objects in
    tell_left_refused told q.to.now q.start.now (names_of q.files.items) objects holds c.refuse.result (g.F.Files.contents c.inputs.new.files) c.inputs.ensures.contents

pub returns-clause-reported : goal.returns-clause-reported
returns-clause-reported g c =
    let q = c.args.request in
    let told = g.F.Files.contents c.args.files.now in
    let objects = c.in_ok-objects.objects.items in
    let fault = c.in-Err.fault in
    let old = g.O.Sink.bytes c.args.out.now in
    let new = g.O.Sink.bytes c.refuse.new.out in
    let holds : HoldObjects told (names_of q.files.items) objects =
    subst (λ (ns : List (Bor (List ℕ))). HoldObjects told (names_of ns) objects) c.as_slice-names.ensures.value c.in_ok-objects.ensures.objects in
    let is : fault ≢ errors.NoMemory → IsLinkFault objects q.start.now fault = λ known. subst (λ (os : List Object). IsLinkFault os q.start.now fault) c.deref.ensures.value (c.in-Err.ensures.fault known) in
    let gains : IfOk c.refuse.result (λ status. Gains old new (fault_line q.start.now (names_of q.files.items) objects fault)) =
    subst (λ (os : List Object). IfOk c.refuse.result (λ status. Gains old new (fault_line q.start.now (names_of q.files.items) os fault))) c.deref-in-Err.ensures.value
    (subst (λ (ns : List (Bor (List ℕ))). IfOk c.refuse.result (λ status. Gains old new (fault_line q.start.now (names_of ns) c.deref-in-Err.result.now fault))) c.as_slice-names.ensures.value c.refuse.ensures.told) in
    tell_reported told q.to.now q.start.now (names_of q.files.items) objects holds c.refuse.result old new fault is c.refuse.ensures.status c.refuse.ensures.of_link gains

pub returns-clause-refused : goal.returns-clause-refused
returns-clause-refused g c =
    let q = c.args.request in
    let told = g.F.Files.contents c.args.files.now in
    let objects = c.in_ok-objects.objects.items in
    let fault = c.in-Err.fault in
    let e : Effects = record {
      files = told;
      plans = [];
      faults_before = g.F.Files.faults c.args.files.now;
      faults_after = g.F.Files.faults c.inputs.new.files;
      out_before = g.O.Sink.bytes c.args.out.now;
      out_after = g.O.Sink.bytes c.refuse.new.out;
      out_faults_before = g.O.Sink.faults c.args.out.now;
      out_faults_after = g.O.Sink.faults c.refuse.new.out;
    } in
    let holds : HoldObjects told (names_of q.files.items) objects =
    subst (λ (ns : List (Bor (List ℕ))). HoldObjects told (names_of ns) objects) c.as_slice-names.ensures.value c.in_ok-objects.ensures.objects in
    let is : fault ≢ errors.NoMemory → IsLinkFault objects q.start.now fault = λ known. subst (λ (os : List Object). IsLinkFault os q.start.now fault) c.deref.ensures.value (c.in-Err.ensures.fault known) in
    let untold : IfErr c.refuse.result (IsUntold e.out_before e.out_after e.out_faults_before e.out_faults_after q.start.now (names_of q.files.items) objects fault) =
    subst (λ (os : List Object). IfErr c.refuse.result (IsUntold e.out_before e.out_after e.out_faults_before e.out_faults_after q.start.now (names_of q.files.items) os fault)) c.deref-in-Err.ensures.value
    (subst (λ (ns : List (Bor (List ℕ))). IfErr c.refuse.result (IsUntold e.out_before e.out_after e.out_faults_before e.out_faults_after q.start.now (names_of ns) c.deref-in-Err.result.now fault)) c.as_slice-names.ensures.value c.refuse.ensures.untold) in
    tell_refused told q.to.now q.start.now (names_of q.files.items) objects holds c.refuse.result e fault refl is untold
