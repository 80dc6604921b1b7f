use Rattle.std.proofs.Common.{length, refl, sym, ap, ◌∙◌}
use Rattle.std.proofs.lemmas.Result.{err_from_is_err_and}
use Rattle.cet_elf.specs.ObjectFile.{IsObjectFile}
use Rattle.cet_verbs.specs.Command.{Link}
use Rattle.cet_verbs.specs.Named.{names_of}
use Rattle.cet_verbs.specs.Held.{HoldsBytes}
use Rattle.cet_verbs.specs.Notes.{AllBoth, items_of}
use Rattle.cet_verbs.proofs.NameLemmas.{length-names_of}
use Rattle.cet_verbs.proofs.Pairs.{AllBoth-length, length-items_of}
use Rattle.cet_verbs.proofs.LinkSteps.{hold_objects}
use Rattle.cet_verbs.proofs.link.inputs.Goals as goal

pub returns-in_err-held-clause-refused : goal.returns-in_err-held-clause-refused
returns-in_err-held-clause-refused g c =
    let p = err_from_is_err_and c.from_residual.result c.from_residual.ensures.1 in
    rw (p.1, p.2) (λ to start. c.in_err-held.ensures.refused (Link to start (names_of c.args.names.now)) refl)

pub read_inputs-requires : goal.read_inputs-requires
read_inputs-requires g c =
    sym (length-names_of c.args.names.now) ∙ AllBoth-length _ _ _ c.in_ok-held.ensures.held ∙ length-items_of c.in_ok-held.held.items ∙ sym (ap length c.deref.ensures.value)

pub returns-clause-objects : goal.returns-clause-objects
returns-clause-objects g c =
    let told = g.F.Files.contents c.args.files.now in
    let held = items_of c.in_ok-held.held.items in
    let each : AllBoth IsObjectFile held c.in_ok-objects.objects.items = rw c.deref.ensures.value at c.in_ok-objects.ensures.objects in
    hold_objects told (names_of c.args.names.now) held c.in_ok-objects.objects.items c.in_ok-held.ensures.held each

pub returns-in_err-objects-clause-refused : goal.returns-in_err-objects-clause-refused
returns-in_err-objects-clause-refused g c =
    let p = err_from_is_err_and c.from_residual-in_err-objects.result c.from_residual-in_err-objects.ensures.1 in
    let told = g.F.Files.contents c.args.files.now in
    let names = names_of c.args.names.now in
    let holds : AllBoth (HoldsBytes told) names (items_of c.deref.result.now) = rw c.deref.ensures.value c.in_ok-held.ensures.held in
    rw (p.1, p.2) (λ to start. c.in_err-objects.ensures.refused told (g.F.Files.faults c.args.files.now) (g.F.Files.faults c.read_files.new.files) to start holds)
