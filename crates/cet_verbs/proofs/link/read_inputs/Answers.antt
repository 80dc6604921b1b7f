use Rattle.std.proofs.Common.{rules, ◌≡◌, ◌+◌, ◌<◌, ◌∷◌, ◌++◌, [], List, All, length, get_or, take, sym, subst, ◌∙◌, arith}
use Rattle.std.proofs.lemmas.List.Elements.{All-nil, All-cons, All-append}
use Rattle.std.proofs.lemmas.Result.{err_from_is_err_and}
use Rattle.cet_elf.specs.declared.object.Object.{Object}
use Rattle.cet_elf.specs.Consistent.{IsConsistent}
use Rattle.cet_elf.specs.ObjectFile.{IsObjectFile}
use Rattle.cet_verbs.specs.Named.{names_of}
use Rattle.cet_verbs.specs.Notes.{AllBoth, items_of}
use Rattle.cet_verbs.proofs.NameLemmas.{name_at, length-names_of}
use Rattle.cet_verbs.proofs.Pairs.{AllBoth-more, items_at, length-items_of}
use Rattle.cet_verbs.proofs.LinkSteps.{link_form_refused}
use Rattle.cet_verbs.proofs.StepLemmas.{meets_at}
use Rattle.cet_verbs.proofs.link.read_inputs.Goals as goal

pub returns-in_err-object-clause-refused : goal.returns-in_err-object-clause-refused
returns-in_err-object-clause-refused c =
    let p = err_from_is_err_and c.from_residual.result c.from_residual.ensures.1 in
    let names = c.args.names.now in
    let held = items_of c.args.held.now in
    let i = c.loop-i.i in
    let bytes = c.deref.result.now in
    let below : i < length (names_of names) = omega (arith, length-names_of names) in
    let within : i < length c.args.held.now = omega arith in
    let its : get_or held i bytes ≡ bytes = items_at c.args.held.now i c.index-held-i.result bytes within c.index-held-i.is ∙ sym c.deref.ensures.value in
    rw (p.1, p.2)
    (λ told before after to start holds.
    link_form_refused told before after to start (names_of names) held c.loop-i.objects.items i _ c.in_err-object.field-0.0 below (name_at names i _ _ c.loop-i-test.true) holds c.loop-i.invariant.read
    (c.in_err-object.ensures.refused told before after to start (names_of names)
    (meets_at told names held i _ bytes c.loop-i-test.true its holds)))

pub loop-i-preserved : goal.loop-i-preserved
loop-i-preserved c =
    let held = items_of c.args.held.now in
    let i = c.loop-i.i in
    let bytes = c.deref.result.now in
    let object = c.in_ok-object.object in
    let within : i < length c.args.held.now = omega arith in
    let below : i < length held = omega (arith, length-items_of c.args.held.now) in
    let its : get_or held i bytes ≡ bytes = items_at c.args.held.now i c.index-held-i.result bytes within c.index-held-i.is ∙ sym c.deref.ensures.value in
    let pushed : c.push.new.self.items ≡ c.loop-i.objects.items ++ object ∷ [] = search rules in
    record {
      read = subst (λ (os : List Object). AllBoth IsObjectFile (take (i + 1) held) os) (sym pushed)
          (AllBoth-more IsObjectFile held c.loop-i.objects.items i bytes object below (sym its) c.loop-i.invariant.read c.in_ok-object.ensures.object);
      consistent = subst (λ (os : List Object). All IsConsistent os) (sym pushed)
          (All-append IsConsistent c.loop-i.objects.items (object ∷ []) c.loop-i.invariant.consistent (All-cons IsConsistent object [] c.in_ok-object.ensures.consistent (All-nil IsConsistent)));
    }
