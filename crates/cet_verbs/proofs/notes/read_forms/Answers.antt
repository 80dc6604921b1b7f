use Rattle.std.proofs.Common.{rules, ◌≡◌, ◌+◌, ◌<◌, ◌∷◌, ◌++◌, [], List, length, get_or, take, sym, subst, ◌∙◌, arith}
use Rattle.std.proofs.lemmas.Result.{err_from_is_err_and}
use Rattle.cet_note.specs.Note.{Note}
use Rattle.cet_verbs.specs.Named.{names_of}
use Rattle.cet_verbs.specs.Notes.{IsFileNote, AllBoth, items_of}
use Rattle.cet_verbs.proofs.NameLemmas.{name_at, length-names_of}
use Rattle.cet_verbs.proofs.Pairs.{AllBoth-more, items_at, length-items_of}
use Rattle.cet_verbs.proofs.StepLemmas.{form_refused, meets_at}
use Rattle.cet_verbs.proofs.notes.read_forms.Goals as goal

pub returns-in_err-note-clause-refused : goal.returns-in_err-note-clause-refused
returns-in_err-note-clause-refused c =
    let p = err_from_is_err_and c.from_residual.result c.from_residual.ensures.1 in
    let names = c.args.names.now in
    let held = items_of c.args.held.now in
    let i = c.loop-i.i in
    let bytes = c.deref.result.now in
    let below : i < length (names_of names) = omega (arith, length-names_of names) in
    let within : i < length c.args.held.now = omega arith in
    let its : get_or held i bytes ≡ bytes = items_at c.args.held.now i c.index-held-i.result bytes within c.index-held-i.is ∙ sym c.deref.ensures.value in
    rw (p.1, p.2)
    (λ told before after holds.
    form_refused told before after (names_of names) held c.loop-i.notes.items i _ c.in_err-note.field-0.0 below (name_at names i _ _ c.loop-i-test.true) holds c.loop-i.invariant
    (c.in_err-note.ensures.refused told before after (names_of names)
    (meets_at told names held i _ bytes c.loop-i-test.true its holds)))

pub loop-i-preserved : goal.loop-i-preserved
loop-i-preserved c =
    let held = items_of c.args.held.now in
    let i = c.loop-i.i in
    let bytes = c.deref.result.now in
    let within : i < length c.args.held.now = omega arith in
    let below : i < length held = omega (arith, length-items_of c.args.held.now) in
    let its : get_or held i bytes ≡ bytes = items_at c.args.held.now i c.index-held-i.result bytes within c.index-held-i.is ∙ sym c.deref.ensures.value in
    let pushed : c.push.new.self.items ≡ c.loop-i.notes.items ++ c.in_ok-note.note ∷ [] = search rules in
    subst (λ (ns : List Note). AllBoth IsFileNote (take (i + 1) held) ns) (sym pushed)
    (AllBoth-more IsFileNote held c.loop-i.notes.items i bytes c.in_ok-note.note below (sym its) c.loop-i.invariant c.in_ok-note.ensures.note)
