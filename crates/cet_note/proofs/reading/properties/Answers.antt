use Rattle.std.proofs.Common.{◌≡◌, ◌+◌, ◌++◌, [], None, Some, Ok, sym, subst, ◌∙◌, arith}
use Rattle.std.proofs.lemmas.Result.{err_from_is_err_and}
use Rattle.std.proofs.lemmas.List.{append-nil}
use Rattle.cet_note.specs.Fault.{Entry, Fails, properties_in, next_at, with_word}
use Rattle.cet_note.proofs.Steps.{IsRead-from_ok, word_is_typed, Below-above}
use Rattle.cet_note.proofs.Loop.{HasRead, HasRead-fails, HasRead-ends, HasRead-more, insert_entry-next}
use Rattle.cet_note.proofs.reading.properties.Goals as goal
use Rattle.cet_note.proofs.reading.properties.Goals.{in-Some+in_ok-set, in_default}

pub returns-in_err-entry : goal.returns-in_err-entry
returns-in_err-entry c =
    let p = err_from_is_err_and c.from_residual.result c.from_residual.ensures.1 in
    let fault = c.in_err-entry.field-0.0 in
    let h = c.loop-at.invariant in
    let fails = HasRead-fails c.args.bytes.now c.args.size (16 + c.from-end.result) c.loop-at.props c.loop-at.last c.loop-at.at fault h c.loop-at-test.true c.in_err-entry.ensures in
    rw (p.1, p.2) (subst (λ n. Fails fault (properties_in c.args.size c.args.bytes.now n None 16)) h.end_is fails)

pub set-requires : goal.set-requires
set-requires c =
    let e = c.in_ok-entry.entry in
    let entry : Entry = record { kind = e.kind; size = e.size; word = e.word } in
    let end = 16 + c.from-end.result in
    word_is_typed c.args.bytes.now end c.loop-at.last c.loop-at.at entry c.in-Some.bits (IsRead-from_ok c.args.bytes.now end c.loop-at.last c.loop-at.at entry c.in_ok-entry.ensures) c.in-Some.is

pub loop-at-preserved : goal.loop-at-preserved
loop-at-preserved c =
    let e = c.in_ok-entry.entry in
    let entry : Entry = record { kind = e.kind; size = e.size; word = e.word } in
    let end = 16 + c.from-end.result in
    let h = c.loop-at.invariant in
    let r = IsRead-from_ok c.args.bytes.now end c.loop-at.last c.loop-at.at entry c.in_ok-entry.ensures in
    let below = Below-above c.loop-at.last e.kind c.loop-at.at r.is_above in
    let more = HasRead-more c.args.bytes.now c.args.size end c.loop-at.props c.loop-at.last c.loop-at.at entry h c.loop-at-test.true c.in_ok-entry.ensures in
    let next : next_at c.loop-at.at e.size ≡ c.loop-at.at + ((8 + c.from-size.result) + c.padding.result) = rw (c.padding.ensures, c.from-size.ensures) (omega arith) in
    let props_is : c.loop-at.props ++ with_word e.kind e.word [] ≡ c.match-entry.props = elim c.match-entry.branch [
      | in-Some+in_ok-set w ↦ rw w.in-Some.is (sym (w.props-is ∙ w.in_ok-set.ensures.placed ∙ insert_entry-next c.loop-at.last c.loop-at.props e.kind w.in-Some.bits below h.up_to))
      | in_default w ↦ rw w.in_default.is (append-nil c.loop-at.props ∙ sym w.props-is)
    ] in
    subst (λ n. HasRead c.args.bytes.now c.args.size end c.match-entry.props (Some e.kind) n) next (subst (λ p. HasRead c.args.bytes.now c.args.size end p (Some e.kind) (next_at c.loop-at.at e.size)) props_is more)

pub returns : goal.returns
returns c =
    let h = c.loop-at.invariant in
    subst (λ n. properties_in c.args.size c.args.bytes.now n None 16 ≡ Ok c.loop-at.props) h.end_is
    (HasRead-ends c.args.bytes.now c.args.size (16 + c.from-end.result) c.loop-at.props c.loop-at.last c.loop-at.at h c.loop-at-test.false)
