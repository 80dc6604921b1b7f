use Rattle.std.proofs.Common.{◌≡◌, ◌+◌, ◌++◌, ◌≤◌, List, [], drop, length, ap, sym, ◌∙◌, arith}
use Rattle.std.proofs.lemmas.List.{at_drop_all}
use Rattle.cet_syntax.specs.declared.statement.NoteWords.{NoteWords}
use Rattle.cet_asm.specs.Assembled.{note_words}
use Rattle.cet_asm.specs.Whole.{first_note}
use Rattle.cet_asm.proofs.Marked.{notes_more}
use Rattle.cet_asm.proofs.object.note_words.Goals as goal

pub loop-p-preserved : goal.loop-p-preserved
loop-p-preserved c =
    let placed = c.args.placed.now in
    let i = c.loop-p.p-index in
    c.loop-p.invariant
    ∙ (notes_more placed i c.p-item.result c.loop-p-test.true c.p-item.is ∙ ap (λ (w : List NoteWords). w ++ note_words (drop (i + 1) placed)) (sym c.in_default.ensures))

pub returns-in-Some : goal.returns-in-Some
returns-in-Some c =
    let placed = c.args.placed.now in
    let i = c.loop-p.p-index in
    sym (ap first_note (c.loop-p.invariant
    ∙ (notes_more placed i c.p-item.result c.loop-p-test.true c.p-item.is ∙ ap (λ (w : List NoteWords). w ++ note_words (drop (i + 1) placed)) (sym c.in-Some.ensures))))

pub returns : goal.returns
returns c =
    let all : length c.args.placed.now ≤ c.loop-p.p-index = omega arith in
    let none : note_words (drop c.loop-p.p-index c.args.placed.now) ≡ [] = at_drop_all note_words c.args.placed.now c.loop-p.p-index all in
    sym (ap first_note (c.loop-p.invariant ∙ none))
