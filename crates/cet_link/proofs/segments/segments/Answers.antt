use Rattle.std.proofs.Common.{◌∙◌, ◌++◌, ap, arith}
use Rattle.cet_link.specs.Linked.{segment}
use Rattle.cet_link.proofs.MeasureLemmas.{bounded, ordered}
use Rattle.cet_link.proofs.SegmentLemmas.{code_segment-is, read_segment-is, write_segment-is, three}
use Rattle.cet_link.proofs.segments.segments.Goals as goal

pub add-requires : goal.add-requires
add-requires c = let o = ordered c.args.inputs.now c.args.note.now in omega (arith, o.code, c.requires.frame.code_end)

pub class_bytes-requires-2-clause-start : goal.class_bytes-requires-2-clause-start
class_bytes-requires-2-clause-start c = let b = bounded c.args.inputs.now c.args.note.now c.requires.fit in omega (arith, b.read_start, c.requires.frame.read_start)

pub add-requires-2 : goal.add-requires-2
add-requires-2 c = let o = ordered c.args.inputs.now c.args.note.now in omega (arith, o.read, c.requires.frame.read_start, c.requires.frame.read_end)

pub class_bytes-requires-3-clause-start : goal.class_bytes-requires-3-clause-start
class_bytes-requires-3-clause-start c = let b = bounded c.args.inputs.now c.args.note.now c.requires.fit in omega (arith, b.write_start, c.requires.frame.write_start)

pub add-requires-3 : goal.add-requires-3
add-requires-3 c = let o = ordered c.args.inputs.now c.args.note.now in omega (arith, o.write, c.requires.frame.write_start, c.requires.frame.write_end)

pub returns : goal.returns
returns c =
    let inputs = c.args.inputs.now in
    let note = c.args.note.now in
    let f = c.args.frame.now in
    let is = c.requires.frame in
    let code = code_segment-is inputs note c.in_ok-code.code.items f.code_end is.code_end (c.in_ok-code.ensures note c.requires.tables) in
    let read = read_segment-is inputs note c.in_ok-read.read.items f.read_start f.read_end is.read_start is.read_end (c.in_ok-read.ensures note c.requires.tables) in
    let write = write_segment-is inputs note c.in_ok-write.write.items f.write_start f.write_end is.write_start is.write_end (c.in_ok-write.ensures note c.requires.tables) in
    three c.new-segments.result c.add.new.segments c.add-2.new.segments c.add-3.new.segments _ _ _ c.new-segments.ensures
    (c.in_ok-add.ensures ∙ ap (λ xs. c.new-segments.result ++ xs) (ap (segment 5 4198400 f.code_end) c.deref.ensures.value ∙ code))
    (c.in_ok-add-2.ensures ∙ ap (λ xs. c.add.new.segments ++ xs) (ap (segment 4 f.read_start f.read_end) c.deref-2.ensures.value ∙ read))
    (c.in_ok-add-3.ensures ∙ ap (λ xs. c.add-2.new.segments ++ xs) (ap (segment 6 f.write_start f.write_end) c.deref-3.ensures.value ∙ write))
