use Rattle.std.proofs.Common.{◌≡◌, ◌∷◌, [], subst}
use Rattle.cet_elf.specs.Written.{Part}
use Rattle.cet_exec.specs.declared.programs.ProgramHeader.{ProgramHeader}
use Rattle.cet_exec.specs.Written.{note_program, note_section}
use Rattle.cet_exec.specs.Layout.{Adds, end_of}
use Rattle.cet_exec.proofs.Layouts.{Adds-all}
use Rattle.cet_exec.proofs.segments.add_note.Goals as goal

pub returns : goal.returns
returns c =
    let old = c.args.layout.now in
    let one = c.put_note.new.layout in
    let two = c.add_program.new.self in
    let three = c.add.new.self in
    let note = c.args.note.now in
    let p = c.in_ok-program.program in
    let q = note_program note (end_of old) c.args.home in
    let is : p ≡ q = c.in_ok-program.ensures.program in
    let program : Adds one two [] (q ∷ []) [] = subst (λ r. Adds one two [] (r ∷ []) []) is c.in_ok-add_program.ensures.adds in
    let section : Adds two three [] [] (note_section note p ∷ []) =
    subst (λ (r : Part). Adds two three [] [] (record { part = r; place = p.offset } ∷ [])) c.note_fields-fields.ensures (c.in_ok-add.ensures note) in
    let last : Adds two three [] [] (note_section note q ∷ []) = subst (λ (r : ProgramHeader). Adds two three [] [] (note_section note r ∷ [])) is section in
    Adds-all old one two three _ _ _ c.in_ok-program.ensures.adds program last
