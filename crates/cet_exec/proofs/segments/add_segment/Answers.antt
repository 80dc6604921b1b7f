use Rattle.std.proofs.Common.{◌≡◌, ◌++◌, ◌∷◌, [], replicate, subst, ◌∙◌, ap}
use Rattle.cet_elf.specs.Layout.{part_with}
use Rattle.cet_elf.specs.Written.{Part}
use Rattle.cet_exec.specs.Written.{gap, aligned, load, segment_name, segment_part}
use Rattle.cet_exec.specs.Layout.{Adds, end_of}
use Rattle.cet_exec.proofs.Layouts.{Adds-all}
use Rattle.cet_exec.proofs.segments.add_segment.Goals as goal

pub returns-clause-adds : goal.returns-clause-adds
returns-clause-adds c =
    let old = c.args.layout.now in
    let one = c.put.new.self in
    let two = c.add_program.new.self in
    let three = c.add.new.self in
    let s = c.args.segment.now in
    let place = aligned 4096 (end_of old) in
    let piece : Adds old one (replicate (gap 4096 (end_of old)) 0 ++ s.bytes) [] [] = rw c.as_slice.ensures at c.in_ok-place.ensures.adds in
    let is : c.in_ok-place.place ≡ place = c.in_ok-place.ensures.place in
    let header : c.load.result ≡ load s place = c.load.ensures ∙ ap (load s) is in
    let program : Adds one two [] (load s place ∷ []) [] = subst (λ p. Adds one two [] (p ∷ []) []) header c.in_ok-add_program.ensures.adds in
    let name = segment_name c.args.linked c.args.number s.flags in
    let fields = c.segment_fields-fields.result in
    let first_name : c.as_bytes.result.now ≡ name = c.as_bytes.ensures ∙ c.segment_name-name.ensures in
    let second_name : c.as_bytes-2.result.now ≡ name = c.as_bytes-2.ensures ∙ c.segment_name-name.ensures in
    let part : part_with name s.bytes fields ≡ segment_part name s = subst (λ n. part_with n s.bytes fields ≡ segment_part n s) first_name c.segment_fields-fields.ensures in
    let named : Adds two three [] [] (record { part = part_with name s.bytes fields; place = place } ∷ []) =
    subst (λ k. Adds two three [] [] (record { part = part_with name s.bytes fields; place = k } ∷ [])) is
    (subst (λ n. Adds two three [] [] (record { part = part_with n s.bytes fields; place = c.in_ok-place.place } ∷ [])) second_name (c.in_ok-add.ensures s.bytes)) in
    let section = subst (λ (p : Part). Adds two three [] [] (record { part = p; place = place } ∷ [])) part named in
    Adds-all old one two three _ _ _ piece program section

pub returns-clause-fits : goal.returns-clause-fits
returns-clause-fits c = rw c.load.ensures at c.add_program.ensures.fits
