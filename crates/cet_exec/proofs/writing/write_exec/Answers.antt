use Rattle.std.proofs.Common.{◌≡◌, ◌++◌, ◌<◌, ◌^◌, List, All, length, ap, sym, subst, ◌∙◌, arith}
use Rattle.cet_exec.specs.declared.programs.ProgramHeader.{ProgramHeader}
use Rattle.cet_exec.specs.ExecFile.{IsExecFile}
use Rattle.cet_exec.specs.Regular.{SegmentFits, FitsTypes}
use Rattle.cet_exec.specs.Written.{loads, written}
use Rattle.cet_exec.proofs.ReadBack.{reads_back}
use Rattle.cet_exec.specs.Layout.{end_of}
use Rattle.cet_exec.proofs.Counts.{few-symbols}
use Rattle.cet_exec.proofs.WholeFile.{length-loads, whole_of, made-is, whole-few, whole-room}
use Rattle.cet_exec.proofs.writing.write_exec.Goals as goal

pub add_notes-requires : goal.add_notes-requires
add_notes-requires c =
    let start = c.in_ok-layout.layout in
    let xs = c.as_slice-segments.result.now in
    ap length c.in_ok-add_segments.ensures.adds.programs_added ∙ ap (λ (ps : List ProgramHeader). length (ps ++ loads (end_of start) xs)) c.in_ok-layout.ensures.programs
    ∙ length-loads (end_of start) xs

pub add_symbols-requires-clause-few_symbols : goal.add_symbols-requires-clause-few_symbols
add_symbols-requires-clause-few_symbols c = omega (arith, few-symbols c.args.exec.now.symbols c.requires.symbols, c.requires.few_name_bytes)

pub finish-requires-clause-few : goal.finish-requires-clause-few
finish-requires-clause-few c =
    let e = c.args.exec.now in
    let whole = whole_of e c.in_ok-layout.layout c.add_segments.new.layout c.add_notes.new.layout c.add_symbols.new.layout c.add_names.new.layout c.as_slice-segments.result.now c.program_count-programs.result
    c.as_slice-segments.ensures c.program_count-programs.ensures c.in_ok-layout.ensures c.in_ok-add_segments.ensures.adds c.in_ok-add_notes.ensures c.in_ok-add_symbols.ensures.adds c.in_ok-add_names.ensures in
    whole-few e c.add_names.new.layout whole c.requires.few_segments

pub finish-requires-clause-room : goal.finish-requires-clause-room
finish-requires-clause-room c =
    let e = c.args.exec.now in
    let whole = whole_of e c.in_ok-layout.layout c.add_segments.new.layout c.add_notes.new.layout c.add_symbols.new.layout c.add_names.new.layout c.as_slice-segments.result.now c.program_count-programs.result
    c.as_slice-segments.ensures c.program_count-programs.ensures c.in_ok-layout.ensures c.in_ok-add_segments.ensures.adds c.in_ok-add_notes.ensures c.in_ok-add_symbols.ensures.adds c.in_ok-add_names.ensures in
    whole-room e c.add_names.new.layout whole

pub returns-clause-bytes : goal.returns-clause-bytes
returns-clause-bytes c =
    let e = c.args.exec.now in
    let whole = whole_of e c.in_ok-layout.layout c.add_segments.new.layout c.add_notes.new.layout c.add_symbols.new.layout c.add_names.new.layout c.as_slice-segments.result.now c.program_count-programs.result
    c.as_slice-segments.ensures c.program_count-programs.ensures c.in_ok-layout.ensures c.in_ok-add_segments.ensures.adds c.in_ok-add_notes.ensures c.in_ok-add_symbols.ensures.adds c.in_ok-add_names.ensures in
    c.in_ok-file.ensures.bytes ∙ made-is e c.add_names.new.layout whole

pub returns-clause-read_back : goal.returns-clause-read_back
returns-clause-read_back c =
    let e = c.args.exec.now in
    let segments = subst (All SegmentFits) c.as_slice-segments.ensures c.in_ok-add_segments.ensures.fit in
    let fits : FitsTypes e = record { entry = c.finish.ensures.entry; segments = segments; symbols = c.in_ok-add_symbols.ensures.fit } in
    let file = c.in_ok-file.file in
    let is : file.items ≡ written e = returns-clause-bytes c in
    let short : length (written e) < 2 ^ 64 = omega (arith, file.ok.0, file.ok.1, file.small, ap length is) in
    subst (λ b. IsExecFile b e) (sym is) (reads_back e c.requires fits short)
