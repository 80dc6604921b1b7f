use Rattle.std.proofs.Common.{◌≡◌, ◌∙◌, sym, List, None, ap, subst}
use Rattle.cet_elf.specs.declared.exec.ExecSymbol.{ExecSymbol}
use Rattle.cet_image.specs.Executable.{segments_of, AreFunctionsOf}
use Rattle.cet_image.specs.Faults.{spans_of, layout_error}
use Rattle.cet_image.proofs.LayoutLemmas.{regular_segments, regular_functions, layout_is_no_note}
use Rattle.cet_note.specs.declared.fault.NoteError.TheVariants.{NoMemory}
use Rattle.cet_image.proofs.executable.image_of.Goals as goal

pub invariant_of-result : goal.invariant_of-result
invariant_of-result c =
    let spans : c.in_ok-spans.spans ≡ spans_of c.args.exec.now.segments = c.in_ok-spans.ensures {u = tt} ∙ ap spans_of c.as_slice-2.ensures in
    let copies : c.in_ok-segments_of.field-0 ≡ segments_of c.args.exec.now.segments = c.in_ok-segments_of.ensures {u = tt} ∙ ap segments_of c.as_slice-5.ensures in
    let named : AreFunctionsOf c.args.exec.now.symbols c.in_ok-functions.functions = subst (λ (l : List ExecSymbol). AreFunctionsOf l c.in_ok-functions.functions) c.as_slice.ensures (c.in_ok-functions.ensures {u = tt}) in
    let none : layout_error c.in_ok-spans.spans c.in_ok-functions.functions ≡ None = cc in
    record {
      segments_regular = regular_segments c.args.exec.now.segments c.in_ok-spans.spans c.in_ok-functions.functions c.in_ok-segments_of.field-0 c.requires spans none copies;
      functions_regular = regular_functions c.args.exec.now.segments c.in_ok-spans.spans c.in_ok-functions.functions c.args.exec.now.symbols c.requires spans none named;
    }

pub returns-in-Some-clause-memory : goal.returns-in-Some-clause-memory
returns-in-Some-clause-memory c = layout_is_no_note c.as_slice-3.result.now c.as_slice-4.result.now c.in-Some.error NoMemory (sym c.layout_error.ensures ∙ c.in-Some.is)
