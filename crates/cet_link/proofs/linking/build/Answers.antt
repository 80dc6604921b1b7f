use Rattle.std.proofs.Common.{◌∙◌, ◌++◌, ℕ, List, Vec, Some, map, sym, ap, subst}
use Rattle.std.specs.Global.{Global}
use Rattle.cet_link.specs.Known.{met_of}
use Rattle.cet_link.specs.Laid.{ArePlaces}
use Rattle.cet_link.specs.Linked.{code_segment, read_segment, write_segment, exec_symbol, note_of}
use Rattle.cet_link.proofs.LinkLemmas.{linked-is, exec_symbols-is}
use Rattle.cet_link.proofs.ValueLemmas.{value_of_name-is}
use Rattle.cet_link.proofs.linking.build.Goals as goal

pub returns-clause-linked : goal.returns-clause-linked
returns-clause-linked c =
    let inputs = c.args.inputs.now in
    let entry = c.args.entry.now in
    let plan = c.in_ok-plan.plan in
    let is = c.in_ok-plan.ensures.plan in
    let note = plan.note.items in
    let Placed : List (Vec ℕ Global) → Type 0 = λ rows. ArePlaces inputs note rows in (
      note,
      is.merged,
      is.sound,
      linked-is inputs entry note c.own_value.result c.in_ok-segments.segments c.in_ok-symbols.symbols c.in_ok-notes.notes
          (c.own_value.ensures inputs note (subst Placed (sym c.deref-5.ensures.value) is.tables.placed)
          ∙ value_of_name-is inputs note entry (Some (met_of plan.resolved.entry)) (sym is.resolved.entry_point))
          (c.in_ok-segments.ensures ∙ ap (λ n. code_segment inputs n ++ (read_segment inputs n ++ write_segment inputs n)) c.deref.ensures.value)
          (c.in_ok-symbols.ensures inputs note (subst Placed (sym c.deref-2.ensures.value) is.tables.placed)
          ∙ ap (λ ms. map (exec_symbol inputs note) (map met_of ms)) c.deref-3.ensures.value ∙ ap (map (exec_symbol inputs note)) is.measured.kept ∙ exec_symbols-is inputs note)
          (c.in_ok-notes.ensures ∙ ap note_of c.deref-4.ensures.value),
    )
