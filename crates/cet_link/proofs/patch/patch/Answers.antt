use Rattle.std.proofs.Common.{◌≡◌, ◌∙◌, ◌-◌, sym, ap, rules, cond, get_or, length, pos}
use Rattle.std.proofs.lemmas.Int.{to_z-of_z}
use Rattle.std.proofs.lemmas.List.{take_all}
use Rattle.std.specs.Int.{w128, cast_signed, cast_unsigned}
use Rattle.std.specs.Int.RustNames.{FitsSigned}
use Rattle.cet_elf.specs.declared.object.Rela.{Rela}
use Rattle.cet_link.specs.Inputs.{Part}
use Rattle.cet_link.specs.Laid.{patched_by}
use Rattle.cet_link.specs.Patched.{covers, field, relocated}
use Rattle.cet_link.proofs.PatchLemmas.{field-is, patched_by-more, patched-all}
use Rattle.cet_link.proofs.patch.patch.Goals as goal

pub loop-rela-preserved : goal.loop-rela-preserved
loop-rela-preserved c = λ inputs note are section at.
    let rs = c.args.relocations.now in
    let i = c.loop-rela.rela-index in
    let d : Rela = record { offset = 0; kind = 0; symbol = 0; addend = pos 0 } in
    let r = get_or rs i d in
    let p : Part = record { input = c.args.input; number = c.args.number; section = section } in
    let fits : FitsSigned w128 c.relocated.result = search rules in
    let sum : cast_signed w128 (cast_unsigned w128 c.relocated.result) ≡ relocated inputs note p r = to_z-of_z w128 c.relocated.result fits ∙ c.relocated.ensures inputs note are section in
    c.patch_field.ensures at
    ∙ ap (λ zs. cond (covers at r) (get_or zs (at - r.offset) 0) (get_or c.loop-rela.bytes at 0)) (field-is inputs note p r (cast_signed w128 (cast_unsigned w128 c.relocated.result)) sum)
    ∙ ap (λ b. cond (covers at r) (get_or (field inputs note p r) (at - r.offset) 0) b) (c.loop-rela.invariant inputs note are section at)
    ∙ sym (patched_by-more inputs note p rs i d at (get_or c.args.bytes.now at 0) c.loop-rela-test.true)

pub returns : goal.returns
returns c = λ inputs note are section hr hb.
    let p : Part = record { input = c.args.input; number = c.args.number; section = section } in
    patched-all inputs note p c.loop-rela.bytes (c.loop-rela.auto.bytes ∙ ap length (sym hb))
    (λ at. c.loop-rela.invariant inputs note are section at
    ∙ ap (λ qs. patched_by inputs note p qs at (get_or c.args.bytes.now at 0)) (take_all c.loop-rela.rela-index c.args.relocations.now c.loop-rela-test.false ∙ sym hr)
    ∙ ap (λ bs. patched_by inputs note p section.relocations at (get_or bs at 0)) (sym hb))
