use Rattle.std.proofs.Common.{◌∙◌, ◌+◌, ap, rules}
use Rattle.std.proofs.lemmas.Int.{to_z-of_z}
use Rattle.std.specs.Int.{w64, w128}
use Rattle.std.specs.Int.RustNames.{FitsSigned}
use Rattle.cet_link.specs.Patched.{sum_of}
use Rattle.cet_link.specs.Laid.{cell}
use Rattle.cet_link.proofs.PatchLemmas.{relocated-is}
use Rattle.cet_link.proofs.patch.relocated.Goals as goal

pub returns : goal.returns
returns c = λ inputs note are section.
    let r = c.args.rela.now in
    let sum_fits : FitsSigned w128 c.sum_of.result = search rules in
    let addend_fits : FitsSigned w64 r.addend = search rules in
    to_z-of_z w128 c.sum_of.result sum_fits ∙ c.sum_of.ensures
    ∙ ap (λ a. sum_of r.kind c.cell-symbol.result a (c.cell-place.result + r.offset)) (to_z-of_z w64 r.addend addend_fits)
    ∙ relocated-is inputs note (record { input = c.args.input; number = c.args.number; section = section }) r c.cell-symbol.result c.cell-place.result
    (c.cell-symbol.ensures ∙ ap (λ rows. cell rows c.args.input r.symbol) c.deref.ensures.value ∙ are.valued c.args.input r.symbol)
    (c.cell-place.ensures ∙ ap (λ rows. cell rows c.args.input c.args.number) c.deref-2.ensures.value ∙ are.placed c.args.input c.args.number)
