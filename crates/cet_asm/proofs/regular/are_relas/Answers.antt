use Rattle.std.proofs.Common.{◌≤◌, length, take, sym, get_or, pos, arith, rules}
use Rattle.std.proofs.lemmas.List.{take_all}
use Rattle.std.proofs.lemmas.List.Elements.{All-more, All-same}
use Rattle.cet_elf.specs.declared.object.Rela.{Rela}
use Rattle.cet_elf.specs.Consistent.{IsConsistentRela}
use Rattle.cet_asm.proofs.regular.are_relas.Goals as goal

pub loop-rela-preserved : goal.loop-rela-preserved
loop-rela-preserved c =
    let d : Rela = record { offset = 0; kind = 0; symbol = 0; addend = pos 0 } in
    let here : IsConsistentRela c.args.symbols c.args.len (get_or c.args.relas.now c.loop-rela.rela-index d) = search rules in
    All-more (IsConsistentRela c.args.symbols c.args.len) c.args.relas.now c.loop-rela.rela-index d c.loop-rela-test.true c.loop-rela.invariant here

pub returns : goal.returns
returns c =
    let whole : length c.args.relas.now ≤ c.loop-rela.rela-index = omega arith in
    λ t. All-same (IsConsistentRela c.args.symbols c.args.len) c.args.relas.now (take c.loop-rela.rela-index c.args.relas.now) (sym (take_all c.loop-rela.rela-index c.args.relas.now whole)) c.loop-rela.invariant
