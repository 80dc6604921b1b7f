use Rattle.std.proofs.Common.{◌≤◌, ◌++◌, List, length, refl, ap, arith}
use Rattle.cet_elf.specs.declared.object.Rela.{Rela}
use Rattle.cet_asm.specs.declared.placed.Placed.{Placed}
use Rattle.cet_asm.specs.Assembled.{same_section}
use Rattle.cet_asm.specs.Tables.{number_at, targets_at}
use Rattle.cet_asm.specs.Whole.{relocations_of, relocations_by, number_by}
use Rattle.cet_asm.proofs.Growing.{grown, ended, flat_split}
use Rattle.cet_asm.proofs.section.relocations.Goals as goal

pub loop-p-init : goal.loop-p-init
loop-p-init c =
    let G : List Placed → List Rela = relocations_of (number_by (number_at c.args.numbers.now)) (targets_at c.args.targets.now) c.args.section in
    ap (λ (t : List Rela). t ++ G c.args.placed.now) c.new-list.ensures

pub loop-p-preserved : goal.loop-p-preserved
loop-p-preserved c =
    let G : List Placed → List Rela = relocations_of (number_by (number_at c.args.numbers.now)) (targets_at c.args.targets.now) c.args.section in
    grown G (flat_split (relocations_by (number_by (number_at c.args.numbers.now)) (targets_at c.args.targets.now)) (λ p. same_section p.spot.section c.args.section)) c.args.placed.now c.loop-p.p-index c.p-item.result c.loop-p.list c.push_within.new.out (G c.args.placed.now) c.loop-p-test.true c.p-item.is c.in_ok-push_within.ensures c.loop-p.invariant

pub returns : goal.returns
returns c =
    let G : List Placed → List Rela = relocations_of (number_by (number_at c.args.numbers.now)) (targets_at c.args.targets.now) c.args.section in
    let all : length c.args.placed.now ≤ c.loop-p.p-index = omega arith in
    ended G c.args.placed.now c.loop-p.p-index c.loop-p.list (G c.args.placed.now) refl all c.loop-p.invariant
