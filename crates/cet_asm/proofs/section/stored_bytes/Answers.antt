use Rattle.std.proofs.Common.{◌≤◌, ◌++◌, ℕ, List, length, refl, ap, arith}
use Rattle.cet_asm.specs.declared.placed.Placed.{Placed}
use Rattle.cet_asm.specs.Assembled.{same_section, step_bytes}
use Rattle.cet_asm.specs.Tables.{targets_at}
use Rattle.cet_asm.specs.Whole.{bytes_of}
use Rattle.cet_asm.proofs.Growing.{grown, ended, flat_split}
use Rattle.cet_asm.proofs.section.stored_bytes.Goals as goal

pub loop-p-init : goal.loop-p-init
loop-p-init c =
    let G : List Placed → List ℕ = bytes_of (targets_at c.args.targets.now) c.args.section in
    ap (λ (t : List ℕ). t ++ G c.args.placed.now) c.new-bytes.ensures

pub loop-p-preserved : goal.loop-p-preserved
loop-p-preserved c =
    let G : List Placed → List ℕ = bytes_of (targets_at c.args.targets.now) c.args.section in
    grown G (flat_split (step_bytes (targets_at c.args.targets.now)) (λ p. same_section p.spot.section c.args.section)) c.args.placed.now c.loop-p.p-index c.p-item.result c.loop-p.bytes c.append_within.new.out (G c.args.placed.now) c.loop-p-test.true c.p-item.is c.in_ok-append_within.ensures c.loop-p.invariant

pub returns : goal.returns
returns c =
    let G : List Placed → List ℕ = bytes_of (targets_at c.args.targets.now) c.args.section in
    let all : length c.args.placed.now ≤ c.loop-p.p-index = omega arith in
    ended G c.args.placed.now c.loop-p.p-index c.loop-p.bytes (G c.args.placed.now) refl all c.loop-p.invariant
