use Rattle.std.proofs.Common.{◌≡◌, ◌≤◌, Option, ℕ, List, length, ap, arith}
use Rattle.std.specs.Option.{option_or}
use Rattle.cet_syntax.specs.declared.statement.SectionName.{SectionName}
use Rattle.cet_asm.specs.Assembled.{targets_in}
use Rattle.cet_asm.specs.Tables.{targets_at}
use Rattle.cet_asm.proofs.Marked.{targets_more, targets_end}
use Rattle.cet_asm.proofs.targets.Targets.of.Goals as goal

pub loop-d-init : goal.loop-d-init
loop-d-init c = λ section name. ap (λ (o : Option ℕ). option_or o (targets_in c.args.defined.now section name)) (c.new-targets.ensures section name)

pub loop-d-preserved : goal.loop-d-preserved
loop-d-preserved c = λ section name.
    targets_more c.args.defined.now c.loop-d.d-index c.d-item.result section name c.as_bytes.result.now (targets_at c.loop-d.targets section name) (targets_at c.define.new.self section name) (targets_in c.args.defined.now section name) c.loop-d-test.true c.d-item.is c.as_bytes.ensures (c.in_ok-define.ensures section name) (c.loop-d.invariant section name)

pub returns : goal.returns
returns c =
    let all : length c.args.defined.now ≤ c.loop-d.d-index = omega arith in
    let each : (section : SectionName) (name : List ℕ) → targets_at c.loop-d.targets section name ≡ targets_in c.args.defined.now section name =
    λ section name. targets_end c.args.defined.now c.loop-d.d-index section name (targets_at c.loop-d.targets section name) (targets_in c.args.defined.now section name) all (c.loop-d.invariant section name) in
    λ i section name. each section name i
