use Rattle.std.proofs.Common.{◌-◌, ap, sym, ◌∙◌, arith}
use Rattle.cet_machine.specs.Memory.{holds}
use Rattle.cet_mem.proofs.Orders.{item_before}
use Rattle.cet_mem.proofs.Holders.{holder_at, none_holds}
use Rattle.cet_mem.proofs.blocks.holder.Goals as goal

pub returns-then-after-eq0 : goal.returns-then-after-eq0
returns-then-after-eq0 c =
    let found = c.count_up_to-after in
    none_holds c.args.blocks.now c.args.a c.args.n found.result c.requires.in_order c.requires.some found.ensures.bound found.ensures.split
    (λ k d last. absurd (omega (arith, c.if-after-eq0.true)))

pub returns-then-holds : goal.returns-then-holds
returns-then-holds c =
    holder_at c.args.blocks.now c.args.a c.args.n (c.count_up_to-after.result - 1) c.index-blocks-after.result c.requires.in_order c.requires.some (omega arith)
    c.index-blocks-after.is (sym c.holds.ensures ∙ c.if-holds.true)

pub returns-else-holds : goal.returns-else-holds
returns-else-holds c =
    let found = c.count_up_to-after in
    none_holds c.args.blocks.now c.args.a c.args.n found.result c.requires.in_order c.requires.some found.ensures.bound found.ensures.split
    (λ k d last. ap (holds c.args.a c.args.n) (item_before c.args.blocks.now found.result k c.index-blocks-after.result d found.ensures.bound last c.index-blocks-after.is)
    ∙ sym c.holds.ensures ∙ c.if-holds.false)
