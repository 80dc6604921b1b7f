use Rattle.std.proofs.Common.{rules, of_calls, nat_le}
use Rattle.std.proofs.lemmas.List.Sorted.{IsPartitionedBy-leb}
use Rattle.std.proofs.lemmas.Fn.{always_returns_same}
use Rattle.cet_mem.proofs.Orders.{starts_rise, split_from}
use Rattle.cet_mem.proofs.blocks.count_up_to.Goals as goal

pub returns-clause-split : goal.returns-clause-split
returns-clause-split c =
    let blocks = c.args.blocks.now in
    let point = c.partition_point.ensures.partitioned (λ r. nat_le r.start c.args.a) (always_returns_same _ _ _ (λ a r f k. search (rules, of_calls)))
    (IsPartitionedBy-leb (λ r. r.start) blocks c.args.a (starts_rise blocks c.requires)) in
    split_from c.args.a blocks c.partition_point.result point
