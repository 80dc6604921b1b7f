use Rattle.std.proofs.Common.{ltb, rules}
use Rattle.std.proofs.lemmas.List.Sorted.{IsPartitionPoint-from_clause, IsPartitionedBy-ltb}
use Rattle.cet_rules.specs.declared.function.Function.{Function}
use Rattle.cet_image.proofs.Places.{rising, split_at}
use Rattle.cet_image.proofs.lookup.count_before.Goals as goal

pub returns : goal.returns
returns c =
    split_at c.args.functions.now c.args.at c.partition_point.result
    (IsPartitionPoint-from_clause (λ (f : Function). ltb f.start c.args.at) c.args.functions.now c.partition_point.result c.partition_point.ensures.partitioned
    (IsPartitionedBy-ltb (λ (f : Function). f.start) c.args.functions.now c.args.at (rising c.args.functions.now c.requires)) (λ a r q h. search rules))
