use Rattle.std.proofs.Common.{ltb, rules}
use Rattle.std.proofs.lemmas.List.Sorted.{IsPartitionPoint-from_clause}
use Rattle.tracing.proofs.Cells.{splits_at}
use Rattle.tracing.proofs.blocks.before_node.Goals as goal

pub returns : goal.returns
returns c = splits_at _ _ _ c.partition_point.ensures.bound (λ parted. IsPartitionPoint-from_clause (λ a. ltb a.end c.args.node) _ _ c.partition_point.ensures.partitioned parted (λ a r q k. search rules))
