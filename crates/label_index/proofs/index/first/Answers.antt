use Rattle.std.proofs.Common.{ltb, ltb-true, ltb-false, arith, rules}
use Rattle.std.proofs.lemmas.List.Sorted.{IsPartitionPoint-from_clause, IsPartitionedBy-ltb}
use Rattle.label_index.proofs.index.first.Goals as goal

pub returns : goal.returns
returns g c =
    let parted = IsPartitionedBy-ltb (λ e. e.key) _ c.args.key c.requires in
    let point = IsPartitionPoint-from_clause (λ e. ltb e.key c.args.key) _ _ c.partition_point.ensures.partitioned parted (λ a r q k. search rules) in
    record {
      within = c.partition_point.ensures.bound;
      before = λ i d less. ltb-true _ _ (point.0 i d (omega arith) less);
      behind = λ i d low less. ltb-false _ _ (point.1 i d low less);
    }
