use Rattle.std.proofs.Common.{ltb, ltb-true, arith, rules}
use Rattle.std.proofs.lemmas.Bool.{ltb-false}
use Rattle.std.proofs.lemmas.List.Sorted.{IsPartitionPoint-from_clause, IsPartitionedBy-ltb}
use Rattle.bound_cert.proofs.Sequences.{sequences_rise}
use Rattle.bound_cert.proofs.known.rows_before.Goals as goal

pub returns-clause-before : goal.returns-clause-before
returns-clause-before c =
    let parted = IsPartitionedBy-ltb (λ row. row.sequence) c.args.rows.now c.args.sequence (sequences_rise c.args.rows.now c.requires) in
    let point = IsPartitionPoint-from_clause (λ row. ltb row.sequence c.args.sequence) _ _ c.partition_point.ensures.partitioned parted (λ a r q k. search rules) in
    λ k d h. ltb-true _ _ (point.0 k d (omega arith) h)

pub returns-clause-after : goal.returns-clause-after
returns-clause-after c =
    let parted = IsPartitionedBy-ltb (λ row. row.sequence) c.args.rows.now c.args.sequence (sequences_rise c.args.rows.now c.requires) in
    let point = IsPartitionPoint-from_clause (λ row. ltb row.sequence c.args.sequence) _ _ c.partition_point.ensures.partitioned parted (λ a r q k. search rules) in
    λ k d ge low. ltb-false _ _ (point.1 k d ge low)
