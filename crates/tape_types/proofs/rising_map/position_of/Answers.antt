use Rattle.std.proofs.Common.{ltb, rules}
use Rattle.std.proofs.lemmas.List.Sorted.{IsPartitionPoint-from_clause, IsPartitionedBy-ltb}
use Rattle.tape_types.specs.Lemmas.RisingEntries.{keyed-rise, keyed-parted}
use Rattle.tape_types.proofs.rising_map.position_of.Goals as goal

-- the closure tests whether an entry's number is below
pub returns : goal.returns
returns g c =
    let number = g.K.NumberKey.number in
    keyed-parted number (number c.args.key) c.args.entries.now c.partition_point.result c.partition_point.ensures.bound
    (IsPartitionPoint-from_clause (λ e. ltb (number e.0) (number c.args.key)) c.args.entries.now c.partition_point.result c.partition_point.ensures.partitioned
    (IsPartitionedBy-ltb (λ e. number e.0) c.args.entries.now (number c.args.key) (keyed-rise number c.args.entries.now c.requires.rising))
    (λ a r f called. search rules))
