-- What comes of a search for the partition that a node is of.
use Rattle.std.specs.Prelude.{◌≡◌, ◌≢◌, true, false, List, [], ◌∷◌, ◌++◌, Option, Some, None}
use Rattle.std.specs.List.{AllByRecursion}
use Rattle.partitions.specs.declared.partition_id.PartitionId.{PartitionId}
use Rattle.disk_files.specs.declared.found.FoundPartition.{FoundPartition}
use Rattle.disk_files.specs.declared.found.SeenPartitions.{SeenPartitions}
use Rattle.disk_files.specs.declared.found.Known.{Known}
use Rattle.disk_files.specs.declared.found.Known.TheVariants as those
use Rattle.disk_files.specs.declared.found.PartitionSearch.{PartitionSearch}
use Rattle.disk_files.specs.declared.found.PartitionSearch.TheVariants as search

-- none of these is known by it
abbrev pub NoneKnown : PartitionId → List FoundPartition → Type 0
NoneKnown id partitions = AllByRecursion (λ found. found.partition.id ≢ id) partitions

-- one of the partitions is known by it, and no other
pub record IsOnly (id : PartitionId) (partitions : List FoundPartition) (one : FoundPartition) : Type 0 where
  pub before : List FoundPartition
  pub after : List FoundPartition
  pub among : partitions ≡ before ++ one ∷ after
  pub known : one.partition.id ≡ id
  pub none_before : NoneKnown id before
  pub none_after : NoneKnown id after

-- two of the partitions are known by it, and no other in front of the second
pub record AreFirst (id : PartitionId) (partitions : List FoundPartition) (one other : FoundPartition) : Type 0 where
  pub before : List FoundPartition
  pub between : List FoundPartition
  pub after : List FoundPartition
  pub among : partitions ≡ before ++ one ∷ (between ++ other ∷ after)
  pub known : one.partition.id ≡ id
  pub other_known : other.partition.id ≡ id
  pub none_before : NoneKnown id before
  pub none_between : NoneKnown id between

-- those of the partitions that are known by it
abbrev pub AreKnown : PartitionId → List FoundPartition → Known → Type 0
AreKnown id partitions those.Nothing = NoneKnown id partitions
AreKnown id partitions (those.One one) = IsOnly id partitions one.now
AreKnown id partitions (those.Several one other) = AreFirst id partitions one.now other.now

-- what comes of a search among those that a machine tells of: that it has none can be said only if it tells
abbrev pub IsSearchIn : SeenPartitions → PartitionId → PartitionSearch → Type 0
IsSearchIn seen id (search.Found one) = IsOnly id seen.partitions.items one.now
IsSearchIn seen id (search.Several one other) = AreFirst id seen.partitions.items one.now other.now
IsSearchIn seen id search.Missing = (seen.are_told ≡ true) × NoneKnown id seen.partitions.items
IsSearchIn seen id search.Untold = (seen.are_told ≡ false) × NoneKnown id seen.partitions.items
IsSearchIn seen id search.Unsigned = ⊥

-- of a node that is known by something, or by nothing
abbrev pub IsSearch : SeenPartitions → Option PartitionId → PartitionSearch → Type 0
IsSearch seen (Some id) found = IsSearchIn seen id found
IsSearch seen None search.Unsigned = Unit {0}
IsSearch seen None _ = ⊥
