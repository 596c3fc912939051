-- Links to partitions, by the names of devices.
use Rattle.std.specs.Prelude.{◌≡◌, ℕ, List}
use Rattle.std.specs.List.{Contains, AllByRecursion}
use Rattle.std.specs.String.{string_bytes}
use Rattle.partitions.specs.declared.partition_id.PartitionId.{PartitionId}
use Rattle.disk_files.specs.declared.device_links.DeviceLink.{DeviceLink}

abbrev pub LeadsTo : List ℕ → DeviceLink → Type 0
LeadsTo device link = string_bytes link.device ≡ device

abbrev pub NoneLeadsTo : List DeviceLink → List ℕ → Type 0
NoneLeadsTo links device = AllByRecursion (λ link. ¬ LeadsTo device link) links

-- a link says it
abbrev pub IsLinked : List DeviceLink → List ℕ → PartitionId → Type 0
IsLinked links device id = (link : DeviceLink) × Contains links link × LeadsTo device link × (link.id ≡ id)
