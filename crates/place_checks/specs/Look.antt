-- What a look at a machine can say of where a path leads.
use Rattle.std.specs.Prelude.{◌≡◌, ◌⊎◌}
use Rattle.entry_checks.specs.declared.lead.Lead.{Lead}
use Rattle.entry_checks.specs.declared.lead.Lead.TheVariants as lead
use Rattle.entry_checks.specs.declared.target.Target.{Target}
use Rattle.entry_checks.specs.declared.target.Target.TheVariants as target
use Rattle.disk_files.specs.declared.found.PartitionSearch.{PartitionSearch}
use Rattle.disk_files.specs.declared.found.PartitionSearch.TheVariants as search
use Rattle.disk_files.specs.declared.disk.DiskSearch.{DiskSearch}
use Rattle.disk_files.specs.declared.disk.DiskSearch.TheVariants as disk

-- of a partition: that it is there or not or several times, or can't be sought, as it has no signature or the machine
-- tells nothing
abbrev pub OfPartition : Lead → Type 0
OfPartition lead.Partition = Unit {0}
OfPartition lead.NoPartition = Unit {0}
OfPartition lead.Several = Unit {0}
OfPartition lead.Untold = Unit {0}
OfPartition lead.Unsigned = Unit {0}
OfPartition _ = ⊥

-- of a file on one: also what is in its place, and why it couldn't be looked at
abbrev pub OfFile : Lead → Type 0
OfFile lead.File = Unit {0}
OfFile lead.NoFile = Unit {0}
OfFile lead.Folder = Unit {0}
OfFile lead.Unmounted = Unit {0}
OfFile lead.Closed = Unit {0}
OfFile lead.NoPartition = Unit {0}
OfFile lead.Several = Unit {0}
OfFile lead.Untold = Unit {0}
OfFile lead.Unsigned = Unit {0}
OfFile _ = ⊥

-- of a whole disk: that it isn't known to be there, or is there several times, or without a name for the file; or that one of its
-- parts has the file, none, or several, and why a part that may have it couldn't be looked at
abbrev pub OfDisk : Lead → Type 0
OfDisk lead.NoDisk = Unit {0}
OfDisk lead.SeveralDisks = Unit {0}
OfDisk lead.WholeDisk = Unit {0}
OfDisk lead.File = Unit {0}
OfDisk lead.NoFileOnDisk = Unit {0}
OfDisk lead.SeveralFiles = Unit {0}
OfDisk lead.PartUnseen = Unit {0}
OfDisk _ = ⊥

-- what isn't looked at stays as the path says it; of a partition alone the file that firmware seeks there is looked at,
-- if its name is known
abbrev pub CanBe : Target → Lead → Type 0
CanBe (target.File partition name) found = OfFile found
CanBe (target.Partition partition) found = OfPartition found ⊎ OfFile found
CanBe (target.Disk nodes) found = OfDisk found
CanBe (target.Unseen told) found = found ≡ told

-- what a search says that doesn't come to one partition
abbrev pub IsTold : PartitionSearch → Lead → Type 0
IsTold search.Missing found = found ≡ lead.NoPartition
IsTold (search.Several one other) found = found ≡ lead.Several
IsTold search.Untold found = found ≡ lead.Untold
IsTold search.Unsigned found = found ≡ lead.Unsigned
IsTold (search.Found one) found = Unit {0}

-- what a search for a disk says that doesn't come to one
abbrev pub IsDiskTold : DiskSearch → Lead → Type 0
IsDiskTold disk.Missing found = found ≡ lead.NoDisk
IsDiskTold (disk.Several one other) found = found ≡ lead.SeveralDisks
IsDiskTold (disk.Found one) found = Unit {0}
