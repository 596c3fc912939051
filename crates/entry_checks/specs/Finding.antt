-- What each finding says of its entry, and what JSON calls it.
use Rattle.std.specs.Prelude.{ℕ, List, codes}
use Rattle.entry_checks.specs.declared.lead.Lead.{Lead}
use Rattle.entry_checks.specs.declared.lead.Lead.TheVariants as lead
use Rattle.entry_checks.specs.declared.image.ImageState.{ImageState}
use Rattle.entry_checks.specs.declared.image.ImageState.TheVariants as image
use Rattle.entry_checks.specs.declared.finding.Finding.{Finding}
use Rattle.entry_checks.specs.declared.finding.Finding.TheVariants as finding
use Rattle.entry_checks.specs.declared.finding.Weight.{Weight}
use Rattle.entry_checks.specs.declared.finding.Weight.TheVariants.{Fault, Remark, Unseen}

-- where an entry leads: it is wrong if the partition or the file isn't there; a disk may be there though the system doesn't tell
-- that it is
abbrev pub weight_of_lead : Lead → Weight
weight_of_lead lead.File = Remark
weight_of_lead lead.NoFile = Fault
weight_of_lead lead.Folder = Fault
weight_of_lead lead.NoPartition = Fault
weight_of_lead lead.NoFileOnDisk = Fault
weight_of_lead _ = Unseen

-- the file of an entry: it is wrong if firmware or its Secure Boot doesn't start it, or firmware goes wrong
abbrev pub weight_of_image : ImageState → Weight
weight_of_image image.Refused = Fault
weight_of_image image.Unsafe = Fault
weight_of_image image.Foreign = Fault
weight_of_image image.Denied = Fault
weight_of_image image.OfX8664 = Remark
weight_of_image _ = Unseen

abbrev pub weight_of : Finding → Weight
weight_of finding.Undecodable = Fault
weight_of finding.Inactive = Fault
weight_of finding.OtherCategory = Remark
weight_of finding.Hidden = Remark
weight_of finding.Unnamed = Remark
weight_of (finding.Leads found) = weight_of_lead found
weight_of (finding.Image found) = weight_of_image found
weight_of finding.Twin = Fault

-- ---- what JSON calls it

abbrev pub kind_of_lead : Lead → List ℕ
kind_of_lead lead.File = codes "file"
kind_of_lead lead.NoFile = codes "no_file"
kind_of_lead lead.Folder = codes "folder"
kind_of_lead lead.Partition = codes "partition"
kind_of_lead lead.NoPartition = codes "no_partition"
kind_of_lead lead.Several = codes "several_partitions"
kind_of_lead lead.Untold = codes "untold"
kind_of_lead lead.Unmounted = codes "not_mounted"
kind_of_lead lead.Closed = codes "not_readable"
kind_of_lead lead.Unsigned = codes "unsigned"
kind_of_lead lead.Onward = codes "onward"
kind_of_lead lead.Instances = codes "instances"
kind_of_lead lead.FileAlone = codes "file_alone"
kind_of_lead lead.Network = codes "network"
kind_of_lead lead.Firmware = codes "firmware"
kind_of_lead lead.Legacy = codes "legacy"
kind_of_lead lead.Disk = codes "disk"
kind_of_lead lead.WholeDisk = codes "whole_disk"
kind_of_lead lead.NoDisk = codes "no_disk"
kind_of_lead lead.SeveralDisks = codes "several_disks"
kind_of_lead lead.NoFileOnDisk = codes "no_file_on_disk"
kind_of_lead lead.SeveralFiles = codes "several_files"
kind_of_lead lead.PartUnseen = codes "part_unseen"
kind_of_lead lead.Device = codes "device"

abbrev pub kind_of_image : ImageState → List ℕ
kind_of_image image.Refused = codes "image"
kind_of_image image.Unsafe = codes "image_unsafe"
kind_of_image image.Foreign = codes "image_foreign"
kind_of_image image.Denied = codes "secure_boot"
kind_of_image image.OfX8664 = codes "image_x86_64"
kind_of_image image.Undecided = codes "image_undecided"
kind_of_image image.Unknown = codes "image_unknown"
kind_of_image image.Unsettled = codes "secure_boot_undecided"
kind_of_image image.Unreadable = codes "image_unreadable"
kind_of_image image.TooLong = codes "image_too_long"
kind_of_image image.Irregular = codes "image_irregular"

abbrev pub kind_of : Finding → List ℕ
kind_of finding.Undecodable = codes "undecodable"
kind_of finding.Inactive = codes "inactive"
kind_of finding.OtherCategory = codes "category"
kind_of finding.Hidden = codes "hidden"
kind_of finding.Unnamed = codes "unnamed"
kind_of (finding.Leads found) = kind_of_lead found
kind_of (finding.Image found) = kind_of_image found
kind_of finding.Twin = codes "same_file"
