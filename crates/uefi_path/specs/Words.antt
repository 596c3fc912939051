-- The places of faults, and their words: a fault's name, and after one blank each of its numbers in decimal.
use Rattle.std.specs.Prelude.{ℕ, List, ◌++◌, codes, Option, Some, None}
use Rattle.std.specs.Fmt.{decimal}
use Rattle.uefi_path.specs.declared.fault.NameFault.{NameFault}
use Rattle.uefi_path.specs.declared.fault.NameFault.TheVariants as name
use Rattle.uefi_path.specs.declared.fault.NodeFault.{NodeFault}
use Rattle.uefi_path.specs.declared.fault.NodeFault.TheVariants as node
use Rattle.uefi_path.specs.declared.fault.PathFault.{PathFault}
use Rattle.uefi_path.specs.declared.fault.PathFault.TheVariants as path

abbrev pub node_fault_words : NodeFault → List ℕ
node_fault_words node.BadEnd = codes "BadEnd"
node_fault_words node.TooLong = codes "TooLong"
node_fault_words node.OutOfMemory = codes "OutOfMemory"

abbrev pub name_fault_words : NameFault → List ℕ
name_fault_words (name.ZeroUnit at) = codes "ZeroUnit " ++ decimal at
name_fault_words name.TooLong = codes "TooLong"
name_fault_words name.OutOfMemory = codes "OutOfMemory"

abbrev pub path_fault_words : PathFault → List ℕ
path_fault_words (path.NoEnd offset) = codes "NoEnd " ++ decimal offset
path_fault_words (path.ShortHeader offset left) = codes "ShortHeader " ++ decimal offset
path_fault_words (path.BadLength offset) = codes "BadLength " ++ decimal offset
path_fault_words (path.PastEnd offset stated left) = codes "PastEnd " ++ decimal offset
path_fault_words (path.BadEnd offset) = codes "BadEnd " ++ decimal offset
path_fault_words path.OutOfMemory = codes "OutOfMemory"

-- where the fault is
abbrev pub name_fault_index : NameFault → Option ℕ
name_fault_index (name.ZeroUnit at) = Some at
name_fault_index name.TooLong = None
name_fault_index name.OutOfMemory = None

abbrev pub path_fault_offset : PathFault → Option ℕ
path_fault_offset (path.NoEnd offset) = Some offset
path_fault_offset (path.ShortHeader offset left) = Some offset
path_fault_offset (path.BadLength offset) = Some offset
path_fault_offset (path.PastEnd offset stated left) = Some offset
path_fault_offset (path.BadEnd offset) = Some offset
path_fault_offset path.OutOfMemory = None
