use Rattle.std.proofs.Common.{take}
use Rattle.disk_files.specs.Disk.{IsDiskSearch, those_at}
use Rattle.disk_files.proofs.disk.disks_at.Given as goal

abbrev pub invariant-loop-next : goal.invariant-loop-next
invariant-loop-next l = IsDiskSearch (those_at l.path (take l.next-index l.disks)) l.search
