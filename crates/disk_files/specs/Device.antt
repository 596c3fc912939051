-- What may be at the path of a device.
use Rattle.std.specs.Prelude.{ℕ, ◌==◌, ◌&&◌, Option, Some, None, if◌then◌else◌}
use Rattle.partitions.specs.declared.device.DeviceNumber.{DeviceNumber}
use Rattle.disk_files.specs.declared.fault.DiskFault.{DiskFault}
use Rattle.disk_files.specs.declared.fault.DiskFault.TheVariants as fault
use Rattle.disk_files.specs.declared.device.DeviceNode.{DeviceNode}
use Rattle.disk_files.specs.declared.device.DeviceNode.TheVariants as node

-- the fault of what is there, if the system knows the device that is meant by this number
abbrev pub device_fault : DeviceNode → DeviceNumber → Option DiskFault
device_fault (node.Block number) told =
    if (number.major == told.major) && (number.minor == told.minor) then None else Some fault.OtherDevice
device_fault node.StandIn told = None
device_fault node.Other told = Some fault.NoBlockDevice
