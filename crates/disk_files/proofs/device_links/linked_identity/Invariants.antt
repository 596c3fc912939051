use Rattle.std.proofs.Common.{take}
use Rattle.disk_files.specs.DeviceLinks.{NoneLeadsTo}
use Rattle.disk_files.proofs.device_links.linked_identity.Given as goal

abbrev pub invariant-loop-link : goal.invariant-loop-link
invariant-loop-link l = NoneLeadsTo (take l.link-index l.links) l.device
