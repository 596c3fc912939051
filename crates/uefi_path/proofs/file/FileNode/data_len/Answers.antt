use Rattle.std.proofs.Common.{arith}
use Rattle.uefi_path.proofs.Names.{name_length}
use Rattle.uefi_path.proofs.file.FileNode.data_len.Goals as goal

pub returns-clause-len : goal.returns-clause-len
returns-clause-len c = rw (← c.self.view_is) (omega (arith, c.len.ensures, name_length c.self.inside.units.items))
