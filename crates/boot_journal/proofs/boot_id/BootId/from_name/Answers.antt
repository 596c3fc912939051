-- The characters of a name are UTF-8.
use Rattle.uefi_vars.proofs.Names.{IsUtf8-name}
use Rattle.boot_journal.proofs.boot_id.BootId.from_name.Goals as goal

pub from_utf8_unchecked-text-requires : goal.from_utf8_unchecked-text-requires
from_utf8_unchecked-text-requires c = IsUtf8-name c.args.name.now c.requires
