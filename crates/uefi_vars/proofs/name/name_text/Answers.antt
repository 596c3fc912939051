use Rattle.uefi_vars.proofs.Names.{IsUtf8-name}
use Rattle.uefi_vars.proofs.name.name_text.Goals as goal

pub from_utf8_unchecked-requires : goal.from_utf8_unchecked-requires
from_utf8_unchecked-requires c = IsUtf8-name c.args.name.now c.requires
