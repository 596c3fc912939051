use Rattle.std.proofs.Common.{◌∙◌}
use Rattle.uefi_vars.proofs.NameTests.{tells_entry}
use Rattle.uefi_vars.proofs.boot_change.is_entry.Goals as goal

pub returns : goal.returns
returns c = c.is_some.ensures ∙ tells_entry c.args.name.now c.entry_number.result c.entry_number.ensures
