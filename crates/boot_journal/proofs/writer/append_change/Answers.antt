-- A name of a boot variable is a name, and so isn't too long.
use Rattle.std.proofs.Common.{◌≤◌, length, sym, subst}
use Rattle.uefi_vars.specs.Name.{name_max, IsName}
use Rattle.uefi_vars.proofs.NameTests.{boot_is_name}
use Rattle.boot_journal.proofs.writer.append_change.Goals as goal

pub append_name-requires : goal.append_name-requires
append_name-requires c =
    let names = c.boot_names_are_names.ensures in
    let is : IsName c.args.change.now.name = boot_is_name names.entry names.order names.next names.timeout c.args.change.now.name c.name.ensures.valid.boot in
    subst (λ t. length t ≤ name_max) (sym c.name.ensures.name) is.len
