use Rattle.std.proofs.Common.{◌≡◌, drop}
use Rattle.uefi_names.specs.Read.{groups_read}
use Rattle.uefi_names.proofs.form_reader.groups_read.Given as goal

abbrev pub invariant-loop-group : goal.invariant-loop-group
invariant-loop-group l = groups_read l.name l.inside (drop l.group-index l.groups) ≡ groups_read l.name l.inside l.groups
