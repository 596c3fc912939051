use Rattle.std.proofs.Common.{ap}
use Rattle.std.specs.Prelude.{Option}
use Rattle.uefi_names.specs.declared.table.Field.{Field}
use Rattle.uefi_names.specs.Table.{least}
use Rattle.uefi_names.specs.Read.{offset_or}
use Rattle.uefi_names.proofs.form_reader.front_len.Goals as goal

pub returns-in-Some : goal.returns-in-Some
returns-in-Some c = ap (λ (found : Option Field). offset_or found (least c.args.form.now.len)) c.in-Some.ensures
