use Rattle.std.proofs.Common.{◌≡◌, drop}
use Rattle.uefi_names.specs.Read.{forms_read}
use Rattle.uefi_names.proofs.form_reader.forms_read.Given as goal

abbrev pub invariant-loop-form : goal.invariant-loop-form
invariant-loop-form l = forms_read l.name l.inside (drop l.form-index l.forms) ≡ forms_read l.name l.inside l.forms
