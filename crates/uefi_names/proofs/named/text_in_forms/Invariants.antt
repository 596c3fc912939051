use Rattle.std.proofs.Common.{◌≡◌, drop}
use Rattle.uefi_path.specs.Row.{row}
use Rattle.uefi_names.specs.Named.{text_in_forms}
use Rattle.uefi_names.proofs.named.text_in_forms.Given as goal

abbrev pub invariant-loop-form : goal.invariant-loop-form
invariant-loop-form l =
    text_in_forms l.table (row l.node.kind l.node.sub l.node.body.items) (drop l.form-index l.forms)
    ≡ text_in_forms l.table (row l.node.kind l.node.sub l.node.body.items) l.forms
