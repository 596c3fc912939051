use Rattle.std.proofs.Common.{◌≡◌, drop, map}
use Rattle.uefi_names.specs.SpelledFields.{spelled_of}
use Rattle.uefi_names.specs.Read.{with_fields}
use Rattle.uefi_names.proofs.form_reader.set_fields.Given as goal

abbrev pub invariant-loop-one : goal.invariant-loop-one
invariant-loop-one l =
    with_fields (map spelled_of (drop l.one-index l.all)) l.body ≡ with_fields (map spelled_of l.all) l.initial.body
