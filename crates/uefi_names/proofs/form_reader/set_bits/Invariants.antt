use Rattle.std.proofs.Common.{◌≡◌, drop}
use Rattle.uefi_names.specs.Read.{with_bits}
use Rattle.uefi_names.proofs.form_reader.set_bits.Given as goal

abbrev pub invariant-loop-one : goal.invariant-loop-one
invariant-loop-one l =
    (with_bits l.place (drop l.one-index l.bits) l.body ≡ with_bits l.at l.bits l.initial.body)
