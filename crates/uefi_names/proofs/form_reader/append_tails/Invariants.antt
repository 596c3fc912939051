use Rattle.std.proofs.Common.{◌≡◌, drop, map}
use Rattle.uefi_names.specs.SpelledFields.{spelled_of}
use Rattle.uefi_names.specs.Read.{with_tails}
use Rattle.uefi_names.proofs.form_reader.append_tails.Given as goal

abbrev pub invariant-loop-one : goal.invariant-loop-one
invariant-loop-one l =
    with_tails l.rank (map spelled_of (drop l.one-index l.all)) l.body.items ≡ with_tails l.rank (map spelled_of l.all) l.initial.body.items
