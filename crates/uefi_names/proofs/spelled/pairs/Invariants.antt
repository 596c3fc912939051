use Rattle.std.proofs.Common.{◌≡◌, ◌++◌, true, length}
use Rattle.uefi_text.specs.Reader.{is_data, data_bytes}
use Rattle.uefi_names.proofs.spelled.pairs.Given as goal

abbrev pub invariant-loop-rest : goal.invariant-loop-rest
invariant-loop-rest l = (is_data l.rest ≡ true) × (l.bytes.items ++ data_bytes l.rest ≡ data_bytes l.digits)

abbrev pub decreases-loop-rest : goal.decreases-loop-rest
decreases-loop-rest l = length l.rest
