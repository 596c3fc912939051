-- Attributes and data fit where there is room for both.
use Rattle.std.proofs.Common.{◌+◌, ◌≤◌, length, subst, arith}
use Rattle.std.specs.List.{AllByRecursion}
use Rattle.std.specs.Option.{option_map}
use Rattle.uefi_path.specs.Row.{IsByte}
use Rattle.uefi_vars.specs.Vars.{data_max}
use Rattle.uefi_vars.specs.Attributes.{attributes_len}
use Rattle.boot_journal.proofs.KeptChanges.{kept_IsData}
use Rattle.boot_journal.proofs.change.data_with.Goals as goal

pub returns-clause-valid : goal.returns-clause-valid
returns-clause-valid c =
    let room : attributes_len + length c.args.value.now ≤ data_max = omega arith in
    kept_IsData c.in_ok-bytes.bytes.items c.args.value.now (option_map (λ b. b.now) c.args.there) c.in_ok-bytes.ensures room
    (subst (AllByRecursion IsByte) c.deref.ensures.value c.prove_bytes.ensures)
