use Rattle.std.proofs.Common.{◌≡◌, take}
use Rattle.std.specs.String.{string_bytes}
use Rattle.uefi_option.specs.Text.{units_text}
use Rattle.uefi_option.proofs.text.description_text.Given as goal

abbrev pub invariant-loop-unit : goal.invariant-loop-unit
invariant-loop-unit l = record {
  written : string_bytes l.text ≡ units_text (take l.unit-index l.description);
}
