use Rattle.std.proofs.Common.{◌≡◌, ◌<◌, [], drop}
use Rattle.uefi_names.specs.Spelled.{text_read}
use Rattle.uefi_names.proofs.spelled.text_bytes.Given as goal

abbrev pub invariant-loop-unit : goal.invariant-loop-unit
invariant-loop-unit l = record {
  read : text_read l.is_wide l.bytes.items l.left l.value (drop l.unit-index l.text) ≡ text_read l.is_wide [] 0 0 l.text;
  bound : l.value < 65536;
  zero : l.left ≡ 0 → l.value ≡ 0;
}
