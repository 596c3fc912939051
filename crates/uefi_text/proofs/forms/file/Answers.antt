use Rattle.std.proofs.Common.{◌≡◌, true, ap, sym, ◌∙◌, length, refl, arith}
use Rattle.std.specs.List.{list_all}
use Rattle.uefi_text.specs.Printed.{is_plain_from}
use Rattle.uefi_text.proofs.Read.Marks.{no_zero_unit}
use Rattle.uefi_text.proofs.Read.Whole.{never_refused}
use Rattle.uefi_text.proofs.forms.file.Goals as goal

pub unreachable-requires : goal.unreachable-requires
unreachable-requires c =
    let refused = c.in-Err.field-0 in
    let units = c.in_ok-units.units in
    let same = c.in_ok-units.ensures in
    let plain : list_all (is_plain_from 0x20) c.args.name.now ≡ true = sym c.is_plain_name_text.ensures ∙ c.if-not-is_plain_name_text.false in
    let unit_plain : list_all (is_plain_from 0x20) units.items ≡ true = ap (list_all (is_plain_from 0x20)) same ∙ plain in
    never_refused refused.fault c.in-Err.ensures.named
    (λ at is. no_zero_unit units.items at unit_plain ((c.in-Err.ensures.zero_unit at).0 (rw (← is, ← c.in-Err.ensures.handed_back) refl)))
    (λ is. omega (arith, ((c.in-Err.ensures.too_long).0 (rw (← is, ← c.in-Err.ensures.handed_back) refl)).1, ap length same, c.if-name-gt-PATH_NAME_MAX.false))
