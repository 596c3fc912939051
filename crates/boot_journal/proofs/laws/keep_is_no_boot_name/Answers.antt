-- Its name is longer than that of an entry, and isn't that of BootOrder or BootNext.
use Rattle.std.proofs.Common.{◌≡◌, ℕ, false, length, refl, ap, ◌∙◌, arith}
use Rattle.std.proofs.lemmas.Bool.{false_from_ne_true, or_from}
use Rattle.uefi_vars.specs.BootChange.{is_entry_name}
use Rattle.uefi_vars.specs.Name.{keep_text}
use Rattle.boot_journal.proofs.laws.keep_is_no_boot_name.Goals as goal

pub returns : goal.returns
returns c =
    let no_entry = false_from_ne_true (is_entry_name keep_text) (λ is.
    let at = (c.entry_names_are_those_of_numbers.ensures keep_text).0 is in
    let same : ◌≡◌ {A = ℕ} 13 8 = ap length at.2 ∙ c.order_and_next_are_no_entries.ensures.len at.0 in
    omega (arith, same)) in
    or_from (is_entry_name keep_text) false no_entry refl
