-- Whatever the lines of the variables that are still to come are, with them all lines are there.
use Rattle.std.proofs.Common.{◌≡◌, ◌++◌, ℕ, List}
use Rattle.std.specs.String.{string_bytes}
use Rattle.std.specs.FinMap.{entries}
use Rattle.uefi_vars.specs.Iter.{variables_left}
use Rattle.efibootmgr_words.specs.Listing.{AreEntries}
use Rattle.efibootmgr_words.proofs.lines.append_entries.Given as goal

abbrev pub invariant-loop-name : goal.invariant-loop-name
invariant-loop-name l =
    (lines bad : List ℕ) → AreEntries l.form (variables_left l.name-iterator) lines bad
    → (all : List ℕ) × (faulty : List ℕ) × AreEntries l.form (entries l.vars) all faulty
    × (string_bytes l.listing.text ++ lines ≡ string_bytes l.fn.listing.text ++ all)
    × (l.listing.faulty.items ++ bad ≡ l.fn.listing.faulty.items ++ faulty)
