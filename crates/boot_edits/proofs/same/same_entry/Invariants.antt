use Rattle.std.proofs.Common.{◌≡◌, ℕ, List, ◌++◌}
use Rattle.std.specs.FinMap.{entries}
use Rattle.uefi_option.specs.LoadOption.{OptionParts, IsOption}
use Rattle.uefi_option.specs.View.{ShowsOption}
use Rattle.uefi_vars.specs.Iter.{variables_left}
use Rattle.boot_edits.proofs.Lowest.{AreOthers}
use Rattle.boot_edits.proofs.same.same_entry.Given as goal

-- none of the variables so far is an entry that is the same
abbrev pub invariant-loop-name : goal.invariant-loop-name
invariant-loop-name l =
    (before : List (List ℕ × List ℕ)) × (entries l.vars ≡ before ++ variables_left l.name-iterator)
    × ((parts : OptionParts) → IsOption parts → ShowsOption l.option parts → AreOthers parts before)
