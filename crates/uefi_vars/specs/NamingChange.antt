-- What a change of variables makes of entries that neither BootOrder nor BootNext names (UEFI 2.10, 3.3). If either is
-- bad, no entry is known to be one of those.
use Rattle.std.specs.Prelude.{ℕ, List, Contains, IsSome}
use Rattle.uefi_vars.specs.Vars.{Variables, entry_of}
use Rattle.uefi_vars.specs.Order.{HasBadOrder, HasBadNext}
use Rattle.uefi_vars.specs.AtRisk.{IsUnnamed}

-- neither BootOrder nor BootNext is bad
pub record AreReadable (vars : Variables) : Type 0 where
  pub order : HasBadOrder vars → ⊥
  pub next : HasBadNext vars → ⊥

-- neither is bad, and an entry is stored under the number, which neither names
pub record IsKnownUnnamed (vars : Variables) (number : ℕ) : Type 0 where
  pub readable : AreReadable vars
  pub unnamed : IsUnnamed vars number

-- such an entry of the second variables, which wasn't one in the first
pub record BecomesUnnamed (from to : Variables) (number : ℕ) : Type 0 where
  pub after : IsKnownUnnamed to number
  pub not_before : IsKnownUnnamed from number → ⊥

-- such an entry of the first variables, which is stored in the second too, and isn't one there: BootOrder or BootNext names it
pub record BecomesNamed (from to : Variables) (number : ℕ) : Type 0 where
  pub before : IsKnownUnnamed from number
  pub readable : AreReadable to
  pub stored : IsSome (entry_of to number)
  pub not_after : IsUnnamed to number → ⊥

-- ---- for private functions

-- an entry is stored under the number, which is among the first numbers and not among the others
pub record IsEntryOnlyIn (vars : Variables) (numbers others : List ℕ) (number : ℕ) : Type 0 where
  pub stored : IsSome (entry_of vars number)
  pub among : Contains numbers number
  pub not_among : Contains others number → ⊥
