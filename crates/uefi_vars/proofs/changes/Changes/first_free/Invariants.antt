use Rattle.std.proofs.Common.{◌≡◌, ℕ, ◌<◌, ◌≤◌, ◌^◌, IsSome}
use Rattle.std.specs.FinMap.{get}
use Rattle.std.specs.FinMap.Entries.{find}
use Rattle.uefi_vars.specs.Name.{entry_text}
use Rattle.uefi_vars.specs.Vars.{name_cmp, entry_of}
use Rattle.uefi_vars.specs.NameChanges.{with_changes}
use Rattle.uefi_vars.specs.Records.{pairs_of, IsRising}
use Rattle.uefi_vars.proofs.changes.Changes.first_free.Given as goal

abbrev pub invariant-loop-number : goal.invariant-loop-number
invariant-loop-number l = record {
  taken : (lower : ℕ) → lower < l.number → IsSome (entry_of (with_changes l.vars l.self) lower);
  changes_rise : IsRising (pairs_of l.changes);
  changes_left : (later : ℕ) → l.number ≤ later → later < 2 ^ 16 → find name_cmp (entry_text later) (pairs_of l.changes) ≡ get l.self (entry_text later);
  variables_rise : IsRising (pairs_of l.variables);
  variables_left : (later : ℕ) → l.number ≤ later → later < 2 ^ 16 → find name_cmp (entry_text later) (pairs_of l.variables) ≡ get l.vars (entry_text later);
}
