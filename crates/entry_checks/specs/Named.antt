-- What is found of BootOrder and BootNext (UEFI 2.10, 3.3).
use Rattle.std.specs.Prelude.{◌≡◌, ◌≢◌, ◌⊎◌, ℕ, ◌==◌, Bool, true, ◌&&◌, is_some, not, List, length, filter, Option, Some, None}
use Rattle.uefi_vars.specs.Vars.{Variables, entry_of}
use Rattle.uefi_vars.specs.Order.{HasOrder, HasNext, HasBadOrder, HasBadNext}
use Rattle.entry_checks.specs.Numbers.{distinct, repeated}
use Rattle.entry_checks.specs.declared.named.OrderFindings.{OrderFindings}
use Rattle.entry_checks.specs.declared.named.OrderFindings.TheVariants as order
use Rattle.entry_checks.specs.declared.named.NextFinding.{NextFinding}
use Rattle.entry_checks.specs.declared.named.NextFinding.TheVariants as next

-- the numbers under which nothing is stored
abbrev pub stale_in : (ℕ → Option (List ℕ)) → List ℕ → List ℕ
stale_in entries numbers = filter (λ number. not (is_some (entries number))) numbers

-- the same of an order, each once
abbrev pub stale_of : (ℕ → Option (List ℕ)) → List ℕ → List ℕ
stale_of entries order = stale_in entries (distinct order)

-- of BootOrder: that it can't be read, or its numbers without an entry, and those that come again
abbrev pub IsOrderFinding : Variables → OrderFindings → Type 0
IsOrderFinding vars order.Unreadable = HasBadOrder vars
IsOrderFinding vars (order.Numbers stale twice) =
    (numbers : List ℕ) × HasOrder vars numbers × (stale.items ≡ stale_of (entry_of vars) numbers) × (twice.items ≡ repeated numbers)

-- it can't be read, or it has numbers without an entry, and names no normal entry
abbrev pub is_order_wrong : OrderFindings → Bool → Bool
is_order_wrong order.Unreadable has_normal = true
is_order_wrong (order.Numbers stale twice) has_normal = not has_normal && not (length stale.items == 0)

-- of BootNext: that it can't be read, or a number without an entry; and otherwise it isn't there, or its entry is
abbrev pub IsNextFinding : Variables → Option NextFinding → Type 0
IsNextFinding vars (Some next.Unreadable) = HasBadNext vars
IsNextFinding vars (Some (next.Missing number)) = HasNext vars (Some number) × (entry_of vars number ≡ None)
IsNextFinding vars None =
    HasNext vars None ⊎ ((number : ℕ) × HasNext vars (Some number) × (entry_of vars number ≢ None))
