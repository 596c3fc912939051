-- For private functions: why a number is refused that needs something.
use Rattle.std.specs.Prelude.{ℕ, Bool, true, false, if◌then◌else◌}
use Rattle.uefi_vars.specs.Vars.{Variables}
use Rattle.boot_edits.specs.declared.fault.EditFault.{EditFault}
use Rattle.boot_edits.specs.declared.listed.Need.{Need}
use Rattle.boot_edits.specs.declared.listed.Need.TheVariants as need
use Rattle.boot_edits.specs.Lists.{IsMissing, IsStale, IsNoOption}

abbrev pub IsRefusedFor : Need → Variables → ℕ → EditFault → Type 0
IsRefusedFor need.Nothing vars = IsStale true vars
IsRefusedFor need.Entry vars = IsMissing vars
IsRefusedFor need.EntryOfOrder vars = IsStale false vars
IsRefusedFor need.Option vars = IsNoOption vars

-- what a number for an order needs
abbrev pub order_need : Bool → Need
order_need stale = if stale then need.Nothing else need.EntryOfOrder
