-- Requests, as contracts see them: each with the number of an entry, a load option, or the numbers of an order.
use Rattle.std.specs.Prelude.{ℕ, List, ◌++◌, Option, Some, None}
use Rattle.std.specs.List.{AllByRecursion}
use Rattle.std.specs.Int.{w16, to_le_bytes}
use Rattle.uefi_path.specs.Units.{units_bytes}
use Rattle.uefi_option.specs.LoadOption.{IsOption, option_bytes}
use Rattle.uefi_vars.specs.Order.{IsEntryNumber}
use Rattle.boot_requests.specs.declared.frame.Kind.{Kind}
use Rattle.boot_requests.specs.declared.frame.Kind.TheVariants as kind
use Rattle.boot_requests.specs.declared.request.Request.{Request}
use Rattle.boot_requests.specs.declared.request.Request.TheVariants.{Add, Replace, Remove, Order, Next, AddFree, AddFirst, First}

-- the numbers are in the ranges of their types, and the option is one
abbrev pub IsRequest : Request → Type 0
IsRequest (Add entry option) = IsEntryNumber entry × IsOption option
IsRequest (Replace entry option) = IsEntryNumber entry × IsOption option
IsRequest (Remove entry) = IsEntryNumber entry
IsRequest (Order numbers) = AllByRecursion IsEntryNumber numbers
IsRequest (Next entry) = IsEntryNumber entry
IsRequest (AddFree option) = IsOption option
IsRequest (AddFirst option) = IsOption option
IsRequest (First entry) = IsEntryNumber entry

-- its kind
abbrev pub kind_of : Request → Kind
kind_of (Add entry option) = kind.Add
kind_of (Replace entry option) = kind.Replace
kind_of (Remove entry) = kind.Remove
kind_of (Order numbers) = kind.Order
kind_of (Next entry) = kind.Next
kind_of (AddFree option) = kind.AddFree
kind_of (AddFirst option) = kind.AddFirst
kind_of (First entry) = kind.First

-- the number of the entry that it names
abbrev pub named_entry : Request → Option ℕ
named_entry (Add entry option) = Some entry
named_entry (Replace entry option) = Some entry
named_entry (Remove entry) = Some entry
named_entry (Order numbers) = None
named_entry (Next entry) = Some entry
named_entry (AddFree option) = None
named_entry (AddFirst option) = None
named_entry (First entry) = Some entry

-- its payload: the number of the entry, and after it the spelling of the option; the numbers of the order; or an
-- option's spelling alone
abbrev pub payload_of : Request → List ℕ
payload_of (Add entry option) = to_le_bytes w16 entry ++ option_bytes option
payload_of (Replace entry option) = to_le_bytes w16 entry ++ option_bytes option
payload_of (Remove entry) = to_le_bytes w16 entry
payload_of (Order numbers) = units_bytes numbers
payload_of (Next entry) = to_le_bytes w16 entry
payload_of (AddFree option) = option_bytes option
payload_of (AddFirst option) = option_bytes option
payload_of (First entry) = to_le_bytes w16 entry
