-- What came of a request, and the bytes in which it is kept.
use Rattle.std.specs.Prelude.{◌≡◌, ℕ, List, ◌∷◌, Option, Some, None, IfSome}
use Rattle.std.specs.Int.{w16, to_le_bytes}
use Rattle.uefi_vars.specs.Order.{IsEntryNumber}
use Rattle.boot_requests.specs.declared.outcome.Code.{Code}
use Rattle.boot_requests.specs.declared.outcome.Code.TheVariants.{Done, Exists, Missing, OrderRepeats, OrderUnknown, NoFree}
use Rattle.boot_requests.specs.declared.outcome.Outcome.{Outcome}

-- the outcome of this code that tells no entry
abbrev pub without_entry : Code → Outcome
without_entry code = record { code = code; entry = None }

-- an entry was added under this number, which the request left open
abbrev pub added_at : ℕ → Outcome
added_at entry = record { code = Done; entry = Some entry }

-- an entry is told only if the request was carried out
abbrev pub IsOutcome : Outcome → Type 0
IsOutcome outcome = IfSome outcome.entry (λ entry. (outcome.code ≡ Done) × IsEntryNumber entry)

-- ---- bytes

abbrev pub code_byte : Code → ℕ
code_byte Done = 0
code_byte Exists = 1
code_byte Missing = 2
code_byte OrderRepeats = 3
code_byte OrderUnknown = 4
code_byte NoFree = 5

-- whether an entry is told, and its number in two bytes, or 0
abbrev pub entry_bytes : Option ℕ → List ℕ
entry_bytes None = 0 ∷ to_le_bytes w16 0
entry_bytes (Some entry) = 1 ∷ to_le_bytes w16 entry

abbrev pub outcome_bytes : Outcome → List ℕ
outcome_bytes outcome = code_byte outcome.code ∷ entry_bytes outcome.entry
