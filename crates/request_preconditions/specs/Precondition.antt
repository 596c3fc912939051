-- What is expected of a machine, and whether it is so.
use Rattle.std.specs.Prelude.{◌≡◌, ℕ, List, Option}
use Rattle.std.specs.Option.{option_map}
use Rattle.std.specs.FinMap.{get}
use Rattle.sha2.specs.Sha256.{sha256}
use Rattle.uefi_vars.specs.Name.{order_text}
use Rattle.uefi_vars.specs.Vars.{Variables, entry_of}
use Rattle.request_preconditions.specs.declared.precondition.Precondition.{Precondition}
use Rattle.request_preconditions.specs.declared.precondition.Precondition.TheVariants.{Journal, NextNumber, Entry, Order}

-- It is so of a machine whose journal has this identity, if there is one, whose next request has this number, and which
-- has these variables.
abbrev pub IsMet : Option (List ℕ) → ℕ → Variables → Precondition → Type 0
IsMet journal next vars (Journal identity) = journal ≡ identity
IsMet journal next vars (NextNumber number) = next ≡ number
IsMet journal next vars (Entry number digest) = option_map sha256 (entry_of vars number) ≡ digest
IsMet journal next vars (Order stored) = get vars order_text ≡ option_map (λ d. d.items) stored
