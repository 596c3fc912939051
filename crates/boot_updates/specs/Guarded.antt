-- Runs of requests that are made only if all is as it was expected.
use Rattle.std.specs.Prelude.{◌≡◌, ℕ, List, [], Option, Some, None, All}
use Rattle.uefi_vars.specs.Vars.{Variables}
use Rattle.boot_requests.specs.declared.answer.Answer.{Answer}
use Rattle.request_preconditions.specs.declared.precondition.Precondition.{Precondition}
use Rattle.request_preconditions.specs.Precondition.{IsMet}
use Rattle.boot_updates.specs.declared.guarded.Unmet.{Unmet}

-- all is as it is expected of a machine whose journal has this identity, whose next request has this number, and which
-- has these variables
abbrev pub AreMet : Option (List ℕ) → ℕ → Variables → List Precondition → Type 0
AreMet journal next vars preconditions = All (IsMet journal next vars) preconditions

-- Either all is as it is expected, and then the run is made; or something isn't, and then nothing is changed or answered.
abbrev pub IsGuarded : Type 0 → Type 0 → Variables → Variables → List Answer → Option Unmet → Type 0
IsGuarded met run from to answers None = met × run
IsGuarded met run from to answers (Some unmet) = (¬ met) × (to ≡ from) × (answers ≡ [])
