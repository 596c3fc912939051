-- What comes of a request, and what a request with its outcome does to the entries, by what it stored of one.
use Rattle.std.proofs.Common.{◌≡◌, ℕ, true, false, cond, eqb, ltb, List, Option, Some, None, refl, ap, ◌∙◌, arith}
use Rattle.std.specs.Prelude.{IfSome, if◌then◌else◌}
use Rattle.std.specs.Option.{option_map}
use Rattle.std.specs.Cmp.{nat_cmp_total}
use Rattle.std.specs.FinMap.{get, get-remove}
use Rattle.std.proofs.lemmas.Bool.Decides.{nat_tests}
use Rattle.uefi_option.specs.LoadOption.{OptionParts, IsOption, option_bytes}
use Rattle.boot_requests.specs.declared.request.Request.{Request}
use Rattle.boot_requests.specs.declared.request.Request.TheVariants.{Add, Replace, Remove, Order, Next, AddFree, AddFirst, First}
use Rattle.boot_requests.specs.declared.outcome.Code.{Code}
use Rattle.boot_requests.specs.declared.outcome.Code.TheVariants.{Done, NoFree}
use Rattle.boot_requests.specs.declared.outcome.Outcome.{Outcome}
use Rattle.boot_requests.specs.Limits.{number_count}
use Rattle.boot_requests.specs.Outcome.{IsOutcome, without_entry, added_at}
use Rattle.boot_requests.specs.Request.{IsRequest}
use Rattle.boot_requests.specs.State.{State}
use Rattle.boot_requests.specs.Apply.{outcome_of, free_number, effect_by, effect, Stored, stored_as, stored_by}
use Rattle.boot_requests.specs.Keeper.{IsStored}
use Rattle.boot_requests.proofs.WholeRuns.Numbers.{tie_test, get_inserted}

-- a free number that is told is an entry's
free_valid : (number : ℕ) → IsOutcome (if ltb number number_count then added_at number else without_entry NoFree)
free_valid number =
    elim (ltb number number_count) as (λ b. ltb number number_count ≡ b → IsOutcome (if b then added_at number else without_entry NoFree)) [
      | true ↦ λ t. (refl, grind (arith, nat_tests, t))
      | false ↦ λ t. tt
    ] refl

pub outcome_valid : (m : State) (request : Request) → IsOutcome (outcome_of m request)
outcome_valid m (AddFree option) = free_valid (free_number m)
outcome_valid m (AddFirst option) = free_valid (free_number m)
outcome_valid m _ = tt

-- what is under an entry's number once this was stored, if that was there before
abbrev pub stands_after : Option Stored → ℕ → Option (List ℕ) → Option (List ℕ)
stands_after None entry before = before
stands_after (Some stored) entry before = cond (eqb entry stored.entry) (option_map option_bytes stored.option) before

entry_by : (m : State) (request : Request) (code : Code) (told : Option ℕ) (entry : ℕ) →
    get (effect_by m request code told).entries entry ≡ stands_after (stored_as request code told) entry (get m.entries entry)
entry_by m (Add number option) Done told entry = get_inserted m.entries number (option_bytes option) entry
entry_by m (Replace number option) Done told entry = get_inserted m.entries number (option_bytes option) entry
entry_by m (Remove number) Done told entry =
    get-remove nat_cmp_total m.entries number entry ∙ ap (λ b. cond b None (get m.entries entry)) (tie_test entry number)
entry_by m (Order numbers) Done told entry = refl
entry_by m (Next number) Done told entry = refl
entry_by m (AddFree option) Done None entry = refl
entry_by m (AddFree option) Done (Some number) entry = get_inserted m.entries number (option_bytes option) entry
entry_by m (AddFirst option) Done None entry = refl
entry_by m (AddFirst option) Done (Some number) entry = get_inserted m.entries number (option_bytes option) entry
entry_by m (First number) Done told entry = refl
entry_by m request code told entry = refl

pub entry_after : (m : State) (request : Request) (outcome : Outcome) (entry : ℕ) →
    get (effect m request outcome).entries entry ≡ stands_after (stored_by request outcome) entry (get m.entries entry)
entry_after m request outcome entry = entry_by m request outcome.code outcome.entry entry

-- what is stored is an option if the request is one
abbrev pub IsValid : Option Stored → Type 0
IsValid stored = IfSome stored (λ s. IfSome s.option IsOption)

valid_as : (request : Request) (code : Code) (told : Option ℕ) → IsRequest request → IsValid (stored_as request code told)
valid_as (Add entry option) Done told valid = valid.1
valid_as (Replace entry option) Done told valid = valid.1
valid_as (Remove entry) Done told valid = tt
valid_as (AddFree option) Done (Some entry) valid = valid
valid_as (AddFirst option) Done (Some entry) valid = valid
valid_as request code told valid = tt

pub stored_valid : (request : Request) (outcome : Outcome) → IsRequest request → IsValid (stored_by request outcome)
stored_valid request outcome valid = valid_as request outcome.code outcome.entry valid

pub spelled : (option : Option OptionParts) → IfSome option IsOption → IsStored option (option_map option_bytes option)
spelled None valid = refl
spelled (Some option) valid = (option_bytes option, refl, (valid, refl))
