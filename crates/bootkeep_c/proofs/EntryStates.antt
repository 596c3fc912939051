-- What a boot makes of an entry.
use Rattle.std.proofs.Common.{◌≡◌, ℕ, List, Option, subst}
use Rattle.uefi_option.specs.LoadOption.{OptionParts}
use Rattle.uefi_vars.specs.Plan.{HasOption}
use Rattle.bootkeep_c.specs.declared.entry.EntryState.{EntryState}
use Rattle.bootkeep_c.specs.declared.entry.EntryState.TheVariants as state
use Rattle.bootkeep_c.specs.Entries.{IsStateOf, HasState, IsEntryState}

has_state : (entries : ℕ → Option (List ℕ)) (number : ℕ) (option : OptionParts) (attributes : ℕ) (is : EntryState) →
    HasOption entries number option → attributes ≡ option.attributes
    → IsStateOf attributes is → HasState entries number is
has_state entries number option attributes is has same of = (option, has, subst (λ (a : ℕ). IsStateOf a is) same of)

-- an entry whose option has these attributes is what they make it
pub state_is : (entries : ℕ → Option (List ℕ)) (number : ℕ) (option : OptionParts) (attributes : ℕ) (is : EntryState) →
    HasOption entries number option → attributes ≡ option.attributes
    → IsStateOf attributes is → IsEntryState entries number is
state_is entries number option attributes state.Normal has same of = has_state entries number option attributes state.Normal has same of
state_is entries number option attributes state.Absent has same of = absurd of
state_is entries number option attributes state.Undecodable has same of = absurd of
state_is entries number option attributes state.Inactive has same of = has_state entries number option attributes state.Inactive has same of
state_is entries number option attributes state.OtherCategory has same of = has_state entries number option attributes state.OtherCategory has same of
