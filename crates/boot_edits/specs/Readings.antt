-- For private functions: that variables and load options are read in one way.
use Rattle.std.specs.Prelude.{◌≡◌, ℕ, List, Option}
use Rattle.uefi_option.specs.declared.fault.OptionFault.{OptionFault}
use Rattle.uefi_option.specs.Fault.{IsFirstFault as IsFirstOptionFault}
use Rattle.uefi_option.specs.LoadOption.{OptionParts, SpellsOption}
use Rattle.uefi_vars.specs.Order.{HasOrder, HasNext, HasBadOrder, HasBadNext}
use Rattle.uefi_vars.specs.Vars.{Variables}

pub record HasOneReading : Type 0 where
  pub order : (vars : Variables) (a b : List ℕ) → HasOrder vars a → HasOrder vars b → a ≡ b
  pub bad_order : (vars : Variables) (order : List ℕ) → HasBadOrder vars → HasOrder vars order → ⊥
  pub next : (vars : Variables) (a b : Option ℕ) → HasNext vars a → HasNext vars b → a ≡ b
  pub bad_next : (vars : Variables) (next : Option ℕ) → HasBadNext vars → HasNext vars next → ⊥
  pub option : (bytes : List ℕ) (o p : OptionParts) → SpellsOption bytes o → SpellsOption bytes p → o ≡ p
  pub no_option : (bytes : List ℕ) (f : OptionFault) (o : OptionParts) → IsFirstOptionFault bytes f → SpellsOption bytes o → ⊥
  pub option_fault : (bytes : List ℕ) (f g : OptionFault) → IsFirstOptionFault bytes f → IsFirstOptionFault bytes g → f ≡ g
