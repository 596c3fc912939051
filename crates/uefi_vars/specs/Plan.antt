-- What a boot would try: BootNext's option, and then options of BootOrder in their order (UEFI 2.10, 3.3). Which of them
-- is a choice made here: BootNext's always, and of BootOrder's the normal ones. What is stored under the numbers of
-- entries is seen as a function.
use Rattle.std.specs.Prelude.{◌≡◌, ◌⊎◌, ℕ, List, [], ◌∷◌, map, Option, Some, None}
use Rattle.std.specs.Option.{option_map}
use Rattle.uefi_option.specs.LoadOption.{OptionParts, SpellsOption}
use Rattle.uefi_option.specs.Attributes.{IsNormal}
use Rattle.uefi_vars.specs.declared.boot_plan.Choice.{Choice}
use Rattle.uefi_vars.specs.Vars.{Variables, entry_of}
use Rattle.uefi_vars.specs.Order.{HasOrder, HasNext}

-- what is tried first, if anything, and what then
pub record PlanParts : Type 0 where
  pub next : Option Choice
  pub normal : List Choice

abbrev pub plan_parts : Option Choice → List Choice → PlanParts
plan_parts next normal = record { next = next; normal = normal }

-- what is stored under the number spells the option
pub record HasOption (entries : ℕ → Option (List ℕ)) (number : ℕ) (option : OptionParts) : Type 0 where
  pub bytes : List ℕ
  pub stored : entries number ≡ Some bytes
  pub spelled : SpellsOption bytes option

-- this is the option under the number, or there is none
abbrev pub IsEntryOption : (ℕ → Option (List ℕ)) → ℕ → Option OptionParts → Type 0
IsEntryOption entries number (Some option) = HasOption entries number option
IsEntryOption entries number None = (option : OptionParts) → HasOption entries number option → ⊥

-- the choice is the number with its option
abbrev pub IsChoice : (ℕ → Option (List ℕ)) → ℕ → Choice → Type 0
IsChoice entries number choice = (choice.number ≡ number) × HasOption entries number choice.option

-- the choice is also one that the boot manager tries by itself
abbrev pub IsNormalChoice : (ℕ → Option (List ℕ)) → ℕ → Choice → Type 0
IsNormalChoice entries number choice = IsChoice entries number choice × IsNormal choice.option.attributes

-- BootNext's option, whatever its attributes are: none if there is no BootNext, or no option under its number
abbrev pub IsNextChoice : (ℕ → Option (List ℕ)) → Option ℕ → Option Choice → Type 0
IsNextChoice entries None choice = choice ≡ None
IsNextChoice entries (Some number) (Some choice) = IsChoice entries number choice
IsNextChoice entries (Some number) None = (choice : Choice) → IsChoice entries number choice → ⊥

-- The normal options of an order: one for each number that has a normal option, as often as it occurs there.
abbrev pub AreNormalChoices : (ℕ → Option (List ℕ)) → List ℕ → List Choice → Type 0
AreNormalChoices entries [] choices = choices ≡ []
AreNormalChoices entries (number ∷ order) choices =
    ((choice : Choice) × (others : List Choice) × (choices ≡ choice ∷ others) × IsNormalChoice entries number choice
    × AreNormalChoices entries order others)
    ⊎ (((choice : Choice) → IsNormalChoice entries number choice → ⊥) × AreNormalChoices entries order choices)

-- the plan of such entries, order and next
pub record IsPlan (entries : ℕ → Option (List ℕ)) (order : List ℕ) (next : Option ℕ) (plan : PlanParts) : Type 0 where
  pub first : IsNextChoice entries next plan.next
  pub others : AreNormalChoices entries order plan.normal

-- the plan of the variables
pub record HasPlan (vars : Variables) (plan : PlanParts) : Type 0 where
  pub order : List ℕ
  pub next : Option ℕ
  pub has_order : HasOrder vars order
  pub has_next : HasNext vars next
  pub is : IsPlan (entry_of vars) order next plan

-- the numbers are those of the choices of the plan, in their order
pub record AreNumbersOf (plan : PlanParts) (next : Option ℕ) (normal : List ℕ) : Type 0 where
  pub first : next ≡ option_map (λ choice. choice.number) plan.next
  pub others : normal ≡ map (λ choice. choice.number) plan.normal
