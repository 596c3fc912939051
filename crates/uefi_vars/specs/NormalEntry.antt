-- For private functions that choose the options of a plan: what one look at an entry tells, and which numbers are chosen.
use Rattle.std.specs.Prelude.{◌≡◌, ℕ, ◌↔◌, Bool, IsTrue, List, map, Option, Some, None}
use Rattle.std.specs.Option.{option_map}
use Rattle.uefi_option.specs.LoadOption.{OptionParts, SpellsOption}
use Rattle.uefi_option.specs.Attributes.{IsNormal}
use Rattle.uefi_vars.specs.declared.boot_plan.Choice.{Choice}
use Rattle.uefi_vars.specs.Plan.{IsNormalChoice, IsNextChoice, AreNormalChoices}

-- this is the option that the bytes spell, or there is none
abbrev pub IsOptionIfAny : List ℕ → Option OptionParts → Type 0
IsOptionIfAny bytes (Some option) = SpellsOption bytes option
IsOptionIfAny bytes None = (option : OptionParts) → SpellsOption bytes option → ⊥

-- the bytes are stored under the number, and an option that they spell is a normal one
abbrev pub MayBeNormal : (ℕ → Option (List ℕ)) → ℕ → List ℕ → Type 0
MayBeNormal entries number bytes = (entries number ≡ Some bytes) × ((option : OptionParts) → SpellsOption bytes option → IsNormal option.attributes)

-- a normal option is under the number
abbrev pub HasNormal : (ℕ → Option (List ℕ)) → ℕ → Type 0
HasNormal entries number = (choice : Choice) × IsNormalChoice entries number choice

-- this is the normal option under the number, or there is none
abbrev pub IsNormalIfAny : (ℕ → Option (List ℕ)) → ℕ → Option Choice → Type 0
IsNormalIfAny entries number (Some choice) = IsNormalChoice entries number choice
IsNormalIfAny entries number None = HasNormal entries number → ⊥

-- this is whether a normal option is under the number
abbrev pub TellsNormal : (ℕ → Option (List ℕ)) → ℕ → Bool → Type 0
TellsNormal entries number normal = IsTrue normal ↔ HasNormal entries number

-- the number of BootNext's option, if there is one
abbrev pub IsNextNumber : (ℕ → Option (List ℕ)) → Option ℕ → Option ℕ → Type 0
IsNextNumber entries next number = (choice : Option Choice) × IsNextChoice entries next choice × (number ≡ option_map (λ c. c.number) choice)

-- the numbers of the normal options of an order
abbrev pub AreNormalNumbers : (ℕ → Option (List ℕ)) → List ℕ → List ℕ → Type 0
AreNormalNumbers entries order numbers = (choices : List Choice) × AreNormalChoices entries order choices × (numbers ≡ map (λ c. c.number) choices)
