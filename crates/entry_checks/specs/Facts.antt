-- What is found of an entry by what is known of it.
use Rattle.std.specs.Prelude.{ℕ, bit_and, ◌==◌, Bool, true, false, ◌&&◌, not, List, [], ◌∷◌, ◌++◌, Option, Some, None, if◌then◌else◌}
use Rattle.std.specs.List.{list_any}
use Rattle.uefi_option.specs.Attributes.{active_bit, category_of, category_boot}
use Rattle.entry_checks.specs.declared.facts.Facts.{Facts}
use Rattle.entry_checks.specs.declared.facts.Held.{Held}
use Rattle.entry_checks.specs.declared.facts.Held.TheVariants as held
use Rattle.entry_checks.specs.declared.facts.OptionFacts.{OptionFacts}
use Rattle.entry_checks.specs.declared.finding.Finding.{Finding}
use Rattle.entry_checks.specs.declared.finding.Finding.TheVariants as finding
use Rattle.entry_checks.specs.declared.facts.State.{State}
use Rattle.entry_checks.specs.declared.facts.State.TheVariants.{Ok, Wrong, Unknown}
use Rattle.entry_checks.specs.declared.image.ImageState.{ImageState}
use Rattle.entry_checks.specs.declared.finding.Weight.{Weight}
use Rattle.entry_checks.specs.declared.finding.Weight.TheVariants.{Fault, Unseen}
use Rattle.entry_checks.specs.Finding.{weight_of}

-- the bit LOAD_OPTION_HIDDEN (UEFI 2.10, 3.1.3)
abbrev pub hidden_bit : ℕ
hidden_bit = 0x00000008

abbrev pub is_inactive : ℕ → Bool
is_inactive attributes = bit_and attributes active_bit == 0

abbrev pub is_of_other_category : ℕ → Bool
is_of_other_category attributes = not (category_of attributes == category_boot)

abbrev pub is_hidden : ℕ → Bool
is_hidden attributes = not (bit_and attributes hidden_bit == 0)

-- the finding, if it is one
abbrev pub when : Bool → Finding → List Finding
when true found = found ∷ []
when false found = []

-- of the file of an entry, if anything is known of it but that nothing is wrong
abbrev pub image_findings_of : Option ImageState → List Finding
image_findings_of None = []
image_findings_of (Some image) = finding.Image image ∷ []

-- of a load option, in an entry that BootNext names or doesn't, and that nothing names or something does: what BootNext names
-- is tried whatever its attributes are, and what nothing names isn't tried though it were active
abbrev pub option_findings_of : Bool → Bool → OptionFacts → List Finding
option_findings_of is_next is_unnamed option =
    ((((finding.Leads option.lead ∷ [] ++ image_findings_of option.image)
    ++ when option.is_twin finding.Twin)
    ++ when ((not is_next && not is_unnamed) && is_inactive option.attributes) finding.Inactive)
    ++ when (not is_next && is_of_other_category option.attributes) finding.OtherCategory)
    ++ when (is_hidden option.attributes) finding.Hidden

abbrev pub held_findings_of : Bool → Bool → Held → List Finding
held_findings_of is_next is_unnamed held.NoOption = finding.Undecodable ∷ []
held_findings_of is_next is_unnamed (held.Option option) = option_findings_of is_next is_unnamed option

-- all of them
abbrev pub findings_of : Facts → List Finding
findings_of facts = held_findings_of facts.is_next facts.is_unnamed facts.held ++ when facts.is_unnamed finding.Unnamed

abbrev pub is_fault_weight : Weight → Bool
is_fault_weight Fault = true
is_fault_weight _ = false

abbrev pub is_unseen_weight : Weight → Bool
is_unseen_weight Unseen = true
is_unseen_weight _ = false

abbrev pub is_fault : Finding → Bool
is_fault found = is_fault_weight (weight_of found)

abbrev pub is_unseen : Finding → Bool
is_unseen found = is_unseen_weight (weight_of found)

-- wrong if a finding is a fault, and otherwise not known if one says that something wasn't looked at
abbrev pub state_of : List Finding → State
state_of found = if list_any is_fault found then Wrong else if list_any is_unseen found then Unknown else Ok
