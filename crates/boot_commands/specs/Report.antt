-- Why a report is refused.
use Rattle.std.specs.Prelude.{◌≡◌, ◌⊎◌, ℕ, List, ⊤, codes, Ok, IsErr}
use Rattle.std.specs.String.{string_bytes}
use Rattle.hex.specs.Hex.{decode_of}
use Rattle.uefi_option.specs.declared.fault.OptionFault.{OptionFault}
use Rattle.uefi_option.specs.Fault.{IsFirstFault as IsFirstOptionFault}
use Rattle.uefi_option.specs.Words.{option_fault_words}
use Rattle.uefi_path.specs.declared.fault.PathFault.{PathFault}
use Rattle.uefi_path.specs.Fault.{IsFirstFault as IsFirstPathFault}
use Rattle.uefi_path.specs.Words.{path_fault_words}
use Rattle.uefi_text.specs.declared.fault.TextFault.{TextFault}
use Rattle.uefi_text.specs.Fault.{IsTextFault}
use Rattle.uefi_text.specs.Words.{text_fault_words}
use Rattle.uefi_vars.specs.declared.fault.SetFault.{SetFault}
use Rattle.uefi_vars.specs.declared.fault.VarFault.TheVariants as var_fault
use Rattle.uefi_vars.specs.Fault.{IsFirstFault as IsFirstSetFault}
use Rattle.uefi_vars.specs.Order.{HasBadOrder, HasBadNext}
use Rattle.uefi_vars.specs.Set.{SpellsSet}
use Rattle.uefi_vars.specs.Vars.{Variables}
use Rattle.uefi_vars.specs.Words.{set_fault_words, var_fault_words}
use Rattle.boot_commands.specs.declared.refusal.Refusal.{Refusal}
use Rattle.boot_commands.specs.declared.refusal.Refusal.TheVariants as refusal

-- P of the words, if the input is at fault
abbrev pub IfInput : Refusal → (List ℕ → Type 0) → Type 0
IfInput (refusal.Input words) P = P (string_bytes words)
IfInput refusal.Memory P = ⊤

-- ---- the words that tell what is wrong with an input

-- with hexadecimal digits
abbrev pub TellsBadHex : List ℕ → List ℕ → Type 0
TellsBadHex hex words = IsErr (decode_of hex) × (words ≡ codes "BadHex")

-- with hexadecimal digits that write out the bytes of a path
abbrev pub TellsPathFault : List ℕ → List ℕ → Type 0
TellsPathFault hex words =
    TellsBadHex hex words
    ⊎ ((bytes : List ℕ) × (decode_of hex ≡ Ok bytes)
    × (fault : PathFault) × IsFirstPathFault bytes fault × (words ≡ path_fault_words fault))

-- with the text of a path
abbrev pub TellsTextFault : List ℕ → List ℕ → Type 0
TellsTextFault text words =
    (fault : TextFault) × IsTextFault text fault × (words ≡ text_fault_words fault)

-- with the bytes of a load option
abbrev pub TellsOptionFault : List ℕ → List ℕ → Type 0
TellsOptionFault bytes words =
    (fault : OptionFault) × IsFirstOptionFault bytes fault × (words ≡ option_fault_words fault)

-- with the first of BootOrder and BootNext that is bad
abbrev pub TellsVarFault : Variables → List ℕ → Type 0
TellsVarFault vars words =
    (HasBadOrder vars × (words ≡ var_fault_words var_fault.BadOrder))
    ⊎ ((¬ HasBadOrder vars) × HasBadNext vars × (words ≡ var_fault_words var_fault.BadNext))

-- with the bytes of a set file, or with the variables that they spell
abbrev pub TellsSetFault : List ℕ → List ℕ → Type 0
TellsSetFault bytes words =
    ((fault : SetFault) × IsFirstSetFault bytes fault × (words ≡ set_fault_words fault))
    ⊎ ((vars : Variables) × SpellsSet bytes vars × TellsVarFault vars words)
