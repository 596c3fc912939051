-- Which variables an edit changes, or names.
use Rattle.std.specs.Prelude.{◌≡◌, ◌≢◌, ◌⊎◌, ℕ, List, [], ◌∷◌, Some, None}
use Rattle.uefi_vars.specs.Name.{order_text, next_text, timeout_text}
use Rattle.boot_edits.specs.declared.addition.Position.TheVariants.{NoOrder}
use Rattle.boot_edits.specs.declared.edit.Edit.{Edit}
use Rattle.boot_edits.specs.declared.edit.Edit.TheVariants.{Add, Remove, First, Order, Unrepeat, Next, Timeout, Activate, Deactivate}
use Rattle.wanted_changes.specs.LeftOut.{IsOneOf}

-- The edit changes the variable of this name, or names its entry. One that makes an entry passes taken numbers over.
abbrev pub IsTouched : Edit → List ℕ → Type 0
IsTouched (Add addition) name = (addition.position ≢ NoOrder) × (name ≡ order_text)
IsTouched (Remove entries) name = IsOneOf entries.now name ⊎ ((name ≡ order_text) ⊎ (name ≡ next_text))
IsTouched (First entries) name = IsOneOf entries.now name ⊎ (name ≡ order_text)
IsTouched (Order new) name = IsOneOf new.entries.now name ⊎ (name ≡ order_text)
IsTouched Unrepeat name = name ≡ order_text
IsTouched (Next (Some entry)) name = IsOneOf (entry ∷ []) name ⊎ (name ≡ next_text)
IsTouched (Next None) name = name ≡ next_text
IsTouched (Timeout seconds) name = name ≡ timeout_text
IsTouched (Activate entries) name = IsOneOf entries.now name
IsTouched (Deactivate entries) name = IsOneOf entries.now name
