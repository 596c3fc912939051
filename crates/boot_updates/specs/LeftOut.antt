-- Which variables a request changes, or names.
use Rattle.std.specs.Prelude.{◌≡◌, ◌⊎◌, ℕ, List, [], ◌∷◌}
use Rattle.uefi_vars.specs.Name.{order_text, next_text}
use Rattle.boot_requests.specs.declared.request.Request.{Request}
use Rattle.boot_requests.specs.declared.request.Request.TheVariants.{Add, Replace, Remove, Order, Next, AddFree, AddFirst, First}
use Rattle.wanted_changes.specs.LeftOut.{IsOneOf}

-- The request changes the variable of this name, or names its entry. One that makes an entry passes taken numbers over.
abbrev pub IsTouched : Request → List ℕ → Type 0
IsTouched (Add entry option) name = name ≡ order_text
IsTouched (Replace entry option) name = IsOneOf (entry ∷ []) name
IsTouched (Remove entry) name = IsOneOf (entry ∷ []) name ⊎ ((name ≡ order_text) ⊎ (name ≡ next_text))
IsTouched (Order numbers) name = IsOneOf numbers name ⊎ (name ≡ order_text)
IsTouched (Next entry) name = IsOneOf (entry ∷ []) name ⊎ (name ≡ next_text)
IsTouched (AddFree option) name = name ≡ order_text
IsTouched (AddFirst option) name = name ≡ order_text
IsTouched (First entry) name = IsOneOf (entry ∷ []) name ⊎ (name ≡ order_text)
