-- Texts of paths, and what is wrong with them.
use Rattle.std.proofs.Common.{◌≡◌, ◌≢◌, inl, inr, Bool, List, [], ◌∷◌, map, refl, ap}
use Rattle.std.specs.Prelude.{◌||◌, Result, Ok, Err}
use Rattle.std.specs.List.{list_any}
use Rattle.uefi_path.specs.declared.node.Node.{Node}
use Rattle.uefi_path.specs.Answer.{IsUnless}
use Rattle.uefi_names.specs.declared.fault.NamedFault.{NamedFault}
use Rattle.uefi_names.specs.declared.fault.NamedFault.TheVariants as named_fault

pub any_made : {X Y : Type 0} (g : X → Y) (f : Y → Bool) (xs : List X) → list_any (λ x. f (g x)) xs ≡ list_any f (map g xs)
any_made g f [] = refl
any_made g f (x ∷ xs) = ap (λ b. f (g x) || b) (any_made g f xs)

-- a text with another fault than memory stands for no path
pub none_named : (r : Result (List (List Node)) NamedFault) (path : List (List Node)) (f : NamedFault) → r ≡ Err f → f ≢ named_fault.OutOfMemory
    → IsUnless r (Ok path) named_fault.OutOfMemory → ⊥
none_named r path f is other (inl there) = cc
none_named r path f is other (inr memory) = other cc
