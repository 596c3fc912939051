-- The first check that doesn't hold, of lists of checks one after the other.
use Rattle.std.proofs.Common.{◌≡◌, refl, Bool, true, false, List, [], ◌∷◌, ◌++◌, Option, Some, None, if◌then◌else◌, ap, sym, ◌∙◌}
use Rattle.std.specs.Option.{option_or}
use Rattle.efi_images.specs.Check.{Check, first_fault}
use Rattle.efi_images.specs.declared.fault.ImageFault.{ImageFault}

either : (holds : Bool) (fault : ImageFault) (all rest more : Option ImageFault) → all ≡ option_or rest more
    → (if holds then all else Some fault) ≡ option_or (if holds then rest else Some fault) more
either true fault all rest more e = e
either false fault all rest more e = refl

-- the first of two lists is that of the first list, or else that of the second
pub first_fault_append : (front back : List Check) → first_fault (front ++ back) ≡ option_or (first_fault front) (first_fault back)
first_fault_append [] back = refl
first_fault_append (c ∷ front) back = either c.holds c.otherwise _ _ _ (first_fault_append front back)

-- the first list has none, so it is that of the second
pub passed : (front back : List Check) (told : Option ImageFault) → told ≡ first_fault (front ++ back) → None ≡ first_fault front
    → told ≡ first_fault back
passed front back told is none =
    is ∙ first_fault_append front back ∙ ap (λ first. option_or first (first_fault back)) (sym none)

-- the first list has one
pub stopped : (front back : List Check) (told : Option ImageFault) (f : ImageFault) → told ≡ first_fault (front ++ back)
    → Some f ≡ first_fault front → Some f ≡ told
stopped front back told f is some =
    sym (is ∙ first_fault_append front back ∙ ap (λ first. option_or first (first_fault back)) (sym some))
