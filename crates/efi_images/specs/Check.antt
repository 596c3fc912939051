-- Checks, one after the other: the first that doesn't hold decides.
use Rattle.std.specs.Prelude.{◌≡◌, Bool, IsTrue, IsFalse, List, [], ◌∷◌, ◌++◌, Option, Some, None, if◌then◌else◌}
use Rattle.std.specs.List.{AllByRecursion}
use Rattle.efi_images.specs.declared.fault.ImageFault.{ImageFault}

-- what has to hold, and what is told if it doesn't
pub record Check : Type 0 where
  pub holds : Bool
  pub otherwise : ImageFault

abbrev pub check : Bool → ImageFault → Check
check holds otherwise = record { holds = holds; otherwise = otherwise }

abbrev pub first_fault : List Check → Option ImageFault
first_fault [] = None
first_fault (c ∷ others) = if c.holds then first_fault others else Some c.otherwise

-- ---- the same in other words

-- the check doesn't hold, and it is the first of these that doesn't
pub record IsFirst (checks : List Check) (c : Check) : Type 0 where
  pub front : List Check
  pub back : List Check
  pub is : checks ≡ front ++ c ∷ back
  pub held : AllByRecursion (λ (d : Check). IsTrue d.holds) front
  pub fails : IsFalse c.holds
