-- For private functions: of which entry with a description a variable tells, what is found of a description, and why single steps
-- are refused.
use Rattle.std.specs.Prelude.{◌≡◌, ◌≢◌, ℕ, List, [], ◌∷◌, Some, drop, slice_get}
use Rattle.std.specs.FinMap.{entries}
use Rattle.uefi_vars.specs.RiskOfVariable.{IsEntry}
use Rattle.uefi_vars.specs.Vars.{Variables}
use Rattle.boot_journal.specs.declared.machine.CallError.{CallError}
use Rattle.boot_journal.specs.declared.machine.CallError.TheVariants as call
use Rattle.boot_edits.specs.declared.fault.EditFault.{EditFault}
use Rattle.boot_edits.specs.declared.fault.EditFault.TheVariants as edit
use Rattle.boot_profiles.specs.declared.described.Found.{Found}
use Rattle.boot_profiles.specs.declared.described.Found.TheVariants as found
use Rattle.boot_profiles.specs.declared.fault.EntryFault.{EntryFault}
use Rattle.boot_profiles.specs.declared.fault.NameFault.{NameFault}
use Rattle.boot_profiles.specs.declared.fault.ProfileFault.{ProfileFault}
use Rattle.boot_profiles.specs.declared.fault.ProfileFault.TheVariants.{Entry, OrderName, Order, Next}
use Rattle.boot_profiles.specs.declared.profile.Profile.{Profile}
use Rattle.boot_profiles.specs.declared.profile.ProfileEntry.{ProfileEntry}
use Rattle.boot_profiles.specs.Applied.{IsStep, IsStepFault, IsStepsFault, IsUnordered}
use Rattle.boot_profiles.specs.Described.{HasDescription, IsUnknown, IsNamed, IsAmbiguous}
use Rattle.boot_profiles.specs.Order.{IsNameFault, IsNamesFault}

-- the variable is the entry of this number, and has the description
pub record IsVariableOf (description : List ℕ) (variable : List ℕ × List ℕ) (number : ℕ) : Type 0 where
  pub entry : IsEntry variable number
  pub has : HasDescription variable.1 description

-- the same of the variable at this place in the order of the names
pub record IsNumberAt (vars : Variables) (place : ℕ) (description : List ℕ) (number : ℕ) : Type 0 where
  pub variable : List ℕ × List ℕ
  pub at : slice_get (entries vars) place ≡ Some variable
  pub is : IsVariableOf description variable number

-- ---- what is found of a description

abbrev pub IsFound : Variables → List ℕ → Found → Type 0
IsFound vars description found.Nothing = IsUnknown vars description
IsFound vars description (found.One number) = IsNamed vars description number
IsFound vars description found.Several = IsAmbiguous vars description

-- this many numbers are in the list
abbrev pub IsFoundIn : List ℕ → Found → Type 0
IsFoundIn numbers found.Nothing = numbers ≡ []
IsFoundIn numbers (found.One number) = numbers ≡ number ∷ []
IsFoundIn numbers found.Several = (first : ℕ) × (second : ℕ) × (rest : List ℕ) × (numbers ≡ first ∷ second ∷ rest)

-- ---- why single steps are refused

-- the edit was refused for this fault, which isn't that of memory
abbrev pub IfFault : (EditFault → Type 0) → EditFault → Type 0
IfFault IsFault f = f ≢ edit.OutOfMemory → IsFault f

abbrev pub IsNameRefusal : Variables → List (List ℕ) → ProfileFault → Type 0
IsNameRefusal vars names (Entry place f) = ⊥
IsNameRefusal vars names (OrderName place f) = IsNamesFault vars 0 names place f
IsNameRefusal vars names (Order f) = ⊥
IsNameRefusal vars names (Next f) = ⊥

abbrev pub IsStepsRefusal : List ProfileEntry → Variables → ProfileFault → Type 0
IsStepsRefusal entries from (Entry place f) = IsStepsFault 0 entries from place f
IsStepsRefusal entries from (OrderName place f) = ⊥
IsStepsRefusal entries from (Order f) = ⊥
IsStepsRefusal entries from (Next f) = ⊥

-- what an entry at a place of the list makes of the variables
pub record IsStepAt (vars : Variables) (entries : List ProfileEntry) (place : ℕ) (to : Variables) : Type 0 where
  pub entry : ProfileEntry
  pub rest : List ProfileEntry
  pub here : drop place entries ≡ entry ∷ rest
  pub made : IsStep vars entry rest to

pub record IsStepFaultAt (vars : Variables) (entries : List ProfileEntry) (place : ℕ) (f : ProfileFault) : Type 0 where
  pub entry : ProfileEntry
  pub rest : List ProfileEntry
  pub here : drop place entries ≡ entry ∷ rest
  pub fault : EntryFault
  pub is : f ≡ Entry place fault
  pub why : IsStepFault vars entry rest fault

-- the entry of this number is named by the description at a place of the list
pub record IsNameAt (vars : Variables) (names : List (List ℕ)) (place number : ℕ) : Type 0 where
  pub name : List ℕ
  pub rest : List (List ℕ)
  pub here : drop place names ≡ name ∷ rest
  pub named : IsNamed vars name number

-- or none is
pub record IsNameFaultAt (vars : Variables) (names : List (List ℕ)) (place : ℕ) (f : ProfileFault) : Type 0 where
  pub name : List ℕ
  pub rest : List (List ℕ)
  pub here : drop place names ≡ name ∷ rest
  pub fault : NameFault
  pub is : f ≡ OrderName place fault
  pub why : IsNameFault vars name fault

-- the same errors, of a whole profile
abbrev pub IsErrorAt : ℕ → CallError EntryFault → CallError ProfileFault → Type 0
IsErrorAt place call.OutOfMemory to = to ≡ call.OutOfMemory
IsErrorAt place (call.Refused f) to = to ≡ call.Refused (Entry place f)

abbrev pub IsNameErrorAt : ℕ → CallError NameFault → CallError ProfileFault → Type 0
IsNameErrorAt place call.OutOfMemory to = to ≡ call.OutOfMemory
IsNameErrorAt place (call.Refused f) to = to ≡ call.Refused (OrderName place f)

abbrev pub IsNextErrorOf : CallError NameFault → CallError ProfileFault → Type 0
IsNextErrorOf call.OutOfMemory to = to ≡ call.OutOfMemory
IsNextErrorOf (call.Refused f) to = to ≡ call.Refused (Next f)

-- why the entries aren't made, or BootOrder isn't
abbrev pub IsOrderedFault : Profile → Variables → ProfileFault → Type 0
IsOrderedFault profile from (Entry place f) = IsStepsFault 0 profile.entries.items from place f
IsOrderedFault profile from (OrderName place f) = IsUnordered profile from (OrderName place f)
IsOrderedFault profile from (Order f) = IsUnordered profile from (Order f)
IsOrderedFault profile from (Next f) = ⊥
