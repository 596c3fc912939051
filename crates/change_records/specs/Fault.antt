-- The fault of the bytes of a record's file.
use Rattle.std.specs.Prelude.{◌≡◌, ◌≢◌, ◌⊎◌, ℕ, ◌<◌, List, ◌∷◌, ◌++◌, length, IsUtf8}
use Rattle.std.specs.List.{AllByRecursion}
use Rattle.uefi_vars.specs.declared.fault.SetFault.{SetFault}
use Rattle.uefi_vars.specs.Vars.{Variables}
use Rattle.uefi_vars.specs.Set.{SpellsSet}
use Rattle.uefi_vars.specs.Fault.{IsFirstFault}
use Rattle.machine_names.specs.MachineName.{IsMachineName}
use Rattle.change_records.specs.declared.fault.RecordFault.{RecordFault}
use Rattle.change_records.specs.declared.fault.RecordFault.TheVariants as fault
use Rattle.change_records.specs.Fields.{HasFields, IsFileFault}

-- ---- faults in the fields

-- the fields of a record, as they are in its file
pub record Row : Type 0 where
  pub machine : List ℕ
  pub time : List ℕ
  pub before : List ℕ
  pub after : List ℕ
  pub words : List (List ℕ)

abbrev pub row_fields : Row → List (List ℕ)
row_fields row = row.machine ∷ row.time ∷ row.before ∷ row.after ∷ row.words

-- some variables are spelled so
abbrev pub IsSet : List ℕ → Type 0
IsSet bytes = (vars : Variables) × SpellsSet bytes vars

-- the word of this number is the first that isn't UTF-8
pub record IsFirstBadWord (words : List (List ℕ)) (number : ℕ) : Type 0 where
  pub front : List (List ℕ)
  pub word : List ℕ
  pub behind : List (List ℕ)
  pub good : AllByRecursion IsUtf8 front
  pub bad : ¬ IsUtf8 word
  pub parts : words ≡ front ++ word ∷ behind
  pub at : number ≡ length front

-- The fault is that of the first field that has one.
abbrev pub IsRowFault : Row → RecordFault → Type 0
IsRowFault row fault.BadMagic = ⊥
IsRowFault row (fault.Truncated place) = ⊥
IsRowFault row fault.TooFewFields = ⊥
IsRowFault row fault.BadMachine = ¬ IsMachineName row.machine
IsRowFault row fault.BadTime = IsMachineName row.machine × (length row.time ≢ 8)
IsRowFault row (fault.BadBefore f) = IsMachineName row.machine × (length row.time ≡ 8) × IsFirstFault row.before f
IsRowFault row (fault.BadAfter f) = IsMachineName row.machine × (length row.time ≡ 8) × IsSet row.before × IsFirstFault row.after f
IsRowFault row (fault.BadWord number) =
    IsMachineName row.machine × (length row.time ≡ 8) × IsSet row.before × IsSet row.after × IsFirstBadWord row.words number
IsRowFault row fault.OutOfMemory = ⊥

-- ---- the fault of a file

-- There are fewer fields than those before the words, or they are those of a row, and that is its fault.
abbrev pub IsFieldsFault : List (List ℕ) → RecordFault → Type 0
IsFieldsFault fields f =
    ((f ≡ fault.TooFewFields) × (length fields < 4)) ⊎ ((row : Row) × (fields ≡ row_fields row) × IsRowFault row f)

-- the bytes have these fields, and that is their fault
pub record HasFieldsFault (bytes : List ℕ) (f : RecordFault) : Type 0 where
  pub fields : List (List ℕ)
  pub has : HasFields bytes fields
  pub here : IsFieldsFault fields f

-- The fault is that of the bytes: of the file if it has no fields, otherwise of these.
abbrev pub IsRecordFault : List ℕ → RecordFault → Type 0
IsRecordFault bytes f = IsFileFault bytes f ⊎ HasFieldsFault bytes f

-- ---- for private functions

-- the fault that is made of the first one of a set
abbrev pub IsSetFault : (SetFault → RecordFault) → List ℕ → RecordFault → Type 0
IsSetFault made bytes f = (cause : SetFault) × (f ≡ made cause) × IsFirstFault bytes cause

-- the fault is that of the first word that isn't UTF-8
abbrev pub IsWordFault : List (List ℕ) → RecordFault → Type 0
IsWordFault words f = (number : ℕ) × (f ≡ fault.BadWord number) × IsFirstBadWord words number
