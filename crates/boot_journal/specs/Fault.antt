-- The first fault of the bytes of a journal file.
use Rattle.std.specs.Prelude.{◌≡◌, ◌≢◌, ◌⊎◌, ℕ, ◌+◌, ◌<◌, ◌≤◌, List, [], ◌∷◌, ◌++◌, length, Option, None, IfSome, false, true}
use Rattle.std.specs.List.{AllByRecursion}
use Rattle.uefi_vars.specs.Name.{IsNameByte, name_max, IsName}
use Rattle.uefi_vars.specs.Vars.{data_max, IsData}
use Rattle.uefi_vars.specs.Set.{name_bytes}
use Rattle.uefi_vars.specs.Fault.{StatesLength}
use Rattle.uefi_vars.specs.BootChange.{is_boot_name}
use Rattle.boot_journal.specs.declared.fault.JournalFault.{JournalFault}
use Rattle.boot_journal.specs.declared.fault.JournalFault.TheVariants as fault
use Rattle.boot_journal.specs.Journal.{JournalParts}
use Rattle.boot_journal.specs.JournalValue.{IsJournal}
use Rattle.machine_names.specs.MachineName.{machine_name_max, IsMachineName}
use Rattle.boot_journal.specs.Bytes.{magic_1, magic_2, making, taking_back, value_bytes, body_bytes, head_bytes}

-- neither magic is at the start
abbrev pub HasNoMagic : List ℕ → Type 0
HasNoMagic bytes = (rest : List ℕ) → (bytes ≢ magic_1 ++ rest) × (bytes ≢ magic_2 ++ rest)

-- ---- the name of the machine

-- fewer bytes than the name is to have
pub record HasCutMachine (rest : List ℕ) : Type 0 where
  pub len : ℕ
  pub behind : List ℕ
  pub stated : StatesLength rest len behind
  pub good : (0 < len) × (len ≤ machine_name_max)
  pub cut : length behind < len

-- a length that no name has
pub record HasBadMachineLength (rest : List ℕ) : Type 0 where
  pub len : ℕ
  pub behind : List ℕ
  pub stated : StatesLength rest len behind
  pub bad : (len ≡ 0) ⊎ (machine_name_max < len)

-- fewer than the four bytes of its length, or than it is to have
abbrev pub IsCutMachine : List ℕ → Type 0
IsCutMachine rest = (length rest < 4) ⊎ HasCutMachine rest

-- At this place a name is to be, and that is its fault.
abbrev pub IsMachineFault : ℕ → List ℕ → JournalFault → Type 0
IsMachineFault place rest f =
    ((f ≡ fault.Truncated place) × IsCutMachine rest) ⊎ ((f ≡ fault.BadMachine place) × HasBadMachineLength rest)

-- The magic of version 2 is at the start, and that is the fault of the name after it.
pub record HasMachineFault (bytes : List ℕ) (f : JournalFault) : Type 0 where
  pub rest : List ℕ
  pub parts : bytes ≡ magic_2 ++ rest
  pub here : IsMachineFault 4 rest f

-- ---- where a fault of the body can be

-- the fields of the body
pub data Field : Type 0 where
  -- BootKeepState
  State : Field
  -- whether changes are made or taken back
  Course : Field
  -- the identity under which that began
  Identity : Field
  -- BootKeepState before changes that are being made
  Former : Field
  -- the name of a change's variable
  Name : Field
  -- what was there before the change
  Before : Field
  -- what is to be there after it
  After : Field

-- a journal with changes that are to be made or taken back, maybe none as yet
abbrev pub IsBegunJournal : JournalParts → Type 0
IsBegunJournal journal = IsJournal journal × (journal.pending ≢ None)

-- These bytes are what is in the body before such a field: whole fields, of which none is at fault.
abbrev pub IsBefore : Field → List ℕ → Type 0
IsBefore State front = front ≡ []
IsBefore Course front = (state : Option (List ℕ)) × IfSome state IsData × (front ≡ value_bytes state)
IsBefore Identity front =
    (state : Option (List ℕ)) × IfSome state IsData
    × (course : ℕ) × ((course ≡ making) ⊎ (course ≡ taking_back))
    × (front ≡ value_bytes state ++ course ∷ [])
IsBefore Former front =
    (state : Option (List ℕ)) × IfSome state IsData
    × (boot : List ℕ) × IsName boot
    × (front ≡ value_bytes state ++ (making ∷ name_bytes boot))
IsBefore Name front = (journal : JournalParts) × IsBegunJournal journal × (front ≡ body_bytes journal)
IsBefore Before front =
    (journal : JournalParts) × IsBegunJournal journal
    × (name : List ℕ) × (is_boot_name name ≡ true)
    × (front ≡ body_bytes journal ++ name_bytes name)
IsBefore After front =
    (journal : JournalParts) × IsBegunJournal journal
    × (name : List ℕ) × (is_boot_name name ≡ true)
    × (before : Option (List ℕ)) × IfSome before IsData
    × (front ≡ body_bytes journal ++ (name_bytes name ++ value_bytes before))

-- At this place such a field of the body is to be, of which this holds. The body has so many bytes before it.
pub record HasAt (start : ℕ) (body : List ℕ) (place : ℕ) (field : Field) (P : List ℕ → Type 0) : Type 0 where
  pub front : List ℕ
  pub rest : List ℕ
  pub whole : IsBefore field front
  pub parts : body ≡ front ++ rest
  pub at : place ≡ start + length front
  pub here : P rest

-- ---- what may be at fault there

-- fewer bytes than the value is to have
pub record HasCutValue (rest : List ℕ) : Type 0 where
  pub len : ℕ
  pub behind : List ℕ
  pub stated : StatesLength rest len behind
  pub good : len ≤ data_max
  pub cut : length behind < len

-- a length that no value has
pub record HasLongValue (rest : List ℕ) : Type 0 where
  pub len : ℕ
  pub behind : List ℕ
  pub stated : StatesLength rest len behind
  pub bad : data_max < len

-- neither of the two bytes that say a course
pub record HasBadCourse (rest : List ℕ) : Type 0 where
  pub course : ℕ
  pub behind : List ℕ
  pub bad : (course ≢ making) × (course ≢ taking_back)
  pub parts : rest ≡ course ∷ behind

-- fewer characters than the identity is to have
pub record HasCutIdentity (rest : List ℕ) : Type 0 where
  pub len : ℕ
  pub behind : List ℕ
  pub good : (0 < len) × (len ≤ name_max)
  pub parts : rest ≡ len ∷ behind
  pub cut : length behind < len

-- a length that no identity has
pub record HasBadIdentityLength (rest : List ℕ) : Type 0 where
  pub len : ℕ
  pub behind : List ℕ
  pub bad : (len ≡ 0) ⊎ (name_max < len)
  pub parts : rest ≡ len ∷ behind

-- a character that no identity has
pub record HasBadCharacter (rest : List ℕ) : Type 0 where
  pub text : List ℕ
  pub behind : List ℕ
  pub good : (0 < length text) × (length text ≤ name_max)
  pub bad : ¬ AllByRecursion IsNameByte text
  pub parts : rest ≡ name_bytes text ++ behind

-- fewer characters than the name is to have
pub record HasCutName (rest : List ℕ) : Type 0 where
  pub len : ℕ
  pub behind : List ℕ
  pub parts : rest ≡ len ∷ behind
  pub cut : length behind < len

-- a name of none of the boot manager's variables
pub record HasBadName (rest : List ℕ) : Type 0 where
  pub name : List ℕ
  pub behind : List ℕ
  pub bad : is_boot_name name ≡ false
  pub parts : rest ≡ name_bytes name ++ behind

-- fewer than the four bytes of its length, or than it is to have
abbrev pub IsCutValue : List ℕ → Type 0
IsCutValue rest = (length rest < 4) ⊎ HasCutValue rest

-- The bytes end in the field. No course is cut: it is one byte, and the file may end before it, as it may before a name.
abbrev pub IsCut : Field → List ℕ → Type 0
IsCut State rest = IsCutValue rest
IsCut Course rest = ⊥
IsCut Identity rest = (rest ≡ []) ⊎ HasCutIdentity rest
IsCut Former rest = IsCutValue rest
IsCut Name rest = HasCutName rest
IsCut Before rest = IsCutValue rest
IsCut After rest = IsCutValue rest

-- the field is a value, and too long
abbrev pub IsTooLong : Field → List ℕ → Type 0
IsTooLong State rest = HasLongValue rest
IsTooLong Course rest = ⊥
IsTooLong Identity rest = ⊥
IsTooLong Former rest = HasLongValue rest
IsTooLong Name rest = ⊥
IsTooLong Before rest = HasLongValue rest
IsTooLong After rest = HasLongValue rest

-- ---- the first fault

-- The fault is the first of the body, which has so many bytes before it, by cases.
abbrev pub IsBodyFault : ℕ → List ℕ → JournalFault → Type 0
IsBodyFault start body fault.BadMagic = ⊥
IsBodyFault start body (fault.BadMachine place) = ⊥
IsBodyFault start body (fault.Truncated place) = (field : Field) × HasAt start body place field (IsCut field)
IsBodyFault start body (fault.ValueTooLong place) = (field : Field) × HasAt start body place field (IsTooLong field)
IsBodyFault start body (fault.BadCourse place) = HasAt start body place Course HasBadCourse
IsBodyFault start body (fault.BadIdentity place) =
    HasAt start body place Identity (λ rest. HasBadIdentityLength rest ⊎ HasBadCharacter rest)
IsBodyFault start body (fault.BadName place) = HasAt start body place Name HasBadName
IsBodyFault start body fault.OutOfMemory = ⊥

-- What is before the body is whole, and not at fault, and that is the first fault of the body.
pub record HasBodyFault (bytes : List ℕ) (f : JournalFault) : Type 0 where
  pub machine : Option (List ℕ)
  pub named : IfSome machine IsMachineName
  pub body : List ℕ
  pub parts : bytes ≡ head_bytes machine ++ body
  pub here : IsBodyFault (length (head_bytes machine)) body f

-- The fault is the first of the bytes: of the magic, of the name of the machine or of the body.
abbrev pub IsJournalFault : List ℕ → JournalFault → Type 0
IsJournalFault bytes f = ((f ≡ fault.BadMagic) × HasNoMagic bytes) ⊎ (HasMachineFault bytes f ⊎ HasBodyFault bytes f)
