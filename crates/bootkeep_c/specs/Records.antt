-- Records of changes, as C makes and reads them.
use Rattle.std.specs.Prelude.{◌≡◌, ◌⊎◌, ℕ, List, length, Some, None}
use Rattle.std.specs.List.{AllByRecursion, slice_get}
use Rattle.uefi_vars.specs.Vars.{Variables}
use Rattle.uefi_vars.specs.Set.{SpellsSet, set_bytes}
use Rattle.machine_names.specs.MachineName.{IsMachineName}
use Rattle.change_records.specs.declared.fault.RecordFault.{RecordFault}
use Rattle.change_records.specs.declared.stands.Standing.{Standing}
use Rattle.change_records.specs.declared.stands.Standing.TheVariants.{Unchanged, NotMade, Changed}
use Rattle.change_records.specs.Back.{IsWanted}
use Rattle.change_records.specs.BootPart.{IsBootPart, IsStanding}
use Rattle.change_records.specs.Fault.{IsRecordFault}
use Rattle.change_records.specs.Fields.{IsShort}
use Rattle.change_records.specs.Record.{RecordParts, record_fields, SpellsRecord}
use Rattle.change_records.specs.Timeout.{with_timeout_of}
use Rattle.bootkeep_c.specs.declared.failure.Failure.{Failure}
use Rattle.bootkeep_c.specs.declared.record_places.RecordPlaces.{RecordPlaces}
use Rattle.bootkeep_c.specs.Refusals.{bare, record_failure}
use Rattle.bootkeep_c.specs.CommandLines.{AreWordsOf, IsWordsFailure}
use Rattle.bootkeep_c.specs.Parts.{IsPartAt}
use Rattle.bootkeep_c.specs.Sets.{IsSetFailure}

-- ---- records that are made

-- The record has these parts: the name, the time, the words of the command line, and of both sets the boot manager's variables.
pub record IsRecordOf (machine : List ℕ) (time : ℕ) (before after words : List ℕ) (made : RecordParts) : Type 0 where
  pub named : IsMachineName machine
  pub from : Variables
  pub to : Variables
  pub was : SpellsSet before from
  pub is : SpellsSet after to
  pub machine_is : made.machine ≡ machine
  pub time_is : made.time ≡ time
  pub words_are : AreWordsOf words made.words
  pub before_is : IsBootPart from made.before
  pub after_is : IsBootPart to made.after

-- the bytes are that record
abbrev pub IsRecordMade : List ℕ → ℕ → List ℕ → List ℕ → List ℕ → List ℕ → Type 0
IsRecordMade machine time before after words bytes =
    (made : RecordParts) × IsRecordOf machine time before after words made × SpellsRecord bytes made

-- a field of the record is too long
abbrev pub IsTooLong : List ℕ → ℕ → List ℕ → List ℕ → List ℕ → Failure → Type 0
IsTooLong machine time before after words failed =
    (made : RecordParts) × IsRecordOf machine time before after words made × (¬ AllByRecursion IsShort (record_fields made))
    × (failed ≡ bare 0x100A)

-- why two sets aren't ones: the first isn't one, or the first is one and the second isn't
abbrev pub AreSetsFailure : List ℕ → List ℕ → Failure → Type 0
AreSetsFailure before after failed =
    IsSetFailure before failed ⊎ ((from : Variables) × SpellsSet before from × IsSetFailure after failed)

-- why none is made: of several reasons the first one, in this order
abbrev pub IsUnmade : List ℕ → ℕ → List ℕ → List ℕ → List ℕ → Failure → Type 0
IsUnmade machine time before after words failed =
    ((¬ IsMachineName machine) × (failed ≡ bare 0x0D01))
    ⊎ ((IsMachineName machine × IsWordsFailure words failed)
    ⊎ ((IsMachineName machine × ((texts : List (List ℕ)) × AreWordsOf words texts) × AreSetsFailure before after failed)
    ⊎ IsTooLong machine time before after words failed))

-- ---- records that are read

-- the bytes aren't a record, for this
abbrev pub IsRecordFailure : List ℕ → Failure → Type 0
IsRecordFailure bytes failed = (fault : RecordFault) × IsRecordFault bytes fault × (failed ≡ record_failure fault)

-- The numbers tell the parts of the record: the time, how many words there are, and where the bytes of the others are.
pub record ArePlacesOf (bytes : List ℕ) (size : ℕ) (r : RecordParts) (places : RecordPlaces) : Type 0 where
  pub size_is : places.size ≡ size
  pub machine : IsPartAt bytes places.machine places.machine_len r.machine
  pub time : places.time ≡ r.time
  pub before : IsPartAt bytes places.before places.before_len (set_bytes r.before)
  pub after : IsPartAt bytes places.after places.after_len (set_bytes r.after)
  pub words : places.words ≡ length r.words

abbrev pub TellsPlaces : List ℕ → ℕ → RecordPlaces → Type 0
TellsPlaces bytes size places = (r : RecordParts) × SpellsRecord bytes r × ArePlacesOf bytes size r places

-- the record has this word under the number, or none
abbrev pub IsWordIn : List ℕ → ℕ → List ℕ → Type 0
IsWordIn bytes number word = (r : RecordParts) × SpellsRecord bytes r × (slice_get r.words number ≡ Some word)

abbrev pub HasNoWord : List ℕ → ℕ → Type 0
HasNoWord bytes number = (r : RecordParts) × SpellsRecord bytes r × (slice_get r.words number ≡ None)

-- ---- changes that are undone

-- why a record and the variables of a machine can't be compared: the bytes aren't a record, or the others aren't a set
abbrev pub IsUncompared : List ℕ → List ℕ → Failure → Type 0
IsUncompared bytes set failed =
    IsRecordFailure bytes failed ⊎ ((r : RecordParts) × SpellsRecord bytes r × IsSetFailure set failed)

abbrev pub standing_number : Standing → ℕ
standing_number Unchanged = 0
standing_number NotMade = 1
standing_number Changed = 2

-- what the boot manager's variables of a set are, beside the record, which has their Timeout if it says nothing of it
abbrev pub IsStandingIn : List ℕ → List ℕ → ℕ → Type 0
IsStandingIn bytes set told =
    (r : RecordParts) × (now : Variables) × (standing : Standing) × SpellsRecord bytes r × SpellsSet set now
    × IsStanding (with_timeout_of now r) now standing × (told ≡ standing_number standing)

-- the set that undoes the change of that record, where these variables are
abbrev pub IsBackIn : List ℕ → List ℕ → List ℕ → Type 0
IsBackIn bytes set back =
    (r : RecordParts) × (now : Variables) × (wanted : Variables) × SpellsRecord bytes r × SpellsSet set now
    × IsWanted (with_timeout_of now r) now wanted × (back ≡ set_bytes wanted)
