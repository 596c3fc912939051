-- For private functions of the reader of journals: what is read at the start of some bytes, with which a file of this
-- length ends, or the fault that is met there.
use Rattle.std.specs.Prelude.{◌≡◌, ◌&&◌, ℕ, zero, suc, ◌-◌, ◌==◌, nat_lt, Bool, not, List, [], ◌∷◌, length, take, drop, Option, Some, None, Result, Ok, Err}
use Rattle.std.specs.Prelude.{if◌then◌else◌}
use Rattle.std.specs.Int.{w32, from_le_bytes}
use Rattle.std.specs.List.{list_all, starts_with}
use Rattle.uefi_vars.specs.Name.{name_max}
use Rattle.uefi_vars.specs.Vars.{data_max}
use Rattle.uefi_vars.specs.BootChange.{ChangeParts, is_boot_name}
use Rattle.boot_journal.specs.declared.fault.JournalFault.{JournalFault}
use Rattle.boot_journal.specs.declared.fault.JournalFault.TheVariants as fault
use Rattle.boot_journal.specs.declared.journal_file.JournalFile.{JournalFile}
use Rattle.boot_journal.specs.Journal.{JournalParts, PendingParts, Makes, TakesBack}
use Rattle.machine_names.specs.MachineName.{machine_name_max}
use Rattle.boot_journal.specs.Bytes.{magic_1, magic_2, making, taking_back, of_machine}

infixl 10 ◌>>=◌
abbrev pub ◌>>=◌ : {A B : Type 0} → Result A JournalFault → (A → Result B JournalFault) → Result B JournalFault
(Ok x) >>= f = f x
(Err e) >>= f = Err e

-- What a function returned, seen so, is what reading gives, unless memory was refused.
abbrev pub Fails : {Y : Type 0} → JournalFault → Result Y JournalFault → Type 0
Fails fault.BadMagic read = read ≡ Err fault.BadMagic
Fails (fault.BadMachine place) read = read ≡ Err (fault.BadMachine place)
Fails (fault.Truncated place) read = read ≡ Err (fault.Truncated place)
Fails (fault.ValueTooLong place) read = read ≡ Err (fault.ValueTooLong place)
Fails (fault.BadCourse place) read = read ≡ Err (fault.BadCourse place)
Fails (fault.BadIdentity place) read = read ≡ Err (fault.BadIdentity place)
Fails (fault.BadName place) read = read ≡ Err (fault.BadName place)
Fails fault.OutOfMemory read = Unit {0}

abbrev pub Gives : {X Y : Type 0} → (X → Y) → Result X JournalFault → Result Y JournalFault → Type 0
Gives view (Ok x) read = read ≡ Ok (view x)
Gives view (Err e) read = Fails e read

-- the place of the bytes with which a file of this length ends
abbrev pub place_of : ℕ → List ℕ → ℕ
place_of end bytes = end - length bytes

-- ---- a length of four bytes

-- the length, and the bytes after it
unfoldable pub len_at : ℕ → List ℕ → Result (ℕ × List ℕ) JournalFault
len_at end bytes =
    if nat_lt (length bytes) 4 then Err (fault.Truncated (place_of end bytes))
    else Ok (from_le_bytes w32 (take 4 bytes), drop 4 bytes)

-- ---- a value

abbrev pub stored : List ℕ → Option (List ℕ)
stored [] = None
stored (byte ∷ bytes) = Some (byte ∷ bytes)

-- its bytes, of which there are to be this many; the place is that of the value
abbrev pub value_of : ℕ → ℕ → List ℕ → Result (Option (List ℕ) × List ℕ) JournalFault
value_of place len behind =
    if nat_lt data_max len then Err (fault.ValueTooLong place)
    else (if nat_lt (length behind) len then Err (fault.Truncated place)
    else Ok (stored (take len behind), drop len behind))

unfoldable pub value_at : ℕ → List ℕ → Result (Option (List ℕ) × List ℕ) JournalFault
value_at end bytes = len_at end bytes >>= λ len. value_of (place_of end bytes) len.0 len.1

-- ---- the name of a machine

-- its bytes, of which there are to be this many; the place is that of the name
abbrev pub machine_of : ℕ → ℕ → List ℕ → Result (List ℕ × List ℕ) JournalFault
machine_of place len behind =
    if len == 0 then Err (fault.BadMachine place)
    else (if nat_lt machine_name_max len then Err (fault.BadMachine place)
    else (if nat_lt (length behind) len then Err (fault.Truncated place)
    else Ok (take len behind, drop len behind)))

unfoldable pub machine_at : ℕ → List ℕ → Result (List ℕ × List ℕ) JournalFault
machine_at end bytes = len_at end bytes >>= λ len. machine_of (place_of end bytes) len.0 len.1

-- ---- an identity

abbrev pub is_printing : List ℕ → Bool
is_printing text = list_all (λ byte. not (nat_lt byte 0x21) && not (nat_lt 0x7E byte)) text

-- its characters, of which there are to be this many; the place is that of the identity
abbrev pub identity_of : ℕ → ℕ → List ℕ → Result (List ℕ × List ℕ) JournalFault
identity_of place len behind =
    if len == 0 then Err (fault.BadIdentity place)
    else (if nat_lt name_max len then Err (fault.BadIdentity place)
    else (if nat_lt (length behind) len then Err (fault.Truncated place)
    else (if is_printing (take len behind) then Ok (take len behind, drop len behind)
    else Err (fault.BadIdentity place))))

unfoldable pub identity_at : ℕ → List ℕ → Result (List ℕ × List ℕ) JournalFault
identity_at end [] = Err (fault.Truncated (place_of end []))
identity_at end (len ∷ behind) = identity_of (place_of end (len ∷ behind)) len behind

-- ---- a change

abbrev pub name_of : ℕ → ℕ → List ℕ → Result (List ℕ × List ℕ) JournalFault
name_of place len behind =
    if nat_lt (length behind) len then Err (fault.Truncated place)
    else (if is_boot_name (take len behind) then Ok (take len behind, drop len behind)
    else Err (fault.BadName place))

unfoldable pub name_at : ℕ → List ℕ → Result (List ℕ × List ℕ) JournalFault
name_at end [] = Err (fault.Truncated (place_of end []))
name_at end (len ∷ behind) = name_of (place_of end (len ∷ behind)) len behind

unfoldable pub change_at : ℕ → List ℕ → Result (ChangeParts × List ℕ) JournalFault
change_at end bytes = do
  name ← name_at end bytes
  before ← value_at end name.1
  after ← value_at end before.1
  Ok (record { name = name.0; before = before.0; after = after.0 }, after.1)

-- ---- all changes, of which there are at most this many

unfoldable pub changes_within : ℕ → ℕ → List ℕ → Result (List ChangeParts) JournalFault
changes_within zero end bytes = Ok []
changes_within (suc count) end [] = Ok []
changes_within (suc count) end (byte ∷ bytes) = do
  first ← change_at end (byte ∷ bytes)
  others ← changes_within count end first.1
  Ok (first.0 ∷ others)

-- each has some byte
abbrev pub changes_at : ℕ → List ℕ → Result (List ChangeParts) JournalFault
changes_at end bytes = changes_within (length bytes) end bytes

-- ---- what is still to be done

unfoldable pub making_at : ℕ → List ℕ → Result PendingParts JournalFault
making_at end bytes = do
  boot ← identity_at end bytes
  former ← value_at end boot.1
  changes ← changes_at end former.1
  Ok (Makes former.0 changes boot.0)

unfoldable pub taking_back_at : ℕ → List ℕ → Result PendingParts JournalFault
taking_back_at end bytes = do
  boot ← identity_at end bytes
  changes ← changes_at end boot.1
  Ok (TakesBack changes boot.0)

abbrev pub begun_at : ℕ → ℕ → ℕ → List ℕ → Result PendingParts JournalFault
begun_at end place course behind =
    if course == making then making_at end behind
    else (if course == taking_back then taking_back_at end behind
    else Err (fault.BadCourse place))

unfoldable pub pending_at : ℕ → List ℕ → Result (Option PendingParts) JournalFault
pending_at end [] = Ok None
pending_at end (course ∷ behind) = begun_at end (place_of end (course ∷ behind)) course behind >>= λ pending. Ok (Some pending)

-- ---- the body

unfoldable pub parts_at : ℕ → List ℕ → Result JournalParts JournalFault
parts_at end bytes = do
  state ← value_at end bytes
  pending ← pending_at end state.1
  Ok (record { state = state.0; pending = pending })

-- ---- the file

-- what follows the magic of version 1
unfoldable pub unnamed_at : ℕ → List ℕ → Result JournalFile JournalFault
unnamed_at end bytes = parts_at end bytes >>= λ journal. Ok (record { machine = None; journal = journal })

-- what follows the magic of version 2
unfoldable pub named_at : ℕ → List ℕ → Result JournalFile JournalFault
named_at end bytes = do
  machine ← machine_at end bytes
  journal ← parts_at end machine.1
  Ok (of_machine machine.0 journal)

unfoldable pub file_at : List ℕ → Result JournalFile JournalFault
file_at bytes =
    if starts_with ◌==◌ bytes magic_2 then named_at (length bytes) (drop 4 bytes)
    else (if starts_with ◌==◌ bytes magic_1 then unnamed_at (length bytes) (drop 4 bytes)
    else Err fault.BadMagic)
