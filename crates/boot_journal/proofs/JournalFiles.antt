-- What journal files spell, and what the reader's answer says of the bytes: what it reads is spelled (`Readings`) and what is spelled is
-- read (`Spellings`), so bytes spell one journal or have one first fault.
use Rattle.std.proofs.Common.{◌≡◌, ◌≢◌, ◌⊎◌, ℕ, Bool, true, eqb, List, [], ◌∷◌, ◌++◌, length, drop, Option, Some, None, IfSome, Result, Ok, Err, refl, sym}
use Rattle.std.proofs.Common.{ap, subst, ◌∙◌, inl, inr, arith}
use Rattle.std.specs.Prelude.{IfOk, IfErr}
use Rattle.std.specs.List.{AllByRecursion, starts_with}
use Rattle.std.proofs.lemmas.Bool.Decides.{Decides-eqb}
use Rattle.std.proofs.lemmas.Slice.Eq.{starts_is}
use Rattle.uefi_path.specs.Answer.{IsUnless}
use Rattle.uefi_path.specs.Row.{IsByte}
use Rattle.uefi_vars.specs.Name.{IsNameByte, IsName}
use Rattle.uefi_vars.specs.Vars.{IsData}
use Rattle.uefi_vars.specs.Set.{name_bytes}
use Rattle.uefi_vars.proofs.Bytes.{AllByRecursion-append}
use Rattle.uefi_vars.specs.BootChange.{ChangeParts, is_boot_name}
use Rattle.boot_journal.specs.declared.fault.JournalFault.{JournalFault}
use Rattle.boot_journal.specs.declared.fault.JournalFault.TheVariants as fault
use Rattle.boot_journal.specs.declared.journal_file.JournalFile.{JournalFile}
use Rattle.boot_journal.specs.Journal.{JournalParts, PendingParts, Makes, TakesBack}
use Rattle.boot_journal.specs.JournalValue.{IsPending, IsJournal}
use Rattle.boot_journal.specs.Values.{IsBootChange}
use Rattle.machine_names.specs.MachineName.{IsMachineName}
use Rattle.boot_journal.specs.Bytes.{value_bytes, change_bytes, changes_bytes, pending_bytes, body_bytes, head_bytes, file_bytes, IsJournalFile}
use Rattle.boot_journal.specs.Bytes.{SpellsJournalFile}
use Rattle.boot_journal.specs.Fault.{IsJournalFault}
use Rattle.boot_journal.specs.Reader.{Fails, Gives, file_at}
use Rattle.boot_journal.proofs.Readings.{file_ends}
use Rattle.boot_journal.proofs.Spellings.{file_again, fault_again}

abbrev Answer : Type 0
Answer = Result JournalFile JournalFault

-- ---- laws

pub one_spelling : (file : JournalFile) (a b : List ℕ) → SpellsJournalFile a file → SpellsJournalFile b file → a ≡ b
one_spelling file a b p q = p.1 ∙ sym q.1

same_value : (read : Answer) (a b : JournalFile) → read ≡ Ok a → read ≡ Ok b → a ≡ b
same_value read a b p q = cc

same_fault : (read : Answer) (f g : JournalFault) → read ≡ Err f → read ≡ Err g → f ≡ g
same_fault read f g p q = cc

not_both : (read : Answer) (a : JournalFile) (f : JournalFault) → read ≡ Ok a → read ≡ Err f → ⊥
not_both read a f p q = cc

pub one_journal : (bytes : List ℕ) (a b : JournalFile) → SpellsJournalFile bytes a → SpellsJournalFile bytes b → a ≡ b
one_journal bytes a b p q = same_value (file_at bytes) a b (file_again bytes a p) (file_again bytes b q)

pub one_fault : (bytes : List ℕ) (f g : JournalFault) → IsJournalFault bytes f → IsJournalFault bytes g → f ≡ g
one_fault bytes f g p q = same_fault (file_at bytes) f g (fault_again bytes f p) (fault_again bytes g q)

pub no_journal : (bytes : List ℕ) (f : JournalFault) (file : JournalFile) → IsJournalFault bytes f → SpellsJournalFile bytes file → ⊥
no_journal bytes f file p q = not_both (file_at bytes) file f (file_again bytes file q) (fault_again bytes f p)

pub either : (bytes : List ℕ) → AllByRecursion IsByte bytes
    → ((file : JournalFile) × SpellsJournalFile bytes file) ⊎ ((f : JournalFault) × IsJournalFault bytes f)
either bytes fits =
    elim (file_ends bytes fits) [ inl file ↦ inl (file.value, (file.is, file.parts)) | inr stop ↦ inr (stop.fault_is, stop.here) ]

-- ---- a spelling has bytes

name_bytes_fit : (name : List ℕ) → AllByRecursion IsNameByte name → AllByRecursion IsByte name
name_bytes_fit [] printing = tt
name_bytes_fit (byte ∷ name) printing = (let here = printing.0 in omega (arith, here), name_bytes_fit name printing.1)

name_fits : (name : List ℕ) → IsName name → AllByRecursion IsByte (name_bytes name)
name_fits name is = (let len = is.len in omega (arith, len), name_bytes_fit name is.printing)

value_fits : (value : Option (List ℕ)) → IfSome value IsData → AllByRecursion IsByte (value_bytes value)
value_fits None is = (omega arith, (omega arith, (omega arith, (omega arith, tt))))
value_fits (Some bytes) is = (omega arith, (omega arith, (omega arith, (omega arith, is.bytes))))

-- the names of the boot manager's variables are names
abbrev pub AreNames : Type 0
AreNames = (name : List ℕ) → is_boot_name name ≡ true → IsName name

change_fits : AreNames → (change : ChangeParts) → IsBootChange change → AllByRecursion IsByte (change_bytes change)
change_fits names change is =
    AllByRecursion-append IsByte (name_bytes change.name) (value_bytes change.before ++ value_bytes change.after)
    (name_fits change.name (names change.name is.boot))
    (AllByRecursion-append IsByte (value_bytes change.before) (value_bytes change.after) (value_fits change.before is.before)
    (value_fits change.after is.after))

changes_fit : AreNames → (changes : List ChangeParts) → AllByRecursion IsBootChange changes → AllByRecursion IsByte (changes_bytes changes)
changes_fit names [] all = tt
changes_fit names (change ∷ changes) all =
    AllByRecursion-append IsByte (change_bytes change) (changes_bytes changes) (change_fits names change all.0) (changes_fit names changes all.1)

pending_fits : AreNames → (pending : Option PendingParts) → IfSome pending IsPending → AllByRecursion IsByte (pending_bytes pending)
pending_fits names None is = tt
pending_fits names (Some (Makes former changes boot)) is = (
  omega arith,
  AllByRecursion-append IsByte (name_bytes boot) (value_bytes former ++ changes_bytes changes) (name_fits boot is.0)
      (AllByRecursion-append IsByte (value_bytes former) (changes_bytes changes) (value_fits former is.1) (changes_fit names changes is.2)),
)
pending_fits names (Some (TakesBack changes boot)) is =
    (omega arith, AllByRecursion-append IsByte (name_bytes boot) (changes_bytes changes) (name_fits boot is.0) (changes_fit names changes is.1))

body_fits : AreNames → (journal : JournalParts) → IsJournal journal → AllByRecursion IsByte (body_bytes journal)
body_fits names journal is =
    AllByRecursion-append IsByte (value_bytes journal.state) (pending_bytes journal.pending) (value_fits journal.state is.state)
    (pending_fits names journal.pending is.pending)

head_fits : (machine : Option (List ℕ)) → IfSome machine IsMachineName → AllByRecursion IsByte (head_bytes machine)
head_fits None named = (omega arith, (omega arith, (omega arith, (omega arith, tt))))
head_fits (Some name) named =
    (omega arith, (omega arith, (omega arith, (omega arith, (omega arith, (omega arith, (omega arith, (omega arith, named.bytes))))))))

pub file_fits : AreNames → (file : JournalFile) → IsJournalFile file → AllByRecursion IsByte (file_bytes file)
file_fits names file is =
    AllByRecursion-append IsByte (head_bytes file.machine) (body_bytes file.journal) (head_fits file.machine is.machine)
    (body_fits names file.journal is.journal)

-- ---- the reader's answer

pub begins_so : (bytes magic : List ℕ) (r : Bool) → r ≡ starts_with eqb bytes magic → r ≡ true → ((rest : List ℕ) → bytes ≢ magic ++ rest) → ⊥
begins_so bytes magic r is h none = none (drop (length magic) bytes) ((starts_is Decides-eqb bytes magic r is).0 h)

-- what reading gives if the answer is this fault
failed_as : (f : JournalFault) (read : Answer) → Fails f read → (f ≡ fault.OutOfMemory) ⊎ (read ≡ Err f)
failed_as fault.BadMagic read h = inr h
failed_as (fault.BadMachine place) read h = inr h
failed_as (fault.Truncated place) read h = inr h
failed_as (fault.ValueTooLong place) read h = inr h
failed_as (fault.BadCourse place) read h = inr h
failed_as (fault.BadIdentity place) read h = inr h
failed_as (fault.BadName place) read h = inr h
failed_as fault.OutOfMemory read h = inl refl

-- the bytes are read as this file
pub read_file_is : (bytes : List ℕ) (file : JournalFile) → AllByRecursion IsByte bytes → file_at bytes ≡ Ok file → SpellsJournalFile bytes file
read_file_is bytes file fits read =
    elim (file_ends bytes fits) [
      | inl found ↦ subst (SpellsJournalFile bytes) (same_value (file_at bytes) found.value file found.read_is read) (found.is, found.parts)
      | inr stop ↦ absurd (not_both (file_at bytes) file stop.fault_is read stop.read_is)
    ]

pub read_fault_is : (bytes : List ℕ) (f : JournalFault) → AllByRecursion IsByte bytes → file_at bytes ≡ Err f → IsJournalFault bytes f
read_fault_is bytes f fits read =
    elim (file_ends bytes fits) [
      | inl found ↦ absurd (not_both (file_at bytes) found.value f found.read_is read)
      | inr stop ↦ subst (IsJournalFault bytes) (same_fault (file_at bytes) stop.fault_is f stop.read_is read) stop.here
    ]

abbrev IsAnswer : Answer → List ℕ → Type 0
IsAnswer answer bytes = Gives {X = JournalFile} (λ value. value) answer (file_at bytes)

pub found : (answer : Answer) (bytes : List ℕ) → AllByRecursion IsByte bytes → IsAnswer answer bytes → IfOk answer (λ value. SpellsJournalFile bytes value)
found (Ok value) bytes fits is = read_file_is bytes value fits is
found (Err f) bytes fits is = tt

fault_found : (f : JournalFault) (bytes : List ℕ) → AllByRecursion IsByte bytes → (f ≡ fault.OutOfMemory) ⊎ (file_at bytes ≡ Err f) → f ≢ fault.OutOfMemory
    → IsJournalFault bytes f
fault_found f bytes fits (inl refused) other = absurd (other refused)
fault_found f bytes fits (inr read) other = read_fault_is bytes f fits read

pub faulty : (answer : Answer) (bytes : List ℕ) → AllByRecursion IsByte bytes → IsAnswer answer bytes
    → IfErr answer (λ f. f ≢ fault.OutOfMemory → IsJournalFault bytes f)
faulty (Ok value) bytes fits is = tt
faulty (Err f) bytes fits is = fault_found f bytes fits (failed_as f (file_at bytes) is)

refused_or : (f : JournalFault) (read answer : Answer) → (f ≡ fault.OutOfMemory) ⊎ (read ≡ Err f) → read ≡ answer → IsUnless (Err f) answer fault.OutOfMemory
refused_or f read answer (inl refused) is = inr (ap (λ (g : JournalFault). Err g) refused)
refused_or f read answer (inr same) is = inl (sym same ∙ is)

pub only : (answer : Answer) (bytes : List ℕ) (expected : Answer) → IsAnswer answer bytes → file_at bytes ≡ expected
    → IsUnless answer expected fault.OutOfMemory
only (Ok value) bytes expected is read = inl (sym is ∙ read)
only (Err f) bytes expected is read = refused_or f (file_at bytes) expected (failed_as f (file_at bytes) is) read
