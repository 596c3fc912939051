-- A journal file is read, or has a fault where it stops being read: from field to field, by `Fields`. After each, what was read so far is
-- the front of the bytes (`IsBefore`), so what stops it is a fault of the body at that place. For each part there are lemmas on what is
-- read when its fields are (`.._ok`) and when one is at fault (`.._err_..`), and one by cases of how its fields end (`.._end`).
use Rattle.std.proofs.Common.{◌≡◌, ◌≢◌, ◌⊎◌, ℕ, zero, suc, ◌+◌, ◌<◌, ◌≤◌, true, false, eqb, List, [], ◌∷◌, ◌++◌, length, get_or, drop, Option, Some, None}
use Rattle.std.proofs.Common.{IfSome, Result, Ok, Err, refl, sym, ap, subst, ◌∙◌, inl, inr, arith, append_assoc}
use Rattle.std.specs.List.{AllByRecursion, starts_with}
use Rattle.std.proofs.lemmas.Bool.{cases_eq, cases_Bool, ne_eqb, false_from_ne_true, false≢true}
use Rattle.std.proofs.lemmas.Bool.Decides.{Decides-eqb}
use Rattle.std.proofs.lemmas.List.{length-append, append-nil}
use Rattle.std.proofs.lemmas.List.Concat.{flat_map-append}
use Rattle.std.proofs.lemmas.Slice.Eq.{starts_is}
use Rattle.uefi_path.specs.Row.{IsByte}
use Rattle.uefi_vars.specs.Name.{IsName}
use Rattle.uefi_vars.specs.Vars.{IsData}
use Rattle.uefi_vars.specs.Set.{name_bytes, data_bytes}
use Rattle.uefi_vars.proofs.Bytes.{AllByRecursion-append, AllByRecursion-behind}
use Rattle.uefi_vars.specs.BootChange.{ChangeParts}
use Rattle.boot_journal.specs.declared.fault.JournalFault.{JournalFault}
use Rattle.boot_journal.specs.declared.fault.JournalFault.TheVariants as fault
use Rattle.boot_journal.specs.declared.journal_file.JournalFile.{JournalFile}
use Rattle.boot_journal.specs.Journal.{JournalParts, PendingParts, Makes, TakesBack}
use Rattle.boot_journal.specs.JournalValue.{IsPending, IsJournal}
use Rattle.boot_journal.specs.Values.{IsBootChange}
use Rattle.machine_names.specs.MachineName.{IsMachineName}
use Rattle.boot_journal.specs.Bytes.{magic_1, magic_2, making, taking_back, value_bytes, change_bytes, changes_bytes, pending_bytes, body_bytes, head_bytes}
use Rattle.boot_journal.specs.Bytes.{file_bytes, IsJournalFile}
use Rattle.boot_journal.specs.Fault.{HasNoMagic, IsMachineFault, HasMachineFault, Field, State, Identity, Former, Name, Before, After, IsBegunJournal}
use Rattle.boot_journal.specs.Fault.{IsBefore, IsCutValue, HasLongValue, IsCut, IsTooLong, IsBodyFault, IsJournalFault}
use Rattle.boot_journal.specs.Reader.{◌>>=◌, place_of, value_at, machine_at, identity_at, name_at, change_at, changes_within, changes_at, making_at}
use Rattle.boot_journal.specs.Reader.{taking_back_at, pending_at, parts_at, unnamed_at, named_at, file_at}
use Rattle.boot_journal.proofs.Fields.{Takes, Stops, IsValueFault, value_ends, machine_fails, machine_again, machine_ends, IsIdentityFault, identity_ends}
use Rattle.boot_journal.proofs.Fields.{IsBoot, IsNameFault, name_ends}
use Rattle.boot_journal.proofs.ChangeLoop.{none_within, first_within, fault_within}

-- what is read of all of the bytes, and is spelled so
pub record TakesAll {A : Type 0} (read : Result A JournalFault) (spelling : A → List ℕ) (Is : A → Type 0) (bytes : List ℕ) : Type 0 where
  pub value : A
  pub read_is : read ≡ Ok value
  pub is : Is value
  pub parts : bytes ≡ spelling value

-- ---- bytes one after the other

pub moved : (all front bytes text rest : List ℕ) → all ≡ front ++ bytes → bytes ≡ text ++ rest → all ≡ (front ++ text) ++ rest
moved all front bytes text rest parts split = parts ∙ ap (λ (t : List ℕ). front ++ t) split ∙ sym (append_assoc front text rest)

rest_fits : (bytes text rest : List ℕ) → AllByRecursion IsByte bytes → bytes ≡ text ++ rest → AllByRecursion IsByte rest
rest_fits bytes text rest fits split = AllByRecursion-behind IsByte text rest (subst (AllByRecursion IsByte) split fits)

-- where the file ends whose body begins there
abbrev pub end_of : ℕ → List ℕ → ℕ
end_of start body = start + length body

place_is : (start : ℕ) (body front rest : List ℕ) → body ≡ front ++ rest → place_of (end_of start body) rest ≡ start + length front
place_is start body front rest parts = omega (arith, ap length parts, length-append front rest)

-- ---- the fault of a field is one of the body

module _ (start : ℕ) (body front rest : List ℕ) (parts : body ≡ front ++ rest) where
  pub value_fault_at : (field : Field) (f : JournalFault)
      → IsBefore field front → (IsCutValue rest → IsCut field rest) → (HasLongValue rest → IsTooLong field rest)
      → IsValueFault (place_of (end_of start body) rest) rest f → IsBodyFault start body f
  value_fault_at field f whole cut long (inl h) =
      subst (IsBodyFault start body) (sym h.0)
      (field, record { front = front; rest = rest; whole = whole; parts = parts; at = place_is start body front rest parts; here = cut h.1 })
  value_fault_at field f whole cut long (inr h) =
      subst (IsBodyFault start body) (sym h.0)
      (field, record { front = front; rest = rest; whole = whole; parts = parts; at = place_is start body front rest parts; here = long h.1 })

  pub identity_fault_at : (f : JournalFault) → IsBefore Identity front → IsIdentityFault (place_of (end_of start body) rest) rest f → IsBodyFault start body f
  identity_fault_at f whole (inl h) =
      subst (IsBodyFault start body) (sym h.0)
      (Identity, record { front = front; rest = rest; whole = whole; parts = parts; at = place_is start body front rest parts; here = h.1 })
  identity_fault_at f whole (inr h) =
      subst (IsBodyFault start body) (sym h.0)
      (record { front = front; rest = rest; whole = whole; parts = parts; at = place_is start body front rest parts; here = h.1 })

  pub name_fault_at : (f : JournalFault) → IsBefore Name front → IsNameFault (place_of (end_of start body) rest) rest f → IsBodyFault start body f
  name_fault_at f whole (inl h) =
      subst (IsBodyFault start body) (sym h.0)
      (Name, record { front = front; rest = rest; whole = whole; parts = parts; at = place_is start body front rest parts; here = h.1 })
  name_fault_at f whole (inr h) =
      subst (IsBodyFault start body) (sym h.0)
      (record { front = front; rest = rest; whole = whole; parts = parts; at = place_is start body front rest parts; here = h.1 })

-- ---- a change

change_ok : (end : ℕ) (bytes name first : List ℕ) (before : Option (List ℕ)) (second : List ℕ) (after : Option (List ℕ)) (third : List ℕ)
    → name_at end bytes ≡ Ok (name, first) → value_at end first ≡ Ok (before, second) → value_at end second ≡ Ok (after, third)
    → change_at end bytes ≡ Ok (record { name = name; before = before; after = after }, third)
unfolding change_at
change_ok end bytes name first before second after third p q r = rw (p, q, r) refl

pub change_err_name : (end : ℕ) (bytes : List ℕ) (f : JournalFault) → name_at end bytes ≡ Err f → change_at end bytes ≡ Err f
unfolding change_at
change_err_name end bytes f p = rw p refl

pub change_err_before : (end : ℕ) (bytes name first : List ℕ) (f : JournalFault) → name_at end bytes ≡ Ok (name, first) → value_at end first ≡ Err f
    → change_at end bytes ≡ Err f
unfolding change_at
change_err_before end bytes name first f p q = rw (p, q) refl

pub change_err_after : (end : ℕ) (bytes name first : List ℕ) (before : Option (List ℕ)) (second : List ℕ) (f : JournalFault)
    → name_at end bytes ≡ Ok (name, first) → value_at end first ≡ Ok (before, second) → value_at end second ≡ Err f
    → change_at end bytes ≡ Err f
unfolding change_at
change_err_after end bytes name first before second f p q r = rw (p, q, r) refl

abbrev ChangeEnds : ℕ → List ℕ → List ℕ → Type 0
ChangeEnds start body bytes =
    Takes (change_at (end_of start body) bytes) change_bytes IsBootChange bytes ⊎ Stops (change_at (end_of start body) bytes) (IsBodyFault start body)

module _ (start : ℕ) (body : List ℕ) (journal : JournalParts) (begun : IsBegunJournal journal) (bytes : List ℕ) (parts : body ≡ body_bytes journal ++ bytes)
    (fits : AllByRecursion IsByte bytes) where
  front : List ℕ
  front = body_bytes journal

  after_ends : (name : Takes (name_at (end_of start body) bytes) name_bytes IsBoot bytes)
      (before : Takes (value_at (end_of start body) name.rest) value_bytes (λ value. IfSome value IsData) name.rest)
      → ChangeEnds start body bytes
  after_ends name before =
      let named = moved body (body_bytes journal) bytes (name_bytes name.value) name.rest parts name.parts in
      let stood = moved body (body_bytes journal ++ name_bytes name.value) name.rest (value_bytes before.value) before.rest named before.parts in
      let before_fits =
      rest_fits name.rest (value_bytes before.value) before.rest (rest_fits bytes (name_bytes name.value) name.rest fits name.parts) before.parts in
      elim (value_ends (end_of start body) before.rest before_fits) [
        | inl after ↦ inl (record {
          value = record { name = name.value; before = before.value; after = after.value };
          rest = after.rest;
          read_is =
              change_ok (end_of start body) bytes name.value name.rest before.value before.rest after.value after.rest name.read_is before.read_is
              after.read_is;
          is = record { boot = name.is; before = before.is; after = after.is };
          parts =
              name.parts
              ∙ ap (λ (t : List ℕ). name_bytes name.value ++ t)
              (before.parts ∙ ap (λ (t : List ℕ). value_bytes before.value ++ t) after.parts
              ∙ sym (append_assoc (value_bytes before.value) (value_bytes after.value) after.rest))
              ∙ sym (append_assoc (name_bytes name.value) (value_bytes before.value ++ value_bytes after.value) after.rest);
        })
        | inr stop ↦ inr (record {
          fault_is = stop.fault_is;
          read_is =
              change_err_after (end_of start body) bytes name.value name.rest before.value before.rest stop.fault_is name.read_is before.read_is stop.read_is;
          here = value_fault_at start body ((body_bytes journal ++ name_bytes name.value) ++ value_bytes before.value) before.rest stood After stop.fault_is (
            journal,
            begun,
            name.value,
            name.is,
            before.value,
            before.is,
            append_assoc (body_bytes journal) (name_bytes name.value) (value_bytes before.value),
          ) (λ h. h) (λ h. h) stop.here;
        })
      ]

  before_ends : (name : Takes (name_at (end_of start body) bytes) name_bytes IsBoot bytes) → ChangeEnds start body bytes
  before_ends name =
      let named = moved body (body_bytes journal) bytes (name_bytes name.value) name.rest parts name.parts in
      elim (value_ends (end_of start body) name.rest (rest_fits bytes (name_bytes name.value) name.rest fits name.parts)) [
        | inl before ↦ after_ends name before
        | inr stop ↦ inr (record {
          fault_is = stop.fault_is;
          read_is = change_err_before (end_of start body) bytes name.value name.rest stop.fault_is name.read_is stop.read_is;
          here =
              value_fault_at start body (body_bytes journal ++ name_bytes name.value) name.rest named Before stop.fault_is
              (journal, begun, name.value, name.is, refl) (λ h. h) (λ h. h) stop.here;
        })
      ]

change_ends : (start : ℕ) (body : List ℕ) (journal : JournalParts)
    → IsBegunJournal journal → (byte : ℕ) (bytes : List ℕ) → body ≡ body_bytes journal ++ byte ∷ bytes → AllByRecursion IsByte (byte ∷ bytes)
    → ChangeEnds start body (byte ∷ bytes)
change_ends start body journal begun byte bytes parts fits =
    elim (name_ends (end_of start body) byte bytes) [
      | inl name ↦ before_ends start body journal begun (byte ∷ bytes) parts fits name
      | inr stop ↦ inr (record {
        fault_is = stop.fault_is;
        read_is = change_err_name (end_of start body) (byte ∷ bytes) stop.fault_is stop.read_is;
        here = name_fault_at start body (body_bytes journal) (byte ∷ bytes) parts stop.fault_is (journal, begun, refl) stop.here;
      })
    ]

-- ---- more changes of a journal

abbrev pub more_of : PendingParts → List ChangeParts → PendingParts
more_of (Makes former changes boot) more = Makes former (changes ++ more) boot
more_of (TakesBack changes boot) more = TakesBack (changes ++ more) boot

abbrev pub begun_by : Option (List ℕ) → PendingParts → JournalParts
begun_by state pending = record { state = state; pending = Some pending }

pub is_begun : (state : Option (List ℕ)) (pending : PendingParts) → IfSome state IsData → IsPending pending → IsBegunJournal (begun_by state pending)
is_begun state pending valid is = (record { state = valid; pending = is }, λ e. cc)

pending_bytes-more : (pending : PendingParts) (more : List ChangeParts)
    → pending_bytes (Some (more_of pending more)) ≡ pending_bytes (Some pending) ++ changes_bytes more
pending_bytes-more (Makes former changes boot) more =
    ap (λ (t : List ℕ). making ∷ (name_bytes boot ++ (value_bytes former ++ t))) (flat_map-append change_bytes changes more)
    ∙ ap (λ (t : List ℕ). making ∷ (name_bytes boot ++ t)) (sym (append_assoc (value_bytes former) (changes_bytes changes) (changes_bytes more)))
    ∙ ap (λ (t : List ℕ). making ∷ t) (sym (append_assoc (name_bytes boot) (value_bytes former ++ changes_bytes changes) (changes_bytes more)))
pending_bytes-more (TakesBack changes boot) more =
    ap (λ (t : List ℕ). taking_back ∷ (name_bytes boot ++ t)) (flat_map-append change_bytes changes more)
    ∙ ap (λ (t : List ℕ). taking_back ∷ t) (sym (append_assoc (name_bytes boot) (changes_bytes changes) (changes_bytes more)))

pub body_bytes-more : (state : Option (List ℕ)) (pending : PendingParts) (more : List ChangeParts)
    → body_bytes (begun_by state (more_of pending more)) ≡ body_bytes (begun_by state pending) ++ changes_bytes more
body_bytes-more state pending more =
    ap (λ (t : List ℕ). value_bytes state ++ t) (pending_bytes-more pending more)
    ∙ sym (append_assoc (value_bytes state) (pending_bytes (Some pending)) (changes_bytes more))

IsPending-more : (pending : PendingParts) (more : List ChangeParts) → IsPending pending → AllByRecursion IsBootChange more → IsPending (more_of pending more)
IsPending-more (Makes former changes boot) more is all = (is.0, is.1, AllByRecursion-append IsBootChange changes more is.2 all)
IsPending-more (TakesBack changes boot) more is all = (is.0, AllByRecursion-append IsBootChange changes more is.1 all)

-- ---- all changes

abbrev ChangesEnd : ℕ → ℕ → List ℕ → List ℕ → Type 0
ChangesEnd count start body bytes =
    TakesAll (changes_within count (end_of start body) bytes) changes_bytes (AllByRecursion IsBootChange) bytes
    ⊎ Stops (changes_within count (end_of start body) bytes) (IsBodyFault start body)

pub behind_change : (bytes : List ℕ) (change : ChangeParts) (rest : List ℕ) → bytes ≡ change_bytes change ++ rest → length rest < length bytes
behind_change bytes change rest parts = omega (arith, ap length parts, length-append (change_bytes change) rest)

more_end : (count : ℕ) (start : ℕ) (body : List ℕ) (byte : ℕ) (bytes : List ℕ)
    (change : Takes (change_at (end_of start body) (byte ∷ bytes)) change_bytes IsBootChange (byte ∷ bytes))
    → ChangesEnd count start body change.rest → ChangesEnd (suc count) start body (byte ∷ bytes)
more_end count start body byte bytes change (inl others) =
    let read = others.read_is in
    inl (record {
      value = change.value ∷ others.value;
      read_is = first_within count (end_of start body) byte bytes change.value change.rest change.read_is ∙ rw read refl;
      is = (change.is, others.is);
      parts = change.parts ∙ ap (λ (t : List ℕ). change_bytes change.value ++ t) others.parts;
    })
more_end count start body byte bytes change (inr stop) =
    let read = stop.read_is in
    inr (record {
      fault_is = stop.fault_is;
      read_is = first_within count (end_of start body) byte bytes change.value change.rest change.read_is ∙ rw read refl;
      here = stop.here;
    })

changes_end : (count : ℕ) (start : ℕ) (body : List ℕ) (state : Option (List ℕ)) (pending : PendingParts)
    → IfSome state IsData → IsPending pending → (bytes : List ℕ) → length bytes ≤ count → body ≡ body_bytes (begun_by state pending) ++ bytes
    → AllByRecursion IsByte bytes → ChangesEnd count start body bytes
changes_end count start body state pending valid is [] few parts fits =
    inl (record { value = []; read_is = none_within count (end_of start body); is = tt; parts = refl })
changes_end zero start body state pending valid is (byte ∷ bytes) few parts fits = absurd (omega (arith, few))
changes_end (suc count) start body state pending valid is (byte ∷ bytes) few parts fits =
    elim (change_ends start body (begun_by state pending) (is_begun state pending valid is) byte bytes parts fits) [
      | inl change ↦
          let one : List ChangeParts = change.value ∷ [] in
          let more : body ≡ body_bytes (begun_by state (more_of pending one)) ++ change.rest =
          moved body (body_bytes (begun_by state pending)) (byte ∷ bytes) (change_bytes change.value) change.rest parts change.parts
          ∙ ap (λ (t : List ℕ). (body_bytes (begun_by state pending) ++ t) ++ change.rest) (sym (append-nil (change_bytes change.value)))
          ∙ ap (λ (t : List ℕ). t ++ change.rest) (sym (body_bytes-more state pending one)) in
          more_end count start body byte bytes change
          (changes_end count start body state (more_of pending one) valid (IsPending-more pending one is (change.is, tt)) change.rest
          (omega (arith, few, behind_change (byte ∷ bytes) change.value change.rest change.parts)) more
          (rest_fits (byte ∷ bytes) (change_bytes change.value) change.rest fits change.parts))
      | inr stop ↦
          inr (record { fault_is = stop.fault_is; read_is = fault_within count (end_of start body) byte bytes stop.fault_is stop.read_is; here = stop.here })
    ]

-- ---- changes that are taken back

taking_back_ok : (end : ℕ) (bytes boot behind : List ℕ) (changes : List ChangeParts)
    → identity_at end bytes ≡ Ok (boot, behind) → changes_at end behind ≡ Ok changes
    → taking_back_at end bytes ≡ Ok (TakesBack changes boot)
unfolding taking_back_at
taking_back_ok end bytes boot behind changes p q = rw (p, q) refl

pub taking_back_err_boot : (end : ℕ) (bytes : List ℕ) (f : JournalFault) → identity_at end bytes ≡ Err f → taking_back_at end bytes ≡ Err f
unfolding taking_back_at
taking_back_err_boot end bytes f p = rw p refl

taking_back_err_changes : (end : ℕ) (bytes boot behind : List ℕ) (f : JournalFault)
    → identity_at end bytes ≡ Ok (boot, behind) → changes_at end behind ≡ Err f → taking_back_at end bytes ≡ Err f
unfolding taking_back_at
taking_back_err_changes end bytes boot behind f p q = rw (p, q) refl

making_ok : (end : ℕ) (bytes boot first : List ℕ) (former : Option (List ℕ)) (second : List ℕ) (changes : List ChangeParts)
    → identity_at end bytes ≡ Ok (boot, first) → value_at end first ≡ Ok (former, second) → changes_at end second ≡ Ok changes
    → making_at end bytes ≡ Ok (Makes former changes boot)
unfolding making_at
making_ok end bytes boot first former second changes p q r = rw (p, q, r) refl

pub making_err_boot : (end : ℕ) (bytes : List ℕ) (f : JournalFault) → identity_at end bytes ≡ Err f → making_at end bytes ≡ Err f
unfolding making_at
making_err_boot end bytes f p = rw p refl

pub making_err_former : (end : ℕ) (bytes boot first : List ℕ) (f : JournalFault) → identity_at end bytes ≡ Ok (boot, first) → value_at end first ≡ Err f
    → making_at end bytes ≡ Err f
unfolding making_at
making_err_former end bytes boot first f p q = rw (p, q) refl

making_err_changes : (end : ℕ) (bytes boot first : List ℕ) (former : Option (List ℕ)) (second : List ℕ) (f : JournalFault)
    → identity_at end bytes ≡ Ok (boot, first) → value_at end first ≡ Ok (former, second) → changes_at end second ≡ Err f
    → making_at end bytes ≡ Err f
unfolding making_at
making_err_changes end bytes boot first former second f p q r = rw (p, q, r) refl

module _ (start : ℕ) (body : List ℕ) (state : Option (List ℕ)) (valid : IfSome state IsData) (behind : List ℕ) (fits : AllByRecursion IsByte behind) where
  abbrev BegunEnds : ℕ → Result PendingParts JournalFault → Type 0
  BegunEnds course read = TakesAll read (λ pending. pending_bytes (Some pending)) IsPending (course ∷ behind) ⊎ Stops read (IsBodyFault start body)

  begun_front : (course : ℕ) → body ≡ value_bytes state ++ course ∷ behind → body ≡ (value_bytes state ++ course ∷ []) ++ behind
  begun_front course parts = moved body (value_bytes state) (course ∷ behind) (course ∷ []) behind parts refl

  back_changes_end : body ≡ value_bytes state ++ taking_back ∷ behind → Takes (identity_at (end_of start body) behind) name_bytes IsName behind
      → BegunEnds taking_back (taking_back_at (end_of start body) behind)
  back_changes_end parts boot =
      let none : List ChangeParts = [] in
      let text = pending_bytes (Some (TakesBack none boot.value)) in
      let split : taking_back ∷ behind ≡ text ++ boot.rest =
      ap (λ (t : List ℕ). taking_back ∷ t) (boot.parts ∙ ap (λ (t : List ℕ). t ++ boot.rest) (sym (append-nil (name_bytes boot.value)))) in
      let whole = moved body (value_bytes state) (taking_back ∷ behind) text boot.rest parts split in
      elim (changes_end (length boot.rest) start body state (TakesBack none boot.value) valid (boot.is, tt) boot.rest (omega arith) whole
      (rest_fits behind (name_bytes boot.value) boot.rest fits boot.parts)) [
        | inl changes ↦ inl (record {
          value = TakesBack changes.value boot.value;
          read_is = taking_back_ok (end_of start body) behind boot.value boot.rest changes.value boot.read_is changes.read_is;
          is = (boot.is, changes.is);
          parts = ap (λ (t : List ℕ). taking_back ∷ t) (boot.parts ∙ ap (λ (t : List ℕ). name_bytes boot.value ++ t) changes.parts);
        })
        | inr stop ↦ inr (record {
          fault_is = stop.fault_is;
          read_is = taking_back_err_changes (end_of start body) behind boot.value boot.rest stop.fault_is boot.read_is stop.read_is;
          here = stop.here;
        })
      ]

  taking_back_ends : body ≡ value_bytes state ++ taking_back ∷ behind → BegunEnds taking_back (taking_back_at (end_of start body) behind)
  taking_back_ends parts =
      elim (identity_ends (end_of start body) behind) [
        | inl boot ↦ back_changes_end parts boot
        | inr stop ↦ inr (record {
          fault_is = stop.fault_is;
          read_is = taking_back_err_boot (end_of start body) behind stop.fault_is stop.read_is;
          here =
              identity_fault_at start body (value_bytes state ++ taking_back ∷ []) behind (begun_front taking_back parts) stop.fault_is
              (state, valid, taking_back, inr refl, refl) stop.here;
        })
      ]

  made_changes_end : body ≡ value_bytes state ++ making ∷ behind
      → (boot : Takes (identity_at (end_of start body) behind) name_bytes IsName behind)
      → Takes (value_at (end_of start body) boot.rest) value_bytes (λ value. IfSome value IsData) boot.rest
      → BegunEnds making (making_at (end_of start body) behind)
  made_changes_end parts boot former =
      let none : List ChangeParts = [] in
      let text = pending_bytes (Some (Makes former.value none boot.value)) in
      let split : making ∷ behind ≡ text ++ former.rest =
      ap (λ (t : List ℕ). making ∷ t)
      (boot.parts
      ∙ ap (λ (t : List ℕ). name_bytes boot.value ++ t)
      (former.parts ∙ ap (λ (t : List ℕ). t ++ former.rest) (sym (append-nil (value_bytes former.value))))
      ∙ sym (append_assoc (name_bytes boot.value) (value_bytes former.value ++ []) former.rest)) in
      let whole = moved body (value_bytes state) (making ∷ behind) text former.rest parts split in
      let rest_is =
      rest_fits boot.rest (value_bytes former.value) former.rest (rest_fits behind (name_bytes boot.value) boot.rest fits boot.parts) former.parts in
      elim (changes_end (length former.rest) start body state (Makes former.value none boot.value) valid (boot.is, former.is, tt) former.rest
      (omega arith) whole rest_is) [
        | inl changes ↦ inl (record {
          value = Makes former.value changes.value boot.value;
          read_is =
              making_ok (end_of start body) behind boot.value boot.rest former.value former.rest changes.value boot.read_is former.read_is changes.read_is;
          is = (boot.is, former.is, changes.is);
          parts =
              ap (λ (t : List ℕ). making ∷ t)
              (boot.parts
              ∙ ap (λ (t : List ℕ). name_bytes boot.value ++ t) (former.parts ∙ ap (λ (t : List ℕ). value_bytes former.value ++ t) changes.parts));
        })
        | inr stop ↦ inr (record {
          fault_is = stop.fault_is;
          read_is =
              making_err_changes (end_of start body) behind boot.value boot.rest former.value former.rest stop.fault_is boot.read_is former.read_is
              stop.read_is;
          here = stop.here;
        })
      ]

  former_ends : body ≡ value_bytes state ++ making ∷ behind → Takes (identity_at (end_of start body) behind) name_bytes IsName behind
      → BegunEnds making (making_at (end_of start body) behind)
  former_ends parts boot =
      let whole =
      moved body (value_bytes state) (making ∷ behind) (making ∷ name_bytes boot.value) boot.rest parts (ap (λ (t : List ℕ). making ∷ t) boot.parts) in
      elim (value_ends (end_of start body) boot.rest (rest_fits behind (name_bytes boot.value) boot.rest fits boot.parts)) [
        | inl former ↦ made_changes_end parts boot former
        | inr stop ↦ inr (record {
          fault_is = stop.fault_is;
          read_is = making_err_former (end_of start body) behind boot.value boot.rest stop.fault_is boot.read_is stop.read_is;
          here =
              value_fault_at start body (value_bytes state ++ making ∷ name_bytes boot.value) boot.rest whole Former stop.fault_is
              (state, valid, boot.value, boot.is, refl) (λ h. h) (λ h. h) stop.here;
        })
      ]

  making_ends : body ≡ value_bytes state ++ making ∷ behind → BegunEnds making (making_at (end_of start body) behind)
  making_ends parts =
      elim (identity_ends (end_of start body) behind) [
        | inl boot ↦ former_ends parts boot
        | inr stop ↦ inr (record {
          fault_is = stop.fault_is;
          read_is = making_err_boot (end_of start body) behind stop.fault_is stop.read_is;
          here =
              identity_fault_at start body (value_bytes state ++ making ∷ []) behind (begun_front making parts) stop.fault_is
              (state, valid, making, inl refl, refl) stop.here;
        })
      ]

-- ---- what is still to be done

pub pending_making : (end : ℕ) (behind : List ℕ) → pending_at end (making ∷ behind) ≡ (making_at end behind >>= λ pending. Ok (Some pending))
unfolding pending_at
pending_making end behind = refl

pub pending_taking_back : (end : ℕ) (behind : List ℕ) → pending_at end (taking_back ∷ behind) ≡ (taking_back_at end behind >>= λ pending. Ok (Some pending))
unfolding pending_at
pending_taking_back end behind = refl

pub pending_bad : (end course : ℕ) (behind : List ℕ) → course ≢ making → course ≢ taking_back
    → pending_at end (course ∷ behind) ≡ Err (fault.BadCourse (place_of end (course ∷ behind)))
unfolding pending_at
pending_bad end course behind other another =
    let one : eqb course making ≡ false = ne_eqb course making other in
    let two : eqb course taking_back ≡ false = ne_eqb course taking_back another in
    rw (one, two) refl

pub pending_none : (end : ℕ) → pending_at end [] ≡ Ok None
unfolding pending_at
pending_none end = refl

abbrev PendingEnds : ℕ → List ℕ → List ℕ → Type 0
PendingEnds start body bytes =
    TakesAll (pending_at (end_of start body) bytes) pending_bytes (λ pending. IfSome pending IsPending) bytes
    ⊎ Stops (pending_at (end_of start body) bytes) (IsBodyFault start body)

begun_end : (start : ℕ) (body : List ℕ) (course : ℕ) (behind : List ℕ) (read : Result PendingParts JournalFault)
    → pending_at (end_of start body) (course ∷ behind) ≡ (read >>= λ pending. Ok (Some pending))
    → TakesAll read (λ pending. pending_bytes (Some pending)) IsPending (course ∷ behind) ⊎ Stops read (IsBodyFault start body)
    → PendingEnds start body (course ∷ behind)
begun_end start body course behind read is (inl pending) =
    let done = pending.read_is in
    inl (record { value = Some pending.value; read_is = is ∙ rw done refl; is = pending.is; parts = pending.parts })
begun_end start body course behind read is (inr stop) =
    let failed = stop.read_is in
    inr (record { fault_is = stop.fault_is; read_is = is ∙ rw failed refl; here = stop.here })

bad_course : (start : ℕ) (body : List ℕ) (state : Option (List ℕ))
    → IfSome state IsData → (course : ℕ) (behind : List ℕ) → course ≢ making → course ≢ taking_back → body ≡ value_bytes state ++ course ∷ behind
    → PendingEnds start body (course ∷ behind)
bad_course start body state valid course behind other another parts = inr (record {
  fault_is = fault.BadCourse (place_of (end_of start body) (course ∷ behind));
  read_is = pending_bad (end_of start body) course behind other another;
  here = record {
    front = value_bytes state;
    rest = course ∷ behind;
    whole = (state, valid, refl);
    parts = parts;
    at = place_is start body (value_bytes state) (course ∷ behind) parts;
    here = record { course = course; behind = behind; bad = (other, another); parts = refl };
  };
})

pending_ends : (start : ℕ) (body : List ℕ) (state : Option (List ℕ))
    → IfSome state IsData → (bytes : List ℕ) → AllByRecursion IsByte bytes → body ≡ value_bytes state ++ bytes
    → PendingEnds start body bytes
pending_ends start body state valid [] fits parts = inl (record { value = None; read_is = pending_none (end_of start body); is = tt; parts = refl })
pending_ends start body state valid (course ∷ behind) fits parts =
    elim (cases_eq course making) [
      | inl one ↦
          let at_one : body ≡ value_bytes state ++ making ∷ behind = parts ∙ ap (λ (n : ℕ). value_bytes state ++ n ∷ behind) one in
          subst (λ (n : ℕ). PendingEnds start body (n ∷ behind)) (sym one)
          (begun_end start body making behind (making_at (end_of start body) behind) (pending_making (end_of start body) behind)
          (making_ends start body state valid behind fits.1 at_one))
      | inr other ↦ elim (cases_eq course taking_back) [
        | inl two ↦
            let at_two : body ≡ value_bytes state ++ taking_back ∷ behind = parts ∙ ap (λ (n : ℕ). value_bytes state ++ n ∷ behind) two in
            subst (λ (n : ℕ). PendingEnds start body (n ∷ behind)) (sym two)
            (begun_end start body taking_back behind (taking_back_at (end_of start body) behind) (pending_taking_back (end_of start body) behind)
            (taking_back_ends start body state valid behind fits.1 at_two))
        | inr another ↦ bad_course start body state valid course behind other another parts
      ]
    ]

-- ---- the body

parts_ok : (end : ℕ) (bytes : List ℕ) (state : Option (List ℕ)) (behind : List ℕ) (pending : Option PendingParts)
    → value_at end bytes ≡ Ok (state, behind) → pending_at end behind ≡ Ok pending
    → parts_at end bytes ≡ Ok (record { state = state; pending = pending })
unfolding parts_at
parts_ok end bytes state behind pending p q = rw (p, q) refl

pub parts_err_state : (end : ℕ) (bytes : List ℕ) (f : JournalFault) → value_at end bytes ≡ Err f → parts_at end bytes ≡ Err f
unfolding parts_at
parts_err_state end bytes f p = rw p refl

parts_err_pending : (end : ℕ) (bytes : List ℕ) (state : Option (List ℕ)) (behind : List ℕ) (f : JournalFault)
    → value_at end bytes ≡ Ok (state, behind) → pending_at end behind ≡ Err f → parts_at end bytes ≡ Err f
unfolding parts_at
parts_err_pending end bytes state behind f p q = rw (p, q) refl

abbrev pub PartsEnd : ℕ → List ℕ → Type 0
PartsEnd start body =
    TakesAll (parts_at (end_of start body) body) body_bytes IsJournal body ⊎ Stops (parts_at (end_of start body) body) (IsBodyFault start body)

state_end : (start : ℕ) (body : List ℕ)
    → AllByRecursion IsByte body → Takes (value_at (end_of start body) body) value_bytes (λ value. IfSome value IsData) body
    → PartsEnd start body
state_end start body fits state =
    elim (pending_ends start body state.value state.is state.rest (rest_fits body (value_bytes state.value) state.rest fits state.parts) state.parts) [
      | inl pending ↦ inl (record {
        value = record { state = state.value; pending = pending.value };
        read_is = parts_ok (end_of start body) body state.value state.rest pending.value state.read_is pending.read_is;
        is = record { state = state.is; pending = pending.is };
        parts = state.parts ∙ ap (λ (t : List ℕ). value_bytes state.value ++ t) pending.parts;
      })
      | inr stop ↦
          inr (record {
            fault_is = stop.fault_is;
            read_is =
                parts_err_pending (end_of start body) body state.value state.rest stop.fault_is state.read_is stop.read_is;
            here = stop.here;
          })
    ]

parts_end : (start : ℕ) (body : List ℕ) → AllByRecursion IsByte body → PartsEnd start body
parts_end start body fits =
    elim (value_ends (end_of start body) body fits) [
      | inl state ↦ state_end start body fits state
      | inr stop ↦ inr (record {
        fault_is = stop.fault_is;
        read_is = parts_err_state (end_of start body) body stop.fault_is stop.read_is;
        here = value_fault_at start body [] body refl State stop.fault_is refl (λ h. h) (λ h. h) stop.here;
      })
    ]

-- ---- the head of the file

begins_with : (file magic rest : List ℕ) → file ≡ magic ++ rest → starts_with eqb file magic ≡ true
begins_with file magic rest parts = (starts_is Decides-eqb file magic (starts_with eqb file magic) refl).1 rest parts

begins_not : (file magic : List ℕ) → ((rest : List ℕ) → file ≢ magic ++ rest) → starts_with eqb file magic ≡ false
begins_not file magic none =
    false_from_ne_true (starts_with eqb file magic)
    (λ begins. none (drop (length magic) file) ((starts_is Decides-eqb file magic (starts_with eqb file magic) refl).0 begins))

other_magic : (one other : List ℕ) → magic_1 ++ one ≡ magic_2 ++ other → ⊥
other_magic one other same =
    let last : 0x31 ≡ 0x32 = ap (λ (l : List ℕ). get_or l 3 0) same in
    omega (arith, last)

file_1 : (file : List ℕ) → starts_with eqb file magic_2 ≡ false → starts_with eqb file magic_1 ≡ true → file_at file ≡ unnamed_at (length file) (drop 4 file)
unfolding file_at
file_1 file other begins = rw (other, begins) refl

file_2 : (file : List ℕ) → starts_with eqb file magic_2 ≡ true → file_at file ≡ named_at (length file) (drop 4 file)
unfolding file_at
file_2 file begins = rw begins refl

file_none : (file : List ℕ) → starts_with eqb file magic_2 ≡ false → starts_with eqb file magic_1 ≡ false → file_at file ≡ Err fault.BadMagic
unfolding file_at
file_none file other another = rw (other, another) refl

-- the journal of a body is that of the file, with the name of the machine
abbrev pub of_file : Option (List ℕ) → Result JournalParts JournalFault → Result JournalFile JournalFault
of_file machine read = read >>= λ journal. Ok (record { machine = machine; journal = journal })

unnamed_is : (end : ℕ) (bytes : List ℕ) → unnamed_at end bytes ≡ of_file None (parts_at end bytes)
unfolding unnamed_at
unnamed_is end bytes = refl

named_is : (end : ℕ) (bytes name behind : List ℕ) → machine_at end bytes ≡ Ok (name, behind) → named_at end bytes ≡ of_file (Some name) (parts_at end behind)
unfolding named_at
named_is end bytes name behind read = rw read refl

named_err : (end : ℕ) (bytes : List ℕ) (f : JournalFault) → machine_at end bytes ≡ Err f → named_at end bytes ≡ Err f
unfolding named_at
named_err end bytes f read = rw read refl

named_file : (file bytes : List ℕ) → file ≡ magic_2 ++ bytes → file_at file ≡ named_at (length file) bytes
named_file file bytes parts = file_2 file (begins_with file magic_2 bytes parts) ∙ ap (λ (t : List ℕ). named_at (length file) t) (ap (drop 4) parts)

unnamed_file : (file bytes : List ℕ) → file ≡ magic_1 ++ bytes → file_at file ≡ unnamed_at (length file) bytes
unnamed_file file bytes parts =
    file_1 file (begins_not file magic_2 (λ rest same. other_magic bytes rest (sym parts ∙ same))) (begins_with file magic_1 bytes parts)
    ∙ ap (λ (t : List ℕ). unnamed_at (length file) t) (ap (drop 4) parts)

head_is : (machine : Option (List ℕ)) (file body : List ℕ) → IfSome machine IsMachineName → file ≡ head_bytes machine ++ body
    → file_at file ≡ of_file machine (parts_at (length file) body)
head_is None file body named parts = unnamed_file file body parts ∙ unnamed_is (length file) body
head_is (Some name) file body named parts =
    named_file file (data_bytes name ++ body) (parts ∙ append_assoc magic_2 (data_bytes name) body)
    ∙ named_is (length file) (data_bytes name ++ body) name body (machine_again (length file) name body named)

-- what follows a head is read as the body
pub body_is : (machine : Option (List ℕ)) (file body : List ℕ) → IfSome machine IsMachineName → file ≡ head_bytes machine ++ body
    → file_at file ≡ of_file machine (parts_at (end_of (length (head_bytes machine)) body) body)
body_is machine file body named parts =
    let ends : length file ≡ end_of (length (head_bytes machine)) body = omega (arith, ap length parts, length-append (head_bytes machine) body) in
    head_is machine file body named parts ∙ ap (λ (n : ℕ). of_file machine (parts_at n body)) ends

-- the name of the machine is behind the four bytes of the magic
name_place : (file bytes : List ℕ) → file ≡ magic_2 ++ bytes → place_of (length file) bytes ≡ 4
name_place file bytes parts = omega (arith, ap length parts, length-append magic_2 bytes)

pub machine_fault_again : (file : List ℕ) (f : JournalFault) → HasMachineFault file f → file_at file ≡ Err f
machine_fault_again file f h =
    let here = subst (λ (n : ℕ). IsMachineFault n h.rest f) (sym (name_place file h.rest h.parts)) h.here in
    named_file file h.rest h.parts ∙ named_err (length file) h.rest f (machine_fails (length file) h.rest f here)

pub no_magic_fails : (file : List ℕ) → HasNoMagic file → file_at file ≡ Err fault.BadMagic
no_magic_fails file none = file_none file (begins_not file magic_2 (λ rest. (none rest).1)) (begins_not file magic_1 (λ rest. (none rest).0))

-- ---- the file

abbrev pub FileEnds : List ℕ → Type 0
FileEnds file = TakesAll (file_at file) file_bytes IsJournalFile file ⊎ Stops (file_at file) (IsJournalFault file)

body_ends : (machine : Option (List ℕ)) (file body : List ℕ)
    → IfSome machine IsMachineName → file ≡ head_bytes machine ++ body → PartsEnd (length (head_bytes machine)) body
    → FileEnds file
body_ends machine file body named parts (inl journal) = inl (record {
  value = record { machine = machine; journal = journal.value };
  read_is = body_is machine file body named parts ∙ ap (of_file machine) journal.read_is;
  is = record { machine = named; journal = journal.is };
  parts = parts ∙ ap (λ (t : List ℕ). head_bytes machine ++ t) journal.parts;
})
body_ends machine file body named parts (inr stop) = inr (record {
  fault_is = stop.fault_is;
  read_is = body_is machine file body named parts ∙ ap (of_file machine) stop.read_is;
  here = inr (inr (record { machine = machine; named = named; body = body; parts = parts; here = stop.here }));
})

named_ends : (file bytes : List ℕ) → AllByRecursion IsByte bytes → file ≡ magic_2 ++ bytes → FileEnds file
named_ends file bytes fits parts =
    elim (machine_ends (length file) bytes fits) [
      | inl name ↦
          body_ends (Some name.value) file name.rest name.is (moved file magic_2 bytes (data_bytes name.value) name.rest parts name.parts)
          (parts_end (length (head_bytes (Some name.value))) name.rest (rest_fits bytes (data_bytes name.value) name.rest fits name.parts))
      | inr stop ↦
          let h : HasMachineFault file stop.fault_is = record {
            rest = bytes;
            parts = parts;
            here = subst (λ (n : ℕ). IsMachineFault n bytes stop.fault_is) (name_place file bytes parts) stop.here;
          } in
          inr (record { fault_is = stop.fault_is; read_is = machine_fault_again file stop.fault_is h; here = inr (inl h) })
    ]

no_magic_ends : (file : List ℕ) → starts_with eqb file magic_2 ≡ false → starts_with eqb file magic_1 ≡ false → FileEnds file
no_magic_ends file other another = inr (record {
  fault_is = fault.BadMagic;
  read_is = file_none file other another;
  here = inl (
    refl,
    λ rest. (
      λ parts. false≢true (sym another ∙ begins_with file magic_1 rest parts),
      λ parts. false≢true (sym other ∙ begins_with file magic_2 rest parts),
    ),
  );
})

pub file_ends : (file : List ℕ) → AllByRecursion IsByte file → FileEnds file
file_ends file fits =
    elim (cases_Bool (starts_with eqb file magic_2)) [
      | inl begins ↦
          let parts : file ≡ magic_2 ++ drop 4 file = (starts_is Decides-eqb file magic_2 (starts_with eqb file magic_2) refl).0 begins in
          named_ends file (drop 4 file) (rest_fits file magic_2 (drop 4 file) fits parts) parts
      | inr other ↦ elim (cases_Bool (starts_with eqb file magic_1)) [
        | inl begins ↦
            let parts : file ≡ magic_1 ++ drop 4 file = (starts_is Decides-eqb file magic_1 (starts_with eqb file magic_1) refl).0 begins in
            body_ends None file (drop 4 file) tt parts (parts_end 4 (drop 4 file) (rest_fits file magic_1 (drop 4 file) fits parts))
        | inr another ↦ no_magic_ends file other another
      ]
    ]
