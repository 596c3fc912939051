-- The fields of a journal file, in their order: each is read or at fault (`.._ends`), what is written is read again (`.._again`), and
-- what is at fault isn't read (`.._fails`). Each goes through the tests of its reader by `rw`.
use Rattle.std.proofs.Common.{◌≡◌, ◌≢◌, ◌⊎◌, ℕ, ◌<◌, ◌≤◌, ◌&&◌, true, false, not, ltb, eqb, List, [], ◌∷◌, ◌++◌, length, take, drop, Option, Some, None}
use Rattle.std.proofs.Common.{IfSome, Result, Ok, Err, refl, sym, ap, subst, ◌∙◌, inl, inr, arith, append_assoc}
use Rattle.std.specs.Int.{w32, to_le_bytes, from_le_bytes}
use Rattle.std.specs.List.{AllByRecursion}
use Rattle.std.proofs.lemmas.Bool.{cases_lt, cases_eq, cases_Bool, lt-ltb, le-ltb, ltb-false, ne_eqb, eq-eqb, and_parts, and_from, not-true, not_from_false}
use Rattle.std.proofs.lemmas.Bool.{false_from_ne_true, false≢true}
use Rattle.std.proofs.lemmas.List.{length-append, take-append-drop, length-take-le, take_at, drop_at, nil_from_length}
use Rattle.std.proofs.lemmas.Nat.{from_le_bytes-to_le_bytes_4}
use Rattle.uefi_path.specs.Row.{IsByte}
use Rattle.uefi_vars.specs.Name.{IsNameByte, name_max, IsName}
use Rattle.uefi_vars.specs.Vars.{data_max, IsData}
use Rattle.uefi_vars.specs.Set.{name_bytes, data_bytes}
use Rattle.uefi_vars.specs.Fault.{StatesLength}
use Rattle.uefi_vars.proofs.Bytes.{IsBytes, recursion_from_bytes, AllByRecursion-first, AllByRecursion-behind}
use Rattle.uefi_vars.proofs.Faults.{four_state}
use Rattle.uefi_vars.specs.BootChange.{is_boot_name}
use Rattle.boot_journal.specs.declared.fault.JournalFault.{JournalFault}
use Rattle.boot_journal.specs.declared.fault.JournalFault.TheVariants as fault
use Rattle.machine_names.specs.MachineName.{machine_name_max, IsMachineName}
use Rattle.boot_journal.specs.Bytes.{contents, value_bytes}
use Rattle.boot_journal.specs.Fault.{HasBadMachineLength, IsCutMachine, IsMachineFault, IsCutValue, HasLongValue, HasCutIdentity, HasBadIdentityLength}
use Rattle.boot_journal.specs.Fault.{HasBadCharacter, HasCutName, HasBadName}
use Rattle.boot_journal.specs.Reader.{place_of, len_at, stored, value_of, value_at, machine_of, machine_at, is_printing, identity_of, identity_at, name_of}
use Rattle.boot_journal.specs.Reader.{name_at}

-- what is read at the start of the bytes, and is spelled so there
pub record Takes {A : Type 0} (read : Result (A × List ℕ) JournalFault) (spelling : A → List ℕ) (Is : A → Type 0) (bytes : List ℕ) : Type 0 where
  pub value : A
  pub rest : List ℕ
  pub read_is : read ≡ Ok (value, rest)
  pub is : Is value
  pub parts : bytes ≡ spelling value ++ rest

-- this fault is met
pub record Stops {A : Type 0} (read : Result A JournalFault) (P : JournalFault → Type 0) : Type 0 where
  pub fault_is : JournalFault
  pub read_is : read ≡ Err fault_is
  pub here : P fault_is

-- a length that isn't 0 nor too large passes the tests
len_tests : (most len : ℕ) → (0 < len) × (len ≤ most) → (eqb len 0 ≡ false) × (ltb most len ≡ false)
len_tests most len good = (ne_eqb len 0 (λ e. omega (arith, e, good)), le-ltb _ _ good.1)

-- ---- a length of four bytes

four_at : (end : ℕ) (four behind : List ℕ) → length four ≡ 4 → len_at end (four ++ behind) ≡ Ok (from_le_bytes w32 four, behind)
unfolding len_at
four_at end four behind size =
    let enough : ltb (length (four ++ behind)) 4 ≡ false = le-ltb _ _ (omega (arith, size, length-append four behind)) in
    rw (enough, take_at four behind 4 size, drop_at four behind 4 size) refl

-- a length that is stated is read
len_stated : (end : ℕ) (bytes : List ℕ) (len : ℕ) (behind : List ℕ) → StatesLength bytes len behind → len_at end bytes ≡ Ok (len, behind)
len_stated end bytes len behind stated =
    ap (len_at end) stated.parts ∙ four_at end (to_le_bytes w32 len) behind refl
    ∙ ap (λ (n : ℕ). Ok (n, behind)) (from_le_bytes-to_le_bytes_4 len stated.four_bytes)

len_short : (end : ℕ) (bytes : List ℕ) → length bytes < 4 → len_at end bytes ≡ Err (fault.Truncated (place_of end bytes))
unfolding len_at
len_short end bytes short = rw (lt-ltb (length bytes) 4 short) refl

-- what is at the start of what follows the four bytes has bytes
pub first_fits : (bytes behind first rest : List ℕ) → IsBytes bytes → behind ≡ drop 4 bytes → behind ≡ first ++ rest → AllByRecursion IsByte first
first_fits bytes behind first rest fits is parts =
    let all = subst (AllByRecursion IsByte) (sym (take-append-drop 4 bytes)) (recursion_from_bytes bytes fits) in
    AllByRecursion-first IsByte first rest (subst (AllByRecursion IsByte) (sym is ∙ parts) (AllByRecursion-behind IsByte (take 4 bytes) (drop 4 bytes) all))

-- there are fewer than four bytes, or they state a length
pub record HasLength (bytes : List ℕ) : Type 0 where
  pub len : ℕ
  pub behind : List ℕ
  pub stated : StatesLength bytes len behind

len_ends : (bytes : List ℕ) → AllByRecursion IsByte bytes → (length bytes < 4) ⊎ HasLength bytes
len_ends [] fits = inl (omega arith)
len_ends (a ∷ []) fits = inl (omega arith)
len_ends (a ∷ b ∷ []) fits = inl (omega arith)
len_ends (a ∷ b ∷ c ∷ []) fits = inl (omega arith)
len_ends (a ∷ b ∷ c ∷ d ∷ rest) fits = inr (record { len = from_le_bytes w32 (a ∷ b ∷ c ∷ d ∷ []); behind = rest; stated = four_state a b c d rest fits })

-- ---- a value

pub contents-stored : (bytes : List ℕ) → contents (stored bytes) ≡ bytes
contents-stored [] = refl
contents-stored (byte ∷ bytes) = refl

pub stored-IsData : (bytes : List ℕ) → AllByRecursion IsByte bytes → length bytes ≤ data_max → IfSome (stored bytes) IsData
stored-IsData [] fits short = tt
stored-IsData (byte ∷ bytes) fits short = record { some = λ e. cc; len = short; bytes = fits }

contents-short : (value : Option (List ℕ)) → IfSome value IsData → length (contents value) ≤ data_max
contents-short None is = omega arith
contents-short (Some bytes) is = is.len

stored-contents : (value : Option (List ℕ)) → IfSome value IsData → stored (contents value) ≡ value
stored-contents None is = refl
stored-contents (Some []) is = absurd (is.some refl)
stored-contents (Some (byte ∷ bytes)) is = refl

-- a value whose length is stated is read by that length
stated_at : (end : ℕ) (bytes : List ℕ) (len : ℕ) (behind : List ℕ) → StatesLength bytes len behind
    → value_at end bytes ≡ value_of (place_of end bytes) len behind
unfolding value_at
stated_at end bytes len behind stated = rw (len_stated end bytes len behind stated) refl

value_good : (place len : ℕ) (behind : List ℕ) → len ≤ data_max → len ≤ length behind
    → value_of place len behind ≡ Ok (stored (take len behind), drop len behind)
value_good place len behind short within = rw (le-ltb data_max len short, le-ltb (length behind) len within) refl

value_cut : (place len : ℕ) (behind : List ℕ) → len ≤ data_max → length behind < len → value_of place len behind ≡ Err (fault.Truncated place)
value_cut place len behind short cut = rw (le-ltb data_max len short, lt-ltb (length behind) len cut) refl

value_long : (place len : ℕ) (behind : List ℕ) → data_max < len → value_of place len behind ≡ Err (fault.ValueTooLong place)
value_long place len behind long = rw (lt-ltb data_max len long) refl

short_fails : (end : ℕ) (bytes : List ℕ) → length bytes < 4 → value_at end bytes ≡ Err (fault.Truncated (place_of end bytes))
unfolding value_at
short_fails end bytes short = rw (len_short end bytes short) refl

pub cut_value_fails : (end : ℕ) (bytes : List ℕ) → IsCutValue bytes → value_at end bytes ≡ Err (fault.Truncated (place_of end bytes))
cut_value_fails end bytes (inl short) = short_fails end bytes short
cut_value_fails end bytes (inr h) = stated_at end bytes h.len h.behind h.stated ∙ value_cut (place_of end bytes) h.len h.behind h.good h.cut

pub long_value_fails : (end : ℕ) (bytes : List ℕ) → HasLongValue bytes → value_at end bytes ≡ Err (fault.ValueTooLong (place_of end bytes))
long_value_fails end bytes h = stated_at end bytes h.len h.behind h.stated ∙ value_long (place_of end bytes) h.len h.behind h.bad

pub value_again : (end : ℕ) (value : Option (List ℕ)) (rest : List ℕ) → IfSome value IsData → value_at end (value_bytes value ++ rest) ≡ Ok (value, rest)
value_again end value rest is =
    let bytes = contents value in
    let short = contents-short value is in
    let stated : StatesLength (value_bytes value ++ rest) (length bytes) (bytes ++ rest) = record {
      four_bytes = omega (arith, short);
      parts = append_assoc (to_le_bytes w32 (length bytes)) bytes rest;
    } in
    let within : length bytes ≤ length (bytes ++ rest) = omega (arith, length-append bytes rest) in
    stated_at end (value_bytes value ++ rest) (length bytes) (bytes ++ rest) stated
    ∙ value_good (place_of end (value_bytes value ++ rest)) (length bytes) (bytes ++ rest) short within
    ∙ rw (take_at bytes rest (length bytes) refl, drop_at bytes rest (length bytes) refl, stored-contents value is) refl

-- what may be at fault in a value
abbrev pub IsValueFault : ℕ → List ℕ → JournalFault → Type 0
IsValueFault place bytes f =
    ((f ≡ fault.Truncated place) × IsCutValue bytes) ⊎ ((f ≡ fault.ValueTooLong place) × HasLongValue bytes)

abbrev pub ValueEnds : ℕ → List ℕ → Type 0
ValueEnds end bytes =
    Takes (value_at end bytes) value_bytes (λ value. IfSome value IsData) bytes ⊎ Stops (value_at end bytes) (IsValueFault (place_of end bytes) bytes)

stated_takes : (end : ℕ) (bytes : List ℕ) (len : ℕ) (behind : List ℕ)
    → AllByRecursion IsByte bytes → StatesLength bytes len behind → len ≤ data_max → len ≤ length behind
    → Takes (value_at end bytes) value_bytes (λ value. IfSome value IsData) bytes
stated_takes end bytes len behind fits stated short within =
    let value = take len behind in
    let size : length value ≡ len = length-take-le len behind within in
    let behind_fits = AllByRecursion-behind IsByte (to_le_bytes w32 len) behind (subst (AllByRecursion IsByte) stated.parts fits) in
    let value_fits = AllByRecursion-first IsByte value (drop len behind) (subst (AllByRecursion IsByte) (sym (take-append-drop len behind)) behind_fits) in
    let spelled : value_bytes (stored value) ≡ to_le_bytes w32 len ++ value =
    ap data_bytes (contents-stored value) ∙ ap (λ (n : ℕ). to_le_bytes w32 n ++ value) size in
    record {
      value = stored value;
      rest = drop len behind;
      read_is = stated_at end bytes len behind stated ∙ value_good (place_of end bytes) len behind short within;
      is = stored-IsData value value_fits (omega (arith, size, short));
      parts =
          stated.parts ∙ ap (λ (t : List ℕ). to_le_bytes w32 len ++ t) (sym (take-append-drop len behind))
          ∙ sym (append_assoc (to_le_bytes w32 len) value (drop len behind))
          ∙ ap (λ (t : List ℕ). t ++ drop len behind) (sym spelled);
    }

stated_ends : (end : ℕ) (bytes : List ℕ) (len : ℕ) (behind : List ℕ) → AllByRecursion IsByte bytes → StatesLength bytes len behind → ValueEnds end bytes
stated_ends end bytes len behind fits stated =
    elim (cases_lt data_max len) [
      | inl long ↦
          let h : HasLongValue bytes = record { len = len; behind = behind; stated = stated; bad = long } in
          inr (record { fault_is = fault.ValueTooLong (place_of end bytes); read_is = long_value_fails end bytes h; here = inr (refl, h) })
      | inr short ↦ elim (cases_lt (length behind) len) [
        | inl cut ↦
            let h : IsCutValue bytes = inr (record { len = len; behind = behind; stated = stated; good = short; cut = cut }) in
            inr (record { fault_is = fault.Truncated (place_of end bytes); read_is = cut_value_fails end bytes h; here = inl (refl, h) })
        | inr within ↦ inl (stated_takes end bytes len behind fits stated short within)
      ]
    ]

pub value_ends : (end : ℕ) (bytes : List ℕ) → AllByRecursion IsByte bytes → ValueEnds end bytes
value_ends end bytes fits =
    elim (len_ends bytes fits) [
      | inl short ↦ inr (record { fault_is = fault.Truncated (place_of end bytes); read_is = short_fails end bytes short; here = inl (refl, inl short) })
      | inr h ↦ stated_ends end bytes h.len h.behind fits h.stated
    ]

-- ---- the name of a machine

machine_stated : (end : ℕ) (bytes : List ℕ) (len : ℕ) (behind : List ℕ) → StatesLength bytes len behind
    → machine_at end bytes ≡ machine_of (place_of end bytes) len behind
unfolding machine_at
machine_stated end bytes len behind stated = rw (len_stated end bytes len behind stated) refl

machine_short : (end : ℕ) (bytes : List ℕ) → length bytes < 4 → machine_at end bytes ≡ Err (fault.Truncated (place_of end bytes))
unfolding machine_at
machine_short end bytes short = rw (len_short end bytes short) refl

machine_good : (place len : ℕ) (behind : List ℕ) → (0 < len) × (len ≤ machine_name_max) → len ≤ length behind
    → machine_of place len behind ≡ Ok (take len behind, drop len behind)
machine_good place len behind good within =
    let tests = len_tests machine_name_max len good in
    rw (tests.0, tests.1, le-ltb (length behind) len within) refl

machine_cut : (place len : ℕ) (behind : List ℕ) → (0 < len) × (len ≤ machine_name_max) → length behind < len
    → machine_of place len behind ≡ Err (fault.Truncated place)
machine_cut place len behind good cut =
    let tests = len_tests machine_name_max len good in
    rw (tests.0, tests.1, lt-ltb (length behind) len cut) refl

machine_bad : (place len : ℕ) (behind : List ℕ) → (len ≡ 0) ⊎ (machine_name_max < len) → machine_of place len behind ≡ Err (fault.BadMachine place)
machine_bad place len behind (inl none) = rw (eq-eqb len 0 none) refl
machine_bad place len behind (inr long) =
    rw (ne_eqb len 0 (λ e. omega (arith, e, long)), lt-ltb machine_name_max len long) refl

cut_machine_fails : (end : ℕ) (bytes : List ℕ) → IsCutMachine bytes → machine_at end bytes ≡ Err (fault.Truncated (place_of end bytes))
cut_machine_fails end bytes (inl short) = machine_short end bytes short
cut_machine_fails end bytes (inr h) = machine_stated end bytes h.len h.behind h.stated ∙ machine_cut (place_of end bytes) h.len h.behind h.good h.cut

bad_machine_fails : (end : ℕ) (bytes : List ℕ) → HasBadMachineLength bytes → machine_at end bytes ≡ Err (fault.BadMachine (place_of end bytes))
bad_machine_fails end bytes h = machine_stated end bytes h.len h.behind h.stated ∙ machine_bad (place_of end bytes) h.len h.behind h.bad

pub machine_fails : (end : ℕ) (bytes : List ℕ) (f : JournalFault) → IsMachineFault (place_of end bytes) bytes f → machine_at end bytes ≡ Err f
machine_fails end bytes f (inl h) = cut_machine_fails end bytes h.1 ∙ ap (λ (g : JournalFault). Err g) (sym h.0)
machine_fails end bytes f (inr h) = bad_machine_fails end bytes h.1 ∙ ap (λ (g : JournalFault). Err g) (sym h.0)

pub machine_again : (end : ℕ) (name rest : List ℕ) → IsMachineName name → machine_at end (data_bytes name ++ rest) ≡ Ok (name, rest)
machine_again end name rest is =
    let some : length name ≢ 0 = λ none. is.some (nil_from_length name none) in
    let short : length name ≤ machine_name_max = is.len in
    let good : (0 < length name) × (length name ≤ machine_name_max) = (omega (arith, some), short) in
    let stated : StatesLength (data_bytes name ++ rest) (length name) (name ++ rest) = record {
      four_bytes = omega (arith, short);
      parts = append_assoc (to_le_bytes w32 (length name)) name rest;
    } in
    machine_stated end (data_bytes name ++ rest) (length name) (name ++ rest) stated
    ∙ machine_good (place_of end (data_bytes name ++ rest)) (length name) (name ++ rest) good (omega (arith, length-append name rest))
    ∙ rw (take_at name rest (length name) refl, drop_at name rest (length name) refl) refl

abbrev pub MachineEnds : ℕ → List ℕ → Type 0
MachineEnds end bytes =
    Takes (machine_at end bytes) data_bytes IsMachineName bytes ⊎ Stops (machine_at end bytes) (IsMachineFault (place_of end bytes) bytes)

machine_stops : (end : ℕ) (bytes : List ℕ) (f : JournalFault) → IsMachineFault (place_of end bytes) bytes f → MachineEnds end bytes
machine_stops end bytes f h = inr (record { fault_is = f; read_is = machine_fails end bytes f h; here = h })

machine_takes : (end : ℕ) (bytes : List ℕ) (len : ℕ) (behind : List ℕ)
    → AllByRecursion IsByte bytes → StatesLength bytes len behind → (0 < len) × (len ≤ machine_name_max) → len ≤ length behind
    → MachineEnds end bytes
machine_takes end bytes len behind fits stated good within =
    let name = take len behind in
    let size : length name ≡ len = length-take-le len behind within in
    let behind_fits = AllByRecursion-behind IsByte (to_le_bytes w32 len) behind (subst (AllByRecursion IsByte) stated.parts fits) in
    inl (record {
      value = name;
      rest = drop len behind;
      read_is = machine_stated end bytes len behind stated ∙ machine_good (place_of end bytes) len behind good within;
      is = record {
        some = λ none. let empty : length name ≡ 0 = ap length none in omega (arith, good, size, empty);
        len = omega (arith, good, size);
        bytes = AllByRecursion-first IsByte name (drop len behind) (subst (AllByRecursion IsByte) (sym (take-append-drop len behind)) behind_fits);
      };
      parts =
          stated.parts ∙ ap (λ (t : List ℕ). to_le_bytes w32 len ++ t) (sym (take-append-drop len behind))
          ∙ sym (append_assoc (to_le_bytes w32 len) name (drop len behind))
          ∙ ap (λ (n : ℕ). (to_le_bytes w32 n ++ name) ++ drop len behind) (sym size);
    })

machine_by : (end : ℕ) (bytes : List ℕ) (len : ℕ) (behind : List ℕ) → AllByRecursion IsByte bytes → StatesLength bytes len behind → MachineEnds end bytes
machine_by end bytes len behind fits stated =
    elim (cases_eq len 0) [
      | inl none ↦
          machine_stops end bytes (fault.BadMachine (place_of end bytes)) (inr (refl, record { len = len; behind = behind; stated = stated; bad = inl none }))
      | inr some ↦ elim (cases_lt machine_name_max len) [
        | inl long ↦
            machine_stops end bytes (fault.BadMachine (place_of end bytes))
            (inr (refl, record { len = len; behind = behind; stated = stated; bad = inr long }))
        | inr short ↦
            let good : (0 < len) × (len ≤ machine_name_max) = (omega (arith, some), short) in
            elim (cases_lt (length behind) len) [
              | inl cut ↦
                  machine_stops end bytes (fault.Truncated (place_of end bytes))
                  (inl (refl, inr (record { len = len; behind = behind; stated = stated; good = good; cut = cut })))
              | inr within ↦ machine_takes end bytes len behind fits stated good within
            ]
      ]
    ]

pub machine_ends : (end : ℕ) (bytes : List ℕ) → AllByRecursion IsByte bytes → MachineEnds end bytes
machine_ends end bytes fits =
    elim (len_ends bytes fits) [
      | inl short ↦ machine_stops end bytes (fault.Truncated (place_of end bytes)) (inl (refl, inl short))
      | inr h ↦ machine_by end bytes h.len h.behind fits h.stated
    ]

-- ---- an identity

name_byte_tests : (byte : ℕ) → (not (ltb byte 0x21) && not (ltb 0x7E byte)) ≡ true → IsNameByte byte
name_byte_tests byte e =
    let both = and_parts (not (ltb byte 0x21)) (not (ltb 0x7E byte)) e in
    (ltb-false _ _ (not-true _ both.0), ltb-false _ _ (not-true _ both.1))

name_byte_passes : (byte : ℕ) → IsNameByte byte → (not (ltb byte 0x21) && not (ltb 0x7E byte)) ≡ true
name_byte_passes byte is = and_from _ _ (not_from_false _ (le-ltb byte 0x21 is.0)) (not_from_false _ (le-ltb 0x7E byte is.1))

pub printing_bytes : (text : List ℕ) → is_printing text ≡ true → AllByRecursion IsNameByte text
printing_bytes [] e = tt
printing_bytes (byte ∷ text) e = let both = and_parts _ (is_printing text) e in (name_byte_tests byte both.0, printing_bytes text both.1)

printing_passes : (text : List ℕ) → AllByRecursion IsNameByte text → is_printing text ≡ true
printing_passes [] all = refl
printing_passes (byte ∷ text) all = and_from _ (is_printing text) (name_byte_passes byte all.0) (printing_passes text all.1)

identity_good : (place len : ℕ) (behind : List ℕ) → (0 < len) × (len ≤ name_max) → len ≤ length behind → is_printing (take len behind) ≡ true
    → identity_of place len behind ≡ Ok (take len behind, drop len behind)
identity_good place len behind good within printing =
    let tests = len_tests name_max len good in
    rw (tests.0, tests.1, le-ltb (length behind) len within, printing) refl

identity_cut : (place len : ℕ) (behind : List ℕ) → (0 < len) × (len ≤ name_max) → length behind < len
    → identity_of place len behind ≡ Err (fault.Truncated place)
identity_cut place len behind good cut =
    let tests = len_tests name_max len good in
    rw (tests.0, tests.1, lt-ltb (length behind) len cut) refl

identity_unprinting : (place len : ℕ) (behind : List ℕ) → (0 < len) × (len ≤ name_max) → len ≤ length behind → is_printing (take len behind) ≡ false
    → identity_of place len behind ≡ Err (fault.BadIdentity place)
identity_unprinting place len behind good within bad =
    let tests = len_tests name_max len good in
    rw (tests.0, tests.1, le-ltb (length behind) len within, bad) refl

identity_empty : (place len : ℕ) (behind : List ℕ) → len ≡ 0 → identity_of place len behind ≡ Err (fault.BadIdentity place)
identity_empty place len behind none = rw (eq-eqb len 0 none) refl

identity_long : (place len : ℕ) (behind : List ℕ) → name_max < len → identity_of place len behind ≡ Err (fault.BadIdentity place)
identity_long place len behind long = rw (ne_eqb len 0 (λ e. omega (arith, e, long)), lt-ltb name_max len long) refl

pub identity_front : (end len : ℕ) (behind : List ℕ) → identity_at end (len ∷ behind) ≡ identity_of (place_of end (len ∷ behind)) len behind
unfolding identity_at
identity_front end len behind = refl

no_identity : (end : ℕ) → identity_at end [] ≡ Err (fault.Truncated (place_of end []))
unfolding identity_at
no_identity end = refl

abbrev pub IsCutIdentity : List ℕ → Type 0
IsCutIdentity bytes = (bytes ≡ []) ⊎ HasCutIdentity bytes

abbrev pub IsBadIdentity : List ℕ → Type 0
IsBadIdentity bytes = HasBadIdentityLength bytes ⊎ HasBadCharacter bytes

identity_fails_by : (end : ℕ) (bytes : List ℕ) (len : ℕ) (behind : List ℕ) (f : ℕ → JournalFault)
    → bytes ≡ len ∷ behind → ((place : ℕ) → identity_of place len behind ≡ Err (f place))
    → identity_at end bytes ≡ Err (f (place_of end bytes))
identity_fails_by end bytes len behind f parts fails =
    subst (λ (b : List ℕ). identity_at end b ≡ Err (f (place_of end b))) (sym parts) (identity_front end len behind ∙ fails (place_of end (len ∷ behind)))

pub cut_identity_fails : (end : ℕ) (bytes : List ℕ) → IsCutIdentity bytes → identity_at end bytes ≡ Err (fault.Truncated (place_of end bytes))
cut_identity_fails end bytes (inl none) = subst (λ (b : List ℕ). identity_at end b ≡ Err (fault.Truncated (place_of end b))) (sym none) (no_identity end)
cut_identity_fails end bytes (inr h) =
    identity_fails_by end bytes h.len h.behind (λ place. fault.Truncated place) h.parts (λ place. identity_cut place h.len h.behind h.good h.cut)

unprinting_fails : (place : ℕ) (text behind : List ℕ) → (0 < length text) × (length text ≤ name_max) → ¬ AllByRecursion IsNameByte text
    → identity_of place (length text) (text ++ behind) ≡ Err (fault.BadIdentity place)
unprinting_fails place text behind good bad =
    let front = take_at text behind (length text) refl in
    let test : is_printing (take (length text) (text ++ behind)) ≡ false =
    ap is_printing front ∙ false_from_ne_true (is_printing text) (λ e. bad (printing_bytes text e)) in
    identity_unprinting place (length text) (text ++ behind) good (omega (arith, length-append text behind)) test

pub bad_identity_fails : (end : ℕ) (bytes : List ℕ) → IsBadIdentity bytes → identity_at end bytes ≡ Err (fault.BadIdentity (place_of end bytes))
bad_identity_fails end bytes (inl h) =
    identity_fails_by end bytes h.len h.behind (λ place. fault.BadIdentity place) h.parts
    (λ place. elim h.bad [ inl none ↦ identity_empty place h.len h.behind none | inr long ↦ identity_long place h.len h.behind long ])
bad_identity_fails end bytes (inr h) =
    identity_fails_by end bytes (length h.text) (h.text ++ h.behind) (λ place. fault.BadIdentity place) h.parts
    (λ place. unprinting_fails place h.text h.behind h.good h.bad)

some_length : (text : List ℕ) → IsName text → (0 < length text) × (length text ≤ name_max)
some_length text is =
    let some : length text ≢ 0 = λ none. is.some (nil_from_length text none) in
    (omega (arith, some), is.len)

pub identity_again : (end : ℕ) (boot rest : List ℕ) → IsName boot → identity_at end (name_bytes boot ++ rest) ≡ Ok (boot, rest)
identity_again end boot rest is =
    let front = take_at boot rest (length boot) refl in
    let back = drop_at boot rest (length boot) refl in
    let printing : is_printing (take (length boot) (boot ++ rest)) ≡ true = ap is_printing front ∙ printing_passes boot is.printing in
    identity_front end (length boot) (boot ++ rest)
    ∙ identity_good (place_of end (length boot ∷ (boot ++ rest))) (length boot) (boot ++ rest) (some_length boot is)
    (omega (arith, length-append boot rest)) printing
    ∙ rw (front, back) refl

abbrev pub IsIdentityFault : ℕ → List ℕ → JournalFault → Type 0
IsIdentityFault place bytes f =
    ((f ≡ fault.Truncated place) × IsCutIdentity bytes) ⊎ ((f ≡ fault.BadIdentity place) × IsBadIdentity bytes)

abbrev pub IdentityEnds : ℕ → List ℕ → Type 0
IdentityEnds end bytes = Takes (identity_at end bytes) name_bytes IsName bytes ⊎ Stops (identity_at end bytes) (IsIdentityFault (place_of end bytes) bytes)

identity_cuts : (end : ℕ) (bytes : List ℕ) → IsCutIdentity bytes → IdentityEnds end bytes
identity_cuts end bytes h = inr (record { fault_is = fault.Truncated (place_of end bytes); read_is = cut_identity_fails end bytes h; here = inl (refl, h) })

identity_bad : (end : ℕ) (bytes : List ℕ) → IsBadIdentity bytes → IdentityEnds end bytes
identity_bad end bytes h = inr (record { fault_is = fault.BadIdentity (place_of end bytes); read_is = bad_identity_fails end bytes h; here = inr (refl, h) })

-- its characters are there
pub text_parts : (len : ℕ) (behind : List ℕ) → len ≤ length behind → len ∷ behind ≡ name_bytes (take len behind) ++ drop len behind
text_parts len behind within =
    ap (λ (t : List ℕ). len ∷ t) (sym (take-append-drop len behind))
    ∙ ap (λ (n : ℕ). n ∷ (take len behind ++ drop len behind)) (sym (length-take-le len behind within))

text_ends : (end len : ℕ) (behind : List ℕ) → (0 < len) × (len ≤ name_max) → len ≤ length behind → IdentityEnds end (len ∷ behind)
text_ends end len behind good within =
    let text = take len behind in
    let size : length text ≡ len = length-take-le len behind within in
    let parts = text_parts len behind within in
    elim (cases_Bool (is_printing text)) [
      | inl printing ↦ inl (record {
        value = text;
        rest = drop len behind;
        read_is = identity_front end len behind ∙ identity_good (place_of end (len ∷ behind)) len behind good within printing;
        is = record {
          some = λ none. let empty : length text ≡ 0 = ap length none in omega (arith, good, size, empty);
          len = omega (arith, good, size);
          printing = printing_bytes text printing;
        };
        parts = parts;
      })
      | inr bad ↦ identity_bad end (len ∷ behind) (inr (record {
        text = text;
        behind = drop len behind;
        good = (omega (arith, good, size), omega (arith, good, size));
        bad = λ all. false≢true (sym bad ∙ printing_passes text all);
        parts = parts;
      }))
    ]

pub identity_ends : (end : ℕ) (bytes : List ℕ) → IdentityEnds end bytes
identity_ends end [] = identity_cuts end [] (inl refl)
identity_ends end (len ∷ behind) =
    elim (cases_eq len 0) [
      | inl none ↦ identity_bad end (len ∷ behind) (inl (record { len = len; behind = behind; bad = inl none; parts = refl }))
      | inr some ↦ elim (cases_lt name_max len) [
        | inl long ↦ identity_bad end (len ∷ behind) (inl (record { len = len; behind = behind; bad = inr long; parts = refl }))
        | inr short ↦
            let good : (0 < len) × (len ≤ name_max) = (omega (arith, some), short) in
            elim (cases_lt (length behind) len) [
              | inl cut ↦ identity_cuts end (len ∷ behind) (inr (record { len = len; behind = behind; good = good; parts = refl; cut = cut }))
              | inr within ↦ text_ends end len behind good within
            ]
      ]
    ]

-- ---- a name

name_front : (end len : ℕ) (behind : List ℕ) → name_at end (len ∷ behind) ≡ name_of (place_of end (len ∷ behind)) len behind
unfolding name_at
name_front end len behind = refl

name_good : (place len : ℕ) (behind : List ℕ) → len ≤ length behind → is_boot_name (take len behind) ≡ true
    → name_of place len behind ≡ Ok (take len behind, drop len behind)
name_good place len behind within boot = rw (le-ltb (length behind) len within, boot) refl

name_cut : (place len : ℕ) (behind : List ℕ) → length behind < len → name_of place len behind ≡ Err (fault.Truncated place)
name_cut place len behind cut = rw (lt-ltb (length behind) len cut) refl

name_bad : (place len : ℕ) (behind : List ℕ) → len ≤ length behind → is_boot_name (take len behind) ≡ false
    → name_of place len behind ≡ Err (fault.BadName place)
name_bad place len behind within bad = rw (le-ltb (length behind) len within, bad) refl

name_fails_by : (end : ℕ) (bytes : List ℕ) (len : ℕ) (behind : List ℕ) (f : ℕ → JournalFault)
    → bytes ≡ len ∷ behind → ((place : ℕ) → name_of place len behind ≡ Err (f place))
    → name_at end bytes ≡ Err (f (place_of end bytes))
name_fails_by end bytes len behind f parts fails =
    subst (λ (b : List ℕ). name_at end b ≡ Err (f (place_of end b))) (sym parts) (name_front end len behind ∙ fails (place_of end (len ∷ behind)))

pub cut_name_fails : (end : ℕ) (bytes : List ℕ) → HasCutName bytes → name_at end bytes ≡ Err (fault.Truncated (place_of end bytes))
cut_name_fails end bytes h = name_fails_by end bytes h.len h.behind (λ place. fault.Truncated place) h.parts (λ place. name_cut place h.len h.behind h.cut)

pub bad_name_fails : (end : ℕ) (bytes : List ℕ) → HasBadName bytes → name_at end bytes ≡ Err (fault.BadName (place_of end bytes))
bad_name_fails end bytes h =
    let front = take_at h.name h.behind (length h.name) refl in
    name_fails_by end bytes (length h.name) (h.name ++ h.behind) (λ place. fault.BadName place) h.parts
    (λ place. name_bad place (length h.name) (h.name ++ h.behind) (omega (arith, length-append h.name h.behind)) (ap is_boot_name front ∙ h.bad))

pub name_again : (end : ℕ) (name rest : List ℕ) → is_boot_name name ≡ true → name_at end (name_bytes name ++ rest) ≡ Ok (name, rest)
name_again end name rest boot =
    let front = take_at name rest (length name) refl in
    let back = drop_at name rest (length name) refl in
    name_front end (length name) (name ++ rest)
    ∙ name_good (place_of end (length name ∷ (name ++ rest))) (length name) (name ++ rest) (omega (arith, length-append name rest))
    (ap is_boot_name front ∙ boot)
    ∙ rw (front, back) refl

abbrev pub IsNameFault : ℕ → List ℕ → JournalFault → Type 0
IsNameFault place bytes f = ((f ≡ fault.Truncated place) × HasCutName bytes) ⊎ ((f ≡ fault.BadName place) × HasBadName bytes)

abbrev pub IsBoot : List ℕ → Type 0
IsBoot name = is_boot_name name ≡ true

abbrev pub NameEnds : ℕ → List ℕ → Type 0
NameEnds end bytes = Takes (name_at end bytes) name_bytes IsBoot bytes ⊎ Stops (name_at end bytes) (IsNameFault (place_of end bytes) bytes)

pub name_ends : (end len : ℕ) (behind : List ℕ) → NameEnds end (len ∷ behind)
name_ends end len behind =
    elim (cases_lt (length behind) len) [
      | inl cut ↦
          let h : HasCutName (len ∷ behind) = record { len = len; behind = behind; parts = refl; cut = cut } in
          inr (record { fault_is = fault.Truncated (place_of end (len ∷ behind)); read_is = cut_name_fails end (len ∷ behind) h; here = inl (refl, h) })
      | inr within ↦ elim (cases_Bool (is_boot_name (take len behind))) [
        | inl boot ↦ inl (record {
          value = take len behind;
          rest = drop len behind;
          read_is = name_front end len behind ∙ name_good (place_of end (len ∷ behind)) len behind within boot;
          is = boot;
          parts = text_parts len behind within;
        })
        | inr bad ↦
            let h : HasBadName (len ∷ behind) =
            record { name = take len behind; behind = drop len behind; bad = bad; parts = text_parts len behind within } in
            inr (record { fault_is = fault.BadName (place_of end (len ∷ behind)); read_is = bad_name_fails end (len ∷ behind) h; here = inr (refl, h) })
      ]
    ]
