-- One set for each spelling, and one first fault if there is none.
use Rattle.std.proofs.Common.{◌≡◌, ◌⊎◌, ℕ, zero, suc, ◌+◌, ◌<◌, Bool, true, false, eqb, List, [], ◌∷◌, ◌++◌, length, take, drop, refl, sym}
use Rattle.std.proofs.Common.{ap, subst, ◌∙◌, inl, inr, arith, append_assoc}
use Rattle.std.specs.List.{AllByRecursion}
use Rattle.std.specs.List.Sorted.{IsStrictlySortedBy}
use Rattle.std.specs.declared.cmp.Ordering.TheVariants.{Less}
use Rattle.std.specs.Cmp.Lexicographic.{pointwise}
use Rattle.std.specs.FinMap.{entries, entries_sorted, same_entries_map, from_sorted, entries-from_sorted}
use Rattle.std.proofs.lemmas.Bool.{false≢true}
use Rattle.std.proofs.lemmas.Bool.Decides.{Decides-eqb}
use Rattle.std.proofs.lemmas.Grind.{flat_map-append}
use Rattle.std.proofs.lemmas.List.{length-append, append-nil, map-append}
use Rattle.std.proofs.lemmas.Slice.Eq.{starts_is}
use Rattle.uefi_path.specs.Row.{IsByte}
use Rattle.uefi_vars.proofs.Bytes.{AllByRecursion-append, AllByRecursion-behind}
use Rattle.uefi_vars.specs.declared.fault.SetFault.{SetFault}
use Rattle.uefi_vars.specs.declared.fault.SetFault.TheVariants as fault
use Rattle.uefi_vars.specs.Name.{IsNameByte}
use Rattle.uefi_vars.specs.Vars.{Variables, name_cmp, IsVariable, IsVars}
use Rattle.uefi_vars.specs.Set.{magic, name_bytes, data_bytes, record_bytes, records_bytes, set_bytes, SpellsSet}
use Rattle.uefi_vars.specs.Fault.{HasNoMagic, HasRestWith, IsAbove, HasCutName, HasNameWith, IsCutData, StatesBadLength, IsFirstFault}
use Rattle.uefi_vars.specs.Reader.{names_of, HasRecords, IsRecordFault, HasRecordsFault}
use Rattle.uefi_vars.proofs.Maps.{entries-AllByRecursion, IsVars-from_sorted}
use Rattle.uefi_vars.proofs.Records.{Pair, same_record, above_front, one_above, none_rise, names_rise, pairs_rise}
use Rattle.uefi_vars.proofs.Faults.{Stops, end_stops, fault_stops, fault_some, same_record_fault, record_ends}

-- ---- two readings of the same bytes

-- the variables of records after those of these names, and what is after them
record Reads (before : List (List ℕ)) (pairs : List Pair) (rest : List ℕ) : Type 0 where
  whole : AllByRecursion IsVariable pairs
  rising : IsStrictlySortedBy name_cmp (before ++ names_of pairs)
  stops : Stops (before ++ names_of pairs) rest

-- the first record is one of the names before the others
behind_one : (before : List (List ℕ)) (p : Pair) (pairs : List Pair) (rest : List ℕ) → Reads before (p ∷ pairs) rest → Reads (before ++ p.0 ∷ []) pairs rest
behind_one before p pairs rest h =
    let same : before ++ p.0 ∷ names_of pairs ≡ (before ++ p.0 ∷ []) ++ names_of pairs = sym (append_assoc before (p.0 ∷ []) (names_of pairs)) in
    record {
      whole = h.whole.1;
      rising = subst (IsStrictlySortedBy name_cmp) same h.rising;
      stops = subst (λ (names : List (List ℕ)). Stops names rest) same h.stops;
    }

-- if one reading has no record, the other has none
none_reads : (before : List (List ℕ)) (p : Pair) (pairs : List Pair) (x y : List ℕ) → Reads before [] x →
    Reads before (p ∷ pairs) y → x ≡ records_bytes (p ∷ pairs) ++ y → ⊥
none_reads before p pairs x y first second e =
    first.stops p (records_bytes pairs ++ y) second.whole.0 (subst
    (λ (names : List (List ℕ)). AllByRecursion (λ m. name_cmp m p.0 ≡ Less) names) (sym (append-nil before))
    (above_front before p.0 (names_of pairs) second.rising))
    (e ∙ append_assoc (record_bytes p) (records_bytes pairs) y)

same_records : (before : List (List ℕ)) (ps qs : List Pair) (x y : List ℕ) → Reads before ps x → Reads before qs y →
    records_bytes ps ++ x ≡ records_bytes qs ++ y → (ps ≡ qs) × (x ≡ y)
same_records before [] [] x y first second e = (refl, e)
same_records before [] (q ∷ qs) x y first second e = absurd (none_reads before q qs x y first second e)
same_records before (p ∷ ps) [] x y first second e = absurd (none_reads before p ps y x second first (sym e))
same_records before (p ∷ ps) (q ∷ qs) x y first second e =
    let regrouped : record_bytes p ++ (records_bytes ps ++ x) ≡ record_bytes q ++ (records_bytes qs ++ y) =
    sym (append_assoc (record_bytes p) (records_bytes ps) x) ∙ e ∙ append_assoc (record_bytes q) (records_bytes qs) y in
    let here = same_record p q (records_bytes ps ++ x) (records_bytes qs ++ y) first.whole.0 second.whole.0 regrouped in
    let others = same_records (before ++ q.0 ∷ []) ps qs x y (subst (λ (r : Pair). Reads (before ++ r.0 ∷ []) ps x) here.0
    (behind_one before p ps x first)) (behind_one before q qs y second) here.1 in
    (ap (λ (r : Pair). r ∷ ps) here.0 ∙ ap (λ (rs : List Pair). q ∷ rs) others.0, others.1)

-- ---- one set

set_reads : (vars : Variables) → IsVars vars → Reads [] (entries vars) []
set_reads vars are = record {
  whole = entries-AllByRecursion vars are;
  rising = names_rise (entries vars) (entries_sorted vars);
  stops = end_stops (names_of (entries vars));
}

pub same_set : (bytes : List ℕ) (a b : Variables) → SpellsSet bytes a → SpellsSet bytes b → a ≡ b
same_set bytes a b first second =
    let e : magic ++ records_bytes (entries a) ≡ magic ++ records_bytes (entries b) = sym first.1 ∙ second.1 in
    let records : records_bytes (entries a) ≡ records_bytes (entries b) = cc in
    same_entries_map a b (same_records [] (entries a) (entries b) [] [] (set_reads a first.0) (set_reads b second.0) (ap (λ (t : List ℕ). t ++ []) records)).0

-- ---- the first fault

-- the magic and, after it, records with the fault
record HasFault (input : List ℕ) (f : SetFault) : Type 0 where
  behind : List ℕ
  parts : input ≡ magic ++ behind
  records : HasRecordsFault behind 4 f

-- a first fault is that of the magic, or is in a record
abbrev Kinds : List ℕ → SetFault → Type 0
Kinds input f = (HasNoMagic input × (f ≡ fault.BadMagic 0)) ⊎ HasFault input f

rest_fault : (input : List ℕ) (place : ℕ) (P : List (List ℕ) → List ℕ → Type 0) (f : SetFault) → HasRestWith input place P →
    ((names : List (List ℕ)) (rest : List ℕ) → P names rest → IsRecordFault names rest place f) → HasFault input f
rest_fault input place P f h turn =
    let before = h.before in
    let at : place ≡ 4 + length (records_bytes before.variables) = before.at ∙ omega arith in
    let here = subst (λ (names : List (List ℕ)). IsRecordFault names h.rest place f) before.named (turn h.names h.rest h.here) in
    record {
      behind = records_bytes before.variables ++ h.rest;
      parts = before.parts;
      records = record {
        pairs = before.variables;
        rest = h.rest;
        before = record { whole = before.whole; rising = subst (IsStrictlySortedBy name_cmp) before.named before.rising; parts = refl };
        here = subst (λ (n : ℕ). IsRecordFault (names_of before.variables) h.rest n f) at here;
      };
    }

truncated : (place : ℕ) (names : List (List ℕ)) (rest : List ℕ) →
    HasCutName rest ⊎ HasNameWith names rest (λ bytes. (length bytes < 4) ⊎ IsCutData bytes) →
    IsRecordFault names rest place (fault.Truncated place)
truncated place names rest (inl h) = inl (inl (refl, h))
truncated place names rest (inr h) = inr (inr (h.behind, h.name, inl (refl, h.here)))

bad_data : (place : ℕ) (names : List (List ℕ)) (rest : List ℕ) → HasNameWith names rest StatesBadLength → IsRecordFault names rest place (fault.BadData place)
bad_data place names rest h = inr (inr (h.behind, h.name, inr (refl, h.here)))

kind_of : (input : List ℕ) (f : SetFault) → IsFirstFault input f → Kinds input f
kind_of input (fault.BadMagic place) h = inl (h.0, ap fault.BadMagic h.1)
kind_of input (fault.Truncated place) h = inr (rest_fault input place _ (fault.Truncated place) h (truncated place))
kind_of input (fault.BadName place) h = inr (rest_fault input place _ (fault.BadName place) h (λ names rest here. inl (inr (refl, here))))
kind_of input (fault.BadData place) h = inr (rest_fault input place _ (fault.BadData place) h (bad_data place))
kind_of input (fault.NotRising place) h = inr (rest_fault input place _ (fault.NotRising place) h (λ names rest here. inr (inl (refl, here))))
kind_of input fault.OutOfMemory h = absurd h

fault_reads : (bytes : List ℕ) (start : ℕ) (f : SetFault) (h : HasRecordsFault bytes start f) → Reads [] h.pairs h.rest
fault_reads bytes start f h = record { whole = h.before.whole; rising = h.before.rising; stops = fault_stops (names_of h.pairs) h.rest _ f h.here }

same_records_fault : (bytes : List ℕ) (start : ℕ) (f g : SetFault) → HasRecordsFault bytes start f → HasRecordsFault bytes start g → f ≡ g
same_records_fault bytes start f g x y =
    let same = same_records [] x.pairs y.pairs x.rest y.rest (fault_reads bytes start f x) (fault_reads bytes start g y)
    (sym x.before.parts ∙ y.before.parts) in
    let pairs = subst (λ (ps : List Pair). IsRecordFault (names_of ps) x.rest (start + length (records_bytes ps)) f) same.0 x.here in
    let here = subst (λ (t : List ℕ). IsRecordFault (names_of y.pairs) t (start + length (records_bytes y.pairs)) f) same.1 pairs in
    same_record_fault (names_of y.pairs) y.rest (start + length (records_bytes y.pairs)) f g here y.here

behind_magic : (x y : List ℕ) → magic ++ x ≡ magic ++ y → x ≡ y
behind_magic x y e = cc

same_kind : (input : List ℕ) (f g : SetFault) → Kinds input f → Kinds input g → f ≡ g
same_kind input f g (inl x) (inl y) = x.1 ∙ sym y.1
same_kind input f g (inl x) (inr y) = absurd (x.0 y.behind y.parts)
same_kind input f g (inr x) (inl y) = absurd (y.0 x.behind x.parts)
same_kind input f g (inr x) (inr y) =
    let same = behind_magic x.behind y.behind (sym x.parts ∙ y.parts) in
    same_records_fault y.behind 4 f g (subst (λ (t : List ℕ). HasRecordsFault t 4 f) same x.records) y.records

pub same_first_fault : (input : List ℕ) (f g : SetFault) → IsFirstFault input f → IsFirstFault input g → f ≡ g
same_first_fault input f g first second = same_kind input f g (kind_of input f first) (kind_of input g second)

-- ---- what has a fault isn't a set

no_kind : (input : List ℕ) (f : SetFault) (vars : Variables) → Kinds input f → SpellsSet input vars → ⊥
no_kind input f vars (inl x) spelled = x.0 (records_bytes (entries vars)) spelled.1
no_kind input f vars (inr x) spelled =
    let behind : x.behind ≡ records_bytes (entries vars) = behind_magic x.behind (records_bytes (entries vars)) (sym x.parts ∙ spelled.1) in
    let e : records_bytes x.records.pairs ++ x.records.rest ≡ records_bytes (entries vars) ++ [] =
    sym x.records.before.parts ∙ behind ∙ sym (append-nil (records_bytes (entries vars))) in
    let same = same_records [] x.records.pairs (entries vars) x.records.rest [] (fault_reads x.behind 4 f x.records) (set_reads vars spelled.0) e in
    fault_some (names_of x.records.pairs) x.records.rest _ f x.records.here same.1

pub fault_leaves_none : (input : List ℕ) (f : SetFault) (vars : Variables) → IsFirstFault input f → SpellsSet input vars → ⊥
fault_leaves_none input f vars first spelled = no_kind input f vars (kind_of input f first) spelled

-- ---- a fault in a record is the first

rest_with : (input behind : List ℕ) (place : ℕ) (P : List (List ℕ) → List ℕ → Type 0) (pairs : List Pair) (rest : List ℕ) →
    input ≡ magic ++ behind → HasRecords behind pairs rest → place ≡ 4 + length (records_bytes pairs) → P (names_of pairs) rest
    → HasRestWith input place P
rest_with input behind place P pairs rest parts before at here = record {
  names = names_of pairs;
  rest = rest;
  before = record {
    variables = pairs;
    whole = before.whole;
    named = refl;
    rising = before.rising;
    parts = parts ∙ ap (λ (t : List ℕ). magic ++ t) before.parts;
    at = at ∙ omega arith;
  };
  here = here;
}

record_fault_is : (input behind : List ℕ) (f : SetFault) (pairs : List Pair) (rest : List ℕ) → input ≡ magic ++ behind →
    HasRecords behind pairs rest → IsRecordFault (names_of pairs) rest (4 + length (records_bytes pairs)) f → IsFirstFault input f
record_fault_is input behind f pairs rest parts before (inl (inl (e, h))) =
    subst (IsFirstFault input) (sym e) (rest_with input behind _ _ pairs rest parts before refl (inl h))
record_fault_is input behind f pairs rest parts before (inl (inr (e, h))) =
    subst (IsFirstFault input) (sym e) (rest_with input behind _ _ pairs rest parts before refl h)
record_fault_is input behind f pairs rest parts before (inr (inl (e, h))) =
    subst (IsFirstFault input) (sym e) (rest_with input behind _ _ pairs rest parts before refl h)
record_fault_is input behind f pairs rest parts before (inr (inr (after, name, inl (e, h)))) =
    subst (IsFirstFault input) (sym e) (rest_with input behind _ _ pairs rest parts before refl (inr (record { behind = after; name = name; here = h })))
record_fault_is input behind f pairs rest parts before (inr (inr (after, name, inr (e, h)))) =
    subst (IsFirstFault input) (sym e) (rest_with input behind _ _ pairs rest parts before refl (record { behind = after; name = name; here = h }))

pub records_fault_is : (input behind : List ℕ) (f : SetFault) → input ≡ magic ++ behind → HasRecordsFault behind 4 f → IsFirstFault input f
records_fault_is input behind f parts h = record_fault_is input behind f h.pairs h.rest parts h.before h.here

-- ---- whole records are a set

pub records_spell : (input behind : List ℕ) (pairs : List Pair) → input ≡ magic ++ behind → HasRecords behind pairs [] → SpellsSet input (from_sorted pairs)
records_spell input behind pairs parts h =
    let sorted = pairs_rise pairs h.rising in (
      IsVars-from_sorted pairs sorted h.whole,
      parts ∙ ap (λ (t : List ℕ). magic ++ t) (h.parts ∙ append-nil (records_bytes pairs))
          ∙ ap (λ (ps : List Pair). magic ++ records_bytes ps) (sym (entries-from_sorted name_cmp pairs sorted)),
    )

-- ---- every input is a set, or has a first fault

-- one more record
pub one_record : (bytes : List ℕ) (pairs : List Pair) (rest : List ℕ) (v : Pair) (behind : List ℕ) →
    HasRecords bytes pairs rest → IsVariable v → IsAbove (names_of pairs) v.0 → rest ≡ record_bytes v ++ behind →
    HasRecords bytes (pairs ++ v ∷ []) behind
one_record bytes pairs rest v behind has is above parts =
    let more : records_bytes (pairs ++ v ∷ []) ≡ records_bytes pairs ++ record_bytes v =
    flat_map-append record_bytes pairs (v ∷ []) ∙ ap (λ (t : List ℕ). records_bytes pairs ++ t) (append-nil (record_bytes v)) in
    record {
      whole = AllByRecursion-append IsVariable pairs (v ∷ []) has.whole (is, tt);
      rising = subst (IsStrictlySortedBy name_cmp) (sym (map-append (λ (p : Pair). p.0) pairs (v ∷ [])))
          (one_above name_cmp (names_of pairs) v.0 has.rising above);
      parts = has.parts ∙ ap (λ (t : List ℕ). records_bytes pairs ++ t) parts
          ∙ sym (append_assoc (records_bytes pairs) (record_bytes v) behind) ∙ ap (λ (t : List ℕ). t ++ behind) (sym more);
    }

abbrev Ends : List ℕ → ℕ → Type 0
Ends bytes start = ((pairs : List Pair) × HasRecords bytes pairs []) ⊎ ((f : SetFault) × HasRecordsFault bytes start f)

records_end : (start n : ℕ) (bytes : List ℕ) (pairs : List Pair) (rest : List ℕ) → length rest < n → AllByRecursion IsByte rest →
    HasRecords bytes pairs rest → Ends bytes start
records_end start zero bytes pairs rest less fits has = absurd (omega (arith, less))
records_end start (suc n) bytes pairs [] less fits has = inl (pairs, has)
records_end start (suc n) bytes pairs (b ∷ rest) less fits has =
    elim (record_ends (names_of pairs) b rest (start + length (records_bytes pairs)) fits) [
      | inl stands ↦
          let v = stands.0 in
          let parts = stands.2.parts in
          let size : length (b ∷ rest) ≡ length (record_bytes v) + length stands.1 = ap length parts ∙ length-append (record_bytes v) stands.1 in
          records_end start n bytes (pairs ++ v ∷ []) stands.1 (omega (arith, less, size))
          (AllByRecursion-behind IsByte (record_bytes v) stands.1 (subst (AllByRecursion IsByte) parts fits))
          (one_record bytes pairs (b ∷ rest) v stands.1 has stands.2.is stands.2.above parts)
      | inr stop ↦ inr (stop.0, record { pairs = pairs; rest = b ∷ rest; before = has; here = stop.1 })
    ]

abbrev pub IsSetOrFault : List ℕ → Type 0
IsSetOrFault bytes = ((vars : Variables) × SpellsSet bytes vars) ⊎ ((f : SetFault) × IsFirstFault bytes f)

behind_ends : (input behind : List ℕ) → AllByRecursion IsByte behind → input ≡ magic ++ behind → IsSetOrFault input
behind_ends input behind fits parts =
    elim (records_end 4 (length behind + 1) behind [] behind (omega arith) fits (record { whole = tt; rising = none_rise name_cmp; parts = refl })) [
      | inl read ↦ inl (from_sorted read.0, records_spell input behind read.0 parts read.1)
      | inr stop ↦ inr (stop.0, records_fault_is input behind stop.0 parts stop.1)
    ]

pub bytes_end : (input : List ℕ) → AllByRecursion IsByte input → IsSetOrFault input
bytes_end input fits =
    let starts = starts_is Decides-eqb input magic (pointwise eqb magic (take 4 input)) refl in
    elim (pointwise eqb magic (take 4 input)) as (λ (r : Bool). (r ≡ true → input ≡ magic ++ drop 4 input)
    × ((rest : List ℕ) → input ≡ magic ++ rest → r ≡ true) → IsSetOrFault input) [
      | true ↦ λ h. let parts = h.0 refl in behind_ends input (drop 4 input)
          (AllByRecursion-behind IsByte magic (drop 4 input) (subst (AllByRecursion IsByte) parts fits)) parts
      | false ↦ λ h. inr (fault.BadMagic 0, (λ rest e. false≢true (h.1 rest e), refl))
    ] starts

-- ---- each set is spelled by bytes

name_is_bytes : (name : List ℕ) → AllByRecursion IsNameByte name → AllByRecursion IsByte name
name_is_bytes [] printing = tt
name_is_bytes (byte ∷ name) printing = (let here = printing.0 in omega (arith, here), name_is_bytes name printing.1)

record_is_bytes : (v : Pair) → IsVariable v → AllByRecursion IsByte (record_bytes v)
record_is_bytes v is =
    let len = is.0.len in
    let front : AllByRecursion IsByte (name_bytes v.0) = (omega (arith, len), name_is_bytes v.0 is.0.printing) in
    AllByRecursion-append IsByte (name_bytes v.0) (data_bytes v.1) front (omega arith, (omega arith, (omega arith, (omega arith, is.1.bytes))))

records_are_bytes : (pairs : List Pair) → AllByRecursion IsVariable pairs → AllByRecursion IsByte (records_bytes pairs)
records_are_bytes [] are = tt
records_are_bytes (v ∷ pairs) are = AllByRecursion-append IsByte (record_bytes v) (records_bytes pairs) (record_is_bytes v are.0)
    (records_are_bytes pairs are.1)

pub set_is_bytes : (vars : Variables) → IsVars vars → AllByRecursion IsByte (set_bytes vars)
set_is_bytes vars are = (omega arith, (omega arith, (omega arith, (omega arith, records_are_bytes (entries vars) (entries-AllByRecursion vars are)))))
