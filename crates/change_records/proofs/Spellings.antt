-- Bytes spell one record at most, and none if they have a fault.
use Rattle.std.proofs.Common.{◌≡◌, ◌≢◌, ℕ, zero, suc, ◌^◌, ◌<◌, ◌≤◌, List, [], ◌∷◌, ◌++◌, length, map, get_or, take, drop}
use Rattle.std.proofs.Common.{Bor, refl, sym, ap, subst, ◌∙◌, inl, inr, arith, append_assoc}
use Rattle.std.specs.Prelude.{IsUtf8, String, Result, Ok, Err, IfOk, IfErr, MatchResult}
use Rattle.std.specs.Int.{w64, to_le_bytes, from_le_bytes}
use Rattle.std.specs.List.{AllByRecursion}
use Rattle.std.specs.String.{string_bytes}
use Rattle.std.proofs.lemmas.List.{length-map, length-take-le}
use Rattle.std.proofs.lemmas.Nat.{from_le_bytes-to_le_bytes_8}
use Rattle.std.proofs.lemmas.Str.{IsUtf8-string_bytes}
use Rattle.uefi_vars.specs.declared.fault.SetFault.{SetFault}
use Rattle.uefi_vars.specs.Vars.{Variables}
use Rattle.uefi_vars.specs.Set.{data_bytes, set_bytes, SpellsSet}
use Rattle.uefi_vars.specs.Fault.{IsFirstFault}
use Rattle.uefi_vars.proofs.Bytes.{AllByRecursion-behind}
use Rattle.machine_names.specs.MachineName.{IsMachineName}
use Rattle.change_records.specs.declared.fault.RecordFault.{RecordFault}
use Rattle.change_records.specs.declared.fault.RecordFault.TheVariants as fault
use Rattle.change_records.specs.Fields.{magic, fields_bytes, HasFields, IsFileFault}
use Rattle.change_records.specs.declared.record.Record.{Record}
use Rattle.change_records.specs.Record.{RecordParts, record_parts, IsRecord, record_fields, SpellsRecord}
use Rattle.change_records.specs.Fault.{Row, row_fields, IsFirstBadWord, IsRowFault, IsFieldsFault, IsRecordFault}
use Rattle.change_records.proofs.FieldLists.{one_list, cut_has_none, no_magic_has_none}

-- what sets have: one spelling is of one, and what has a fault is of none
abbrev pub OneSet : Type 0
OneSet = (bytes : List ℕ) (a b : Variables) → SpellsSet bytes a → SpellsSet bytes b → a ≡ b

abbrev pub FaultLeavesNoSet : Type 0
FaultLeavesNoSet = (bytes : List ℕ) (f : SetFault) (vars : Variables) → IsFirstFault bytes f → SpellsSet bytes vars → ⊥

-- what follows for records
abbrev pub OneRecord : Type 0
OneRecord = (bytes : List ℕ) (a b : RecordParts) → SpellsRecord bytes a → SpellsRecord bytes b → a ≡ b

abbrev pub FaultLeavesNoRecord : Type 0
FaultLeavesNoRecord = (bytes : List ℕ) (f : RecordFault) (r : RecordParts) → IsRecordFault bytes f → SpellsRecord bytes r → ⊥

-- ---- one record

parts_of : List ℕ → ℕ → List (List ℕ) → Variables → Variables → RecordParts
parts_of machine time words before after = record { machine = machine; time = time; words = words; before = before; after = after }

same_parts : (a b : RecordParts) → a.machine ≡ b.machine → a.time ≡ b.time → a.words ≡ b.words → a.before ≡ b.before → a.after ≡ b.after → a ≡ b
unfolding parts_of
same_parts a b machine time words before after =
    ap (λ (m : List ℕ). parts_of m a.time a.words a.before a.after) machine
    ∙ ap (λ (t : ℕ). parts_of b.machine t a.words a.before a.after) time
    ∙ ap (λ (w : List (List ℕ)). parts_of b.machine b.time w a.before a.after) words
    ∙ ap (λ (v : Variables). parts_of b.machine b.time b.words v a.after) before
    ∙ ap (λ (v : Variables). parts_of b.machine b.time b.words b.before v) after

same_time : (t u : ℕ) → t < 2 ^ 64 → u < 2 ^ 64 → to_le_bytes w64 t ≡ to_le_bytes w64 u → t ≡ u
same_time t u fits-t fits-u e =
    sym (from_le_bytes-to_le_bytes_8 t fits-t) ∙ ap (from_le_bytes w64) e ∙ from_le_bytes-to_le_bytes_8 u fits-u

-- the fields of one list are those of the other
record SameFields (a b c d : List ℕ) (more : List (List ℕ)) (k l m n : List ℕ) (others : List (List ℕ)) : Type 0 where
  first : a ≡ k
  second : b ≡ l
  third : c ≡ m
  fourth : d ≡ n
  rest : more ≡ others

same_each : (a b c d : List ℕ) (more : List (List ℕ)) (k l m n : List ℕ) (others : List (List ℕ)) → a ∷ b ∷ c ∷ d ∷ more ≡ k ∷ l ∷ m ∷ n ∷ others
    → SameFields a b c d more k l m n others
same_each a b c d more k l m n others e = record { first = cc; second = cc; third = cc; fourth = cc; rest = cc }

pub one_record : OneSet → OneRecord
one_record one bytes a b p q =
    let e =
    same_each a.machine (to_le_bytes w64 a.time) (set_bytes a.before) (set_bytes a.after) a.words
    b.machine (to_le_bytes w64 b.time) (set_bytes b.before) (set_bytes b.after) b.words
    (one_list bytes (record_fields a) (record_fields b) p.1 q.1) in
    same_parts a b e.first (same_time a.time b.time p.0.time q.0.time e.second) e.rest
    (one (set_bytes a.before) a.before b.before (p.0.before, refl) (q.0.before, e.third))
    (one (set_bytes a.after) a.after b.after (p.0.after, refl) (q.0.after, e.fourth))

-- ---- a fault leaves none

file_fault_has_none : (bytes : List ℕ) (f : RecordFault) (fields : List (List ℕ)) → IsFileFault bytes f → HasFields bytes fields → ⊥
file_fault_has_none bytes fault.BadMagic fields h q = no_magic_has_none bytes fields h q
file_fault_has_none bytes (fault.Truncated place) fields h q = cut_has_none bytes place fields h q
file_fault_has_none bytes fault.TooFewFields fields h q = h
file_fault_has_none bytes fault.BadMachine fields h q = h
file_fault_has_none bytes fault.BadTime fields h q = h
file_fault_has_none bytes (fault.BadBefore g) fields h q = h
file_fault_has_none bytes (fault.BadAfter g) fields h q = h
file_fault_has_none bytes (fault.BadWord number) fields h q = h
file_fault_has_none bytes fault.OutOfMemory fields h q = h

bad_word_is_none : (words : List (List ℕ)) (number : ℕ) → AllByRecursion IsUtf8 words → IsFirstBadWord words number → ⊥
bad_word_is_none words number good h =
    h.bad (AllByRecursion-behind IsUtf8 h.front (h.word ∷ h.behind) (subst (AllByRecursion IsUtf8) h.parts good)).0

row_fault_has_none : FaultLeavesNoSet → (row : Row) (f : RecordFault) (r : RecordParts) → IsRecord r → IsRowFault row f
    → SameFields row.machine row.time row.before row.after row.words r.machine (to_le_bytes w64 r.time) (set_bytes r.before) (set_bytes r.after) r.words → ⊥
row_fault_has_none none row fault.BadMagic r is h e = h
row_fault_has_none none row (fault.Truncated place) r is h e = h
row_fault_has_none none row fault.TooFewFields r is h e = h
row_fault_has_none none row fault.BadMachine r is h e = h (subst IsMachineName (sym e.first) is.machine)
row_fault_has_none none row fault.BadTime r is h e = h.1 (ap length e.second)
row_fault_has_none none row (fault.BadBefore g) r is h e = none row.before g r.before h.2 (is.before, e.third)
row_fault_has_none none row (fault.BadAfter g) r is h e = none row.after g r.after h.3 (is.after, e.fourth)
row_fault_has_none none row (fault.BadWord number) r is h e =
    bad_word_is_none row.words number (subst (AllByRecursion IsUtf8) (sym e.rest) is.words) h.4
row_fault_has_none none row fault.OutOfMemory r is h e = h

fields_fault_has_none : FaultLeavesNoSet → (fields : List (List ℕ)) (f : RecordFault) (r : RecordParts) → IsRecord r → IsFieldsFault fields f
    → fields ≡ record_fields r → ⊥
fields_fault_has_none none fields f r is (inl h) e = omega (arith, h.1, ap length e)
fields_fault_has_none none fields f r is (inr h) e =
    row_fault_has_none none h.0 f r is h.2
    (same_each h.0.machine h.0.time h.0.before h.0.after h.0.words r.machine (to_le_bytes w64 r.time) (set_bytes r.before) (set_bytes r.after) r.words
    (sym h.1 ∙ e))

pub no_record : FaultLeavesNoSet → FaultLeavesNoRecord
no_record none bytes f r (inl h) q = file_fault_has_none bytes f (record_fields r) h q.1
no_record none bytes f r (inr h) q = fields_fault_has_none none h.fields f r q.0 h.here (one_list bytes h.fields (record_fields r) h.has q.1)

-- what is spelled is read, if what is read is spelled and each answer else is a fault
pub only_this : OneRecord → FaultLeavesNoRecord → (bytes : List ℕ) (read : Result Record RecordFault)
    → IfOk read (λ r. SpellsRecord bytes (record_parts r)) → IfErr read (λ f. f ≢ fault.OutOfMemory → IsRecordFault bytes f)
    → (parts : RecordParts) → SpellsRecord bytes parts → MatchResult read (λ r. record_parts r ≡ parts) (λ f. f ≡ fault.OutOfMemory)
only_this one none bytes (Ok r) found faulty parts spells = one bytes (record_parts r) parts found spells
only_this one none bytes (Err fault.OutOfMemory) found faulty parts spells = refl
only_this one none bytes (Err fault.BadMagic) found faulty parts spells = absurd (none bytes fault.BadMagic parts (faulty (λ e. cc)) spells)
only_this one none bytes (Err (fault.Truncated place)) found faulty parts spells =
    absurd (none bytes (fault.Truncated place) parts (faulty (λ e. cc)) spells)
only_this one none bytes (Err fault.TooFewFields) found faulty parts spells = absurd (none bytes fault.TooFewFields parts (faulty (λ e. cc)) spells)
only_this one none bytes (Err fault.BadMachine) found faulty parts spells = absurd (none bytes fault.BadMachine parts (faulty (λ e. cc)) spells)
only_this one none bytes (Err fault.BadTime) found faulty parts spells = absurd (none bytes fault.BadTime parts (faulty (λ e. cc)) spells)
only_this one none bytes (Err (fault.BadBefore g)) found faulty parts spells =
    absurd (none bytes (fault.BadBefore g) parts (faulty (λ e. cc)) spells)
only_this one none bytes (Err (fault.BadAfter g)) found faulty parts spells =
    absurd (none bytes (fault.BadAfter g) parts (faulty (λ e. cc)) spells)
only_this one none bytes (Err (fault.BadWord number)) found faulty parts spells =
    absurd (none bytes (fault.BadWord number) parts (faulty (λ e. cc)) spells)

-- ---- fields as they are read

-- the bytes that each of these refers to
abbrev pub all_of : List (Bor (List ℕ)) → List (List ℕ)
all_of fields = map (λ f. f.now) fields

abbrev pub row_of : List (Bor (List ℕ)) → Bor (List ℕ) → Row
row_of fields d = record {
  machine = (get_or fields 0 d).now;
  time = (get_or fields 1 d).now;
  before = (get_or fields 2 d).now;
  after = (get_or fields 3 d).now;
  words = all_of (drop 4 fields);
}

pub four_or_more : (fields : List (Bor (List ℕ))) (d : Bor (List ℕ)) → 4 ≤ length fields → all_of fields ≡ row_fields (row_of fields d)
four_or_more [] d enough = absurd (omega (arith, enough))
four_or_more (a ∷ []) d enough = absurd (omega (arith, enough))
four_or_more (a ∷ b ∷ []) d enough = absurd (omega (arith, enough))
four_or_more (a ∷ b ∷ c ∷ []) d enough = absurd (omega (arith, enough))
four_or_more (a ∷ b ∷ c ∷ e ∷ more) d enough = refl

-- a fault of the row is one of the fields
pub fault_in_row : (fields : List (Bor (List ℕ))) (d : Bor (List ℕ)) (f : RecordFault) → 4 ≤ length fields → IsRowFault (row_of fields d) f
    → IsFieldsFault (all_of fields) f
fault_in_row fields d f enough here = inr (row_of fields d, four_or_more fields d enough, here)

-- the one at an index, after those before it
parts_at : (fields : List (Bor (List ℕ))) (i : ℕ) (d : Bor (List ℕ)) → i < length fields
    → all_of fields ≡ all_of (take i fields) ++ (get_or fields i d).now ∷ all_of (drop (suc i) fields)
parts_at [] i d within = absurd (omega (arith, within))
parts_at (f ∷ fields) zero d within = refl
parts_at (f ∷ fields) (suc i) d within = ap (λ (t : List (List ℕ)). f.now ∷ t) (parts_at fields i d (omega (arith, within)))

size_of : (fields : List (Bor (List ℕ))) (i : ℕ) → i ≤ length fields → i ≡ length (all_of (take i fields))
size_of fields i within = sym (length-map (take i fields) (λ (f : Bor (List ℕ)). f.now) ∙ length-take-le i fields within)

pub first_bad : (fields : List (Bor (List ℕ))) (i : ℕ) (d : Bor (List ℕ)) → i < length fields → AllByRecursion IsUtf8 (all_of (take i fields))
    → ¬ IsUtf8 (get_or fields i d).now → IsFirstBadWord (all_of fields) i
first_bad fields i d within good bad = record {
  front = all_of (take i fields);
  word = (get_or fields i d).now;
  behind = all_of (drop (suc i) fields);
  good = good;
  bad = bad;
  parts = parts_at fields i d within;
  at = size_of fields i (omega (arith, within));
}

-- what is read of the fields is spelled by the bytes that have them
pub spells_so : (bytes : List ℕ) (fields : List (List ℕ)) (read : Result Record RecordFault) → HasFields bytes fields
    → IfOk read (λ r. IsRecord (record_parts r)) → IfOk read (λ r. record_fields (record_parts r) ≡ fields)
    → IfOk read (λ r. SpellsRecord bytes (record_parts r))
spells_so bytes fields (Ok r) has valid found = (valid, subst (HasFields bytes) (sym found) has)
spells_so bytes fields (Err f) has valid found = tt

-- a fault of the fields is one of the bytes that have them
pub faulty_so : (bytes : List ℕ) (fields : List (List ℕ)) (read : Result Record RecordFault) → HasFields bytes fields
    → IfErr read (λ f. f ≢ fault.OutOfMemory → IsFieldsFault fields f) → IfErr read (λ f. f ≢ fault.OutOfMemory → IsRecordFault bytes f)
faulty_so bytes fields (Ok r) has faulty = tt
faulty_so bytes fields (Err f) has faulty = λ some. inr (record { fields = fields; has = has; here = faulty some })

-- ---- writing

-- one field more
pub one_more : (o p q x y : List ℕ) → q ≡ p ++ data_bytes x → p ≡ o → x ≡ y → q ≡ o ++ data_bytes y
one_more o p q x y e f g = e ∙ ap (λ (t : List ℕ). t ++ data_bytes x) f ∙ ap (λ (t : List ℕ). o ++ data_bytes t) g

regroup : (m a b c d e : List ℕ) → ((((m ++ a) ++ b) ++ c) ++ d) ++ e ≡ m ++ (a ++ (b ++ (c ++ (d ++ e))))
regroup m a b c d e = simp append_assoc

pub written_so : (out : List ℕ) (a b c d : List ℕ) (words : List (List ℕ))
    → out ≡ ((((magic ++ data_bytes a) ++ data_bytes b) ++ data_bytes c) ++ data_bytes d) ++ fields_bytes words
    → out ≡ magic ++ fields_bytes (a ∷ b ∷ c ∷ d ∷ words)
written_so out a b c d words e = e ∙ regroup magic (data_bytes a) (data_bytes b) (data_bytes c) (data_bytes d) (fields_bytes words)

pub are_utf8 : {Z : Type 0} (words : List (String Z)) → AllByRecursion IsUtf8 (map string_bytes words)
are_utf8 [] = tt
are_utf8 (word ∷ words) = (IsUtf8-string_bytes word, are_utf8 words)
