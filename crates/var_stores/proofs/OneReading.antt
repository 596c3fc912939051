-- Bytes are cut into records in one way, or end in one.
use Rattle.std.proofs.Common.{◌≡◌, ℕ, ◌+◌, List, [], ◌∷◌, ◌++◌, length, refl, sym, ap, subst, ◌∙◌, append_assoc}
use Rattle.std.specs.List.{AllByRecursion, flat_map}
use Rattle.var_stores.specs.Record.{RecordParts, name_len, value_len, padding_len, IsRecord, record_bytes, BeginsRecord, HasRecords, IsCutRecord, HasCutRecord}
use Rattle.var_stores.specs.Volume.{area_of, StoreParts, SpellsStore}
use Rattle.var_stores.proofs.Records.{same_size, same_header, record_header}

same_record : (r s : RecordParts) → r.state ≡ s.state → r.header ≡ s.header → r.name ≡ s.name → r.value ≡ s.value → r.padding ≡ s.padding → r ≡ s
same_record r s a b c d e = λ i. record { state = a i; header = b i; name = c i; value = d i; padding = e i }

pub one_record : (bytes : List ℕ) (r s : RecordParts) (x y : List ℕ) → IsRecord r → IsRecord s → bytes ≡ record_bytes r ++ x →
    bytes ≡ record_bytes s ++ y → (r ≡ s) × (x ≡ y)
one_record bytes r s x y p q e f =
    let header = same_header bytes r.state s.state r.header s.header _ _ (record_header bytes r x p e) (record_header bytes s y q f) in
    let name_is : length r.name ≡ length s.name = p.name ∙ ap (λ (t : ℕ). name_len t r.header) header.0 ∙ ap (name_len s.state) header.1 ∙ sym q.name in
    let value_is : length r.value ≡ length s.value = p.value ∙ ap (λ (t : ℕ). value_len t r.header) header.0 ∙ ap (value_len s.state) header.1 ∙ sym q.value in
    let padding_is : length r.padding ≡ length s.padding =
    p.padding ∙ ap (λ (n : ℕ). padding_len (n + length r.value)) name_is ∙ ap (λ (n : ℕ). padding_len (length s.name + n)) value_is ∙ sym q.padding in
    let first = same_size r.name s.name _ _ name_is header.2 in
    let second = same_size r.value s.value _ _ value_is first.1 in
    let third = same_size r.padding s.padding x y padding_is second.1 in
    (same_record r s header.0 header.1 first.0 second.0 third.0, third.1)

begins : (r : RecordParts) (rest : List ℕ) → BeginsRecord (record_bytes r ++ rest)
begins r rest = (refl, refl)

-- a record with more after it
longer : (r : RecordParts) (records : List RecordParts) (free : List ℕ) →
    flat_map record_bytes (r ∷ records) ++ free ≡ record_bytes r ++ (flat_map record_bytes records ++ free)
longer r records free = append_assoc (record_bytes r) (flat_map record_bytes records) free

pub one_reading : (rs ss : List RecordParts) (bytes f g : List ℕ) → HasRecords bytes rs f → HasRecords bytes ss g → (rs ≡ ss) × (f ≡ g)
one_reading [] [] bytes f g p q = (refl, sym p.is ∙ q.is)
one_reading [] (s ∷ ss) bytes f g p q =
    absurd (p.stops (subst BeginsRecord (sym (longer s ss g) ∙ sym q.is ∙ p.is) (begins s (flat_map record_bytes ss ++ g))))
one_reading (r ∷ rs) [] bytes f g p q =
    absurd (q.stops (subst BeginsRecord (sym (longer r rs f) ∙ sym p.is ∙ q.is) (begins r (flat_map record_bytes rs ++ f))))
one_reading (r ∷ rs) (s ∷ ss) bytes f g p q =
    let one = one_record bytes r s (flat_map record_bytes rs ++ f) (flat_map record_bytes ss ++ g) p.whole.0 q.whole.0
    (p.is ∙ longer r rs f) (q.is ∙ longer s ss g) in
    let rest = one_reading rs ss (flat_map record_bytes rs ++ f) f g (record { is = refl; whole = p.whole.1; stops = p.stops })
    (record { is = one.1; whole = q.whole.1; stops = q.stops }) in
    (ap (λ (t : RecordParts). t ∷ rs) one.0 ∙ ap (λ (t : List RecordParts). s ∷ t) rest.0, rest.1)

-- bytes that end in a record aren't records with others after them
no_reading : (rs ss : List RecordParts) (bytes rest g : List ℕ) → bytes ≡ flat_map record_bytes rs ++ rest →
    AllByRecursion IsRecord rs → IsCutRecord rest → HasRecords bytes ss g → ⊥
no_reading [] [] bytes rest g is whole cut q = q.stops (subst BeginsRecord (sym is ∙ q.is) cut.begins)
no_reading [] (s ∷ ss) bytes rest g is whole cut q = cut.cut s (flat_map record_bytes ss ++ g) q.whole.0 (sym is ∙ q.is ∙ longer s ss g)
no_reading (r ∷ rs) [] bytes rest g is whole cut q =
    q.stops (subst BeginsRecord (sym (longer r rs rest) ∙ sym is ∙ q.is) (begins r (flat_map record_bytes rs ++ rest)))
no_reading (r ∷ rs) (s ∷ ss) bytes rest g is whole cut q =
    let one = one_record bytes r s (flat_map record_bytes rs ++ rest) (flat_map record_bytes ss ++ g) whole.0 q.whole.0
    (is ∙ longer r rs rest) (q.is ∙ longer s ss g) in
    no_reading rs ss (flat_map record_bytes rs ++ rest) rest g refl whole.1 cut (record { is = one.1; whole = q.whole.1; stops = q.stops })

pub cut_or_read : (bytes g : List ℕ) (place : ℕ) (ss : List RecordParts) → HasCutRecord bytes place → HasRecords bytes ss g → ⊥
cut_or_read bytes g place ss h q = no_reading h.records ss bytes h.rest g h.is h.whole h.here q

-- bytes end in one record
one_cut : (rs ss : List RecordParts) (bytes x y : List ℕ) → bytes ≡ flat_map record_bytes rs ++ x →
    bytes ≡ flat_map record_bytes ss ++ y → AllByRecursion IsRecord rs → AllByRecursion IsRecord ss →
    IsCutRecord x → IsCutRecord y → flat_map record_bytes rs ≡ flat_map record_bytes ss
one_cut [] [] bytes x y e f p q cut cut' = refl
one_cut [] (s ∷ ss) bytes x y e f p q cut cut' = absurd (cut.cut s (flat_map record_bytes ss ++ y) q.0 (sym e ∙ f ∙ longer s ss y))
one_cut (r ∷ rs) [] bytes x y e f p q cut cut' = absurd (cut'.cut r (flat_map record_bytes rs ++ x) p.0 (sym f ∙ e ∙ longer r rs x))
one_cut (r ∷ rs) (s ∷ ss) bytes x y e f p q cut cut' =
    let one = one_record bytes r s (flat_map record_bytes rs ++ x) (flat_map record_bytes ss ++ y) p.0 q.0 (e ∙ longer r rs x) (f ∙ longer s ss y) in
    ap (λ (t : RecordParts). record_bytes t ++ flat_map record_bytes rs) one.0
    ∙ ap (λ (t : List ℕ). record_bytes s ++ t) (one_cut rs ss (flat_map record_bytes rs ++ x) x y refl one.1 p.1 q.1 cut cut')

pub one_place : (bytes : List ℕ) (m n : ℕ) → HasCutRecord bytes m → HasCutRecord bytes n → m ≡ n
one_place bytes m n g h = g.place_is ∙ ap length (one_cut g.records h.records bytes g.rest h.rest g.is h.is g.whole h.whole g.here h.here) ∙ sym h.place_is

pub one_store : (file : List ℕ) (s t : StoreParts) → SpellsStore file s → SpellsStore file t → s ≡ t
one_store file s t p q =
    let records = one_reading s.records t.records (area_of file) s.free t.free p.area q.area in
    let head : s.head ≡ t.head = p.head ∙ sym q.head in
    let rest : s.rest ≡ t.rest = p.rest ∙ sym q.rest in
    λ i. record { head = head i; records = records.0 i; free = records.1 i; rest = rest i }
