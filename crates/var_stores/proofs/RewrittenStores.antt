-- A file whose store has other records.
use Rattle.std.proofs.Common.{◌≡◌, ℕ, zero, suc, ◌+◌, ◌-◌, ◌<◌, Bool, true, false, cond, List, [], ◌∷◌, ◌++◌, length, drop, refl, inl, inr}
use Rattle.std.proofs.Common.{sym, ap, subst, ◌∙◌, append_assoc, arith}
use Rattle.std.proofs.Math.ListN.{replicate}
use Rattle.std.proofs.lemmas.Grind.{flat_map-append}
use Rattle.std.proofs.lemmas.List.{length-append, length-drop, length-replicate}
use Rattle.std.specs.List.{AllByRecursion, flat_map}
use Rattle.uefi_path.proofs.Bytes.{AllByRecursion-append}
use Rattle.uefi_vars.specs.Vars.{Variables}
use Rattle.var_stores.specs.Record.{RecordParts, IsRecord, record_bytes, BeginsRecord}
use Rattle.var_stores.specs.Volume.{header_size, store_size, store_header_len, StoreParts, area_of, SpellsStore}
use Rattle.var_stores.specs.Present.{IsSetOf}
use Rattle.var_stores.specs.Rewriting.{deleted, is_outdated, without_outdated, new_records, new_bytes, Fits, AreKept, IsWritten}
use Rattle.var_stores.proofs.SameHead.{file_is, file_len, head_len, area_len, spells}

pub rewritten : (file : List ℕ) (s : StoreParts) (bytes free : List ℕ) (records : List RecordParts) → SpellsStore file s →
    bytes ≡ s.head ++ ((flat_map record_bytes records ++ free) ++ s.rest) →
    length (flat_map record_bytes records ++ free) ≡ length (area_of file) → AllByRecursion IsRecord records → (BeginsRecord free → ⊥) →
    SpellsStore bytes (record { head = s.head; records = records; free = free; rest = s.rest })
rewritten file s bytes free records was is size whole stops =
    let area = flat_map record_bytes records ++ free in
    let whole_is = file_is file s was in
    subst (λ (b : List ℕ). SpellsStore b (record { head = s.head; records = records; free = free; rest = s.rest })) (sym is)
    (spells s.head (area_of file ++ s.rest) (area ++ s.rest) s (subst (λ (b : List ℕ). SpellsStore b s) whole_is was)
    (head_len file s was ∙ ap (λ (b : List ℕ). header_size b + store_header_len) whole_is)
    (length-append (area_of file) s.rest ∙ ap (λ (n : ℕ). n + length s.rest) (sym size) ∙ sym (length-append area s.rest)) area s.rest refl
    (size ∙ area_len file s was ∙ ap (λ (b : List ℕ). store_size b - store_header_len) whole_is) records free
    (record { is = refl; whole = whole; stops = stops }))

-- records that are deleted keep their lengths
without_outdated-len : (from to : Variables) (records : List RecordParts) →
    length (flat_map record_bytes (without_outdated from to records)) ≡ length (flat_map record_bytes records)
without_outdated-len from to [] = refl
without_outdated-len from to (r ∷ records) =
    length-append (record_bytes (cond (is_outdated from to r) (deleted r) r)) (flat_map record_bytes (without_outdated from to records))
    ∙ ap (λ (n : ℕ). n + length (flat_map record_bytes (without_outdated from to records))) (same (is_outdated from to r))
    ∙ ap (λ (n : ℕ). length (record_bytes r) + n) (without_outdated-len from to records) ∙ sym (length-append (record_bytes r) (flat_map record_bytes records))
  where
    same : (b : Bool) → length (record_bytes (cond b (deleted r) r)) ≡ length (record_bytes r)
    same true = refl
    same false = refl

blank_stops : (n : ℕ) → BeginsRecord (replicate n 0xFF) → ⊥
blank_stops zero begins = begins
blank_stops (suc zero) begins = begins
blank_stops (suc (suc n)) begins = let first : 0xFF ≡ 0xAA = begins.0 in omega (arith, first)

module _ (file : List ℕ) (s : StoreParts) (was : SpellsStore file s) (from to attributes : Variables)
    (from_is : IsSetOf s.records from) (new_whole : AllByRecursion IsRecord (new_records s.records from to attributes)) where
  area_is : area_of file ≡ flat_map record_bytes s.records ++ s.free
  area_is = was.area.is

  -- new records after the others
  pub appended : (bytes : List ℕ) → AllByRecursion IsRecord (without_outdated from to s.records) → Fits (new_bytes s.records from to attributes) s.free →
      bytes ≡ s.head ++ (((flat_map record_bytes (without_outdated from to s.records) ++ new_bytes s.records from to attributes)
      ++ drop (length (new_bytes s.records from to attributes)) s.free) ++ s.rest) →
      IsWritten file to attributes bytes
  appended bytes old_whole fits is =
      let free = drop (length (new_bytes s.records from to attributes)) s.free in
      let records = without_outdated from to s.records ++ new_records s.records from to attributes in
      let all : flat_map record_bytes records ≡ flat_map record_bytes (without_outdated from to s.records) ++ new_bytes s.records from to attributes =
      flat_map-append record_bytes (without_outdated from to s.records) (new_records s.records from to attributes) in
      let old_len = without_outdated-len from to s.records in
      let both = length-append (flat_map record_bytes (without_outdated from to s.records)) (new_bytes s.records from to attributes) in
      let left = length-drop (length (new_bytes s.records from to attributes)) s.free in
      let total = length-append (flat_map record_bytes records) free in
      let area = ap length area_is ∙ length-append (flat_map record_bytes s.records) s.free in
      let recorded = ap length all in
      let room = fits.room in
      record {
        before = s;
        after = record { head = s.head; records = records; free = free; rest = s.rest };
        was = was;
        is = rewritten file s bytes free records was (is ∙ ap (λ (b : List ℕ). s.head ++ ((b ++ free) ++ s.rest)) (sym all))
            (omega (arith, old_len, both, left, total, area, recorded, room))
            (AllByRecursion-append IsRecord (without_outdated from to s.records)
            (new_records s.records from to attributes) old_whole new_whole) fits.stops;
        head = refl;
        rest = refl;
        from = from;
        from_is = from_is;
        records = inl (record { fits = fits; records = refl; free = refl });
      }

  -- the records that stay, moved together, and new records after them
  pub moved : (bytes : List ℕ) (kept : List RecordParts) (left : ℕ) → AllByRecursion IsRecord kept →
      AreKept s.records from to kept → (Fits (new_bytes s.records from to attributes) s.free → ⊥) →
      bytes ≡ s.head ++ (((flat_map record_bytes kept ++ new_bytes s.records from to attributes) ++ replicate left 0xFF) ++ s.rest) →
      length ((flat_map record_bytes kept ++ new_bytes s.records from to attributes) ++ replicate left 0xFF)
      ≡ length (area_of file) → IsWritten file to attributes bytes
  moved bytes kept left kept_whole are full is size =
      let free = replicate left 0xFF in
      let records = kept ++ new_records s.records from to attributes in
      let all : flat_map record_bytes records ≡ flat_map record_bytes kept ++ new_bytes s.records from to attributes =
      flat_map-append record_bytes kept (new_records s.records from to attributes) in
      record {
        before = s;
        after = record { head = s.head; records = records; free = free; rest = s.rest };
        was = was;
        is = rewritten file s bytes free records was (is ∙ ap (λ (b : List ℕ). s.head ++ ((b ++ free) ++ s.rest)) (sym all))
            (ap (λ (b : List ℕ). length (b ++ free)) all ∙ size)
            (AllByRecursion-append IsRecord kept (new_records s.records from to attributes) kept_whole new_whole) (blank_stops left);
        head = refl;
        rest = refl;
        from = from;
        from_is = from_is;
        records = inr (record {
          full = full;
          kept = kept;
          are = are;
          records = refl;
          free = ap (λ (n : ℕ). replicate n 0xFF) (sym (length-replicate left 0xFF));
        });
      }

-- a file that was put together piece by piece
pub put_together : (bytes middle start head records records' added added' free free' rest : List ℕ) → bytes ≡ middle ++ rest →
    middle ≡ start ++ ((records ++ added) ++ free) → start ≡ head →
    records ≡ records' → added ≡ added' → free ≡ free' → bytes ≡ head ++ (((records' ++ added') ++ free') ++ rest)
put_together bytes middle start head records records' added added' free free' rest is parts first a b d =
    is ∙ ap (λ (m : List ℕ). m ++ rest) (parts ∙ ap (λ (h : List ℕ). h ++ ((records ++ added) ++ free)) first)
    ∙ append_assoc head ((records ++ added) ++ free) rest
    ∙ ap (λ (r : List ℕ). head ++ (((r ++ added) ++ free) ++ rest)) a ∙ ap (λ (n : List ℕ). head ++ (((records' ++ n) ++ free) ++ rest)) b
    ∙ ap (λ (f : List ℕ). head ++ (((records' ++ added') ++ f) ++ rest)) d

-- what has the length of the area if the bytes up to the rest have that of the file up to it
pub fills_area : (file : List ℕ) (s : StoreParts) (area : List ℕ) → SpellsStore file s →
    length (s.head ++ area) ≡ length file - length s.rest → length area ≡ length (area_of file)
fills_area file s area was is =
    let total = file_len file s was in
    let both = length-append s.head area in
    omega (arith, is, total, both)

pub exceeds_area : (file : List ℕ) (s : StoreParts) (area : List ℕ) → SpellsStore file s →
    length file - length s.rest < length (s.head ++ area) → length (area_of file) < length area
exceeds_area file s area was more =
    let total = file_len file s was in
    let both = length-append s.head area in
    omega (arith, more, total, both)
