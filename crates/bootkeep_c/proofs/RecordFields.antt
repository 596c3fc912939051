-- Where the parts of a record are in its bytes.
use Rattle.std.proofs.Common.{◌≡◌, ℕ, ◌+◌, List, ◌++◌, length, take, drop, refl, sym, ap, ◌∙◌, arith, append_assoc}
use Rattle.std.specs.Int.{w32, w64, to_le_bytes}
use Rattle.std.proofs.lemmas.List.{length-append, take_at, drop_at}
use Rattle.uefi_vars.specs.Set.{data_bytes, set_bytes}
use Rattle.change_records.specs.Fields.{magic, fields_bytes}
use Rattle.change_records.specs.Record.{RecordParts, SpellsRecord}
use Rattle.bootkeep_c.specs.Parts.{IsPartAt}

-- the bytes of a field are behind the four of its length
field_at : (input front field behind : List ℕ) (at len : ℕ) → input ≡ front ++ (data_bytes field ++ behind) → at ≡ length front + 4 → len ≡ length field
    → IsPartAt input at len field
field_at input front field behind at len parts place size =
    let states = to_le_bytes w32 (length field) in
    let before = front ++ states in
    let whole : input ≡ before ++ (field ++ behind) = parts ∙ ap (λ (t : List ℕ). front ++ t) (append_assoc states field behind)
    ∙ sym (append_assoc front states (field ++ behind)) in
    let counted : length before ≡ at = omega (arith, length-append front states, place) in
    let all : length input ≡ length before + (length field + length behind) =
    ap length whole ∙ length-append before (field ++ behind) ∙ ap (λ (n : ℕ). length before + n) (length-append field behind) in
    let rest : drop at input ≡ field ++ behind = ap (drop at) whole ∙ drop_at before (field ++ behind) at counted in
    record {
      slice = record {
        within = omega (arith, all, counted);
        is = sym (ap (take (length field)) rest ∙ take_at field behind (length field) refl);
      };
      is_len = size;
    }

-- how many bytes a field has with its length
field_len : (field : List ℕ) → length (data_bytes field) ≡ 4 + length field
field_len field = length-append (to_le_bytes w32 (length field)) field

-- the three parts that are bytes
pub record ArePartsAt (bytes : List ℕ) (r : RecordParts) (machine_len before_len after_len : ℕ) : Type 0 where
  pub machine : IsPartAt bytes 8 machine_len r.machine
  pub before : IsPartAt bytes (8 + machine_len + 16) before_len (set_bytes r.before)
  pub after : IsPartAt bytes (8 + machine_len + 16 + before_len + 4) after_len (set_bytes r.after)

pub parts_at : (bytes : List ℕ) (r : RecordParts) (machine_len before_len after_len : ℕ) → SpellsRecord bytes r → machine_len ≡ length r.machine
    → before_len ≡ length (set_bytes r.before) → after_len ≡ length (set_bytes r.after) → ArePartsAt bytes r machine_len before_len after_len
parts_at bytes r machine_len before_len after_len spelled first second third =
    let time = to_le_bytes w64 r.time in
    let before = set_bytes r.before in
    let after = set_bytes r.after in
    let words = fields_bytes r.words in
    let behind_before = data_bytes after ++ words in
    let behind_time = data_bytes before ++ behind_before in
    let front_time = magic ++ data_bytes r.machine in
    let front_before = front_time ++ data_bytes time in
    let front_after = front_before ++ data_bytes before in
    let at_machine : bytes ≡ magic ++ (data_bytes r.machine ++ (data_bytes time ++ behind_time)) = spelled.1.parts in
    let at_time : bytes ≡ front_time ++ (data_bytes time ++ behind_time) =
    at_machine ∙ sym (append_assoc magic (data_bytes r.machine) (data_bytes time ++ behind_time)) in
    let at_before : bytes ≡ front_before ++ (data_bytes before ++ behind_before) =
    at_time ∙ sym (append_assoc front_time (data_bytes time) behind_time) in
    let at_after : bytes ≡ front_after ++ (data_bytes after ++ words) =
    at_before ∙ sym (append_assoc front_before (data_bytes before) behind_before) in
    let len_time : length front_time ≡ 8 + length r.machine = omega (arith, length-append magic (data_bytes r.machine), field_len r.machine) in
    let len_before : length front_before ≡ 8 + length r.machine + 12 = omega (arith, length-append front_time (data_bytes time), len_time, field_len time) in
    let len_after : length front_after ≡ 8 + length r.machine + 16 + length before =
    omega (arith, length-append front_before (data_bytes before), len_before, field_len before) in
    record {
      machine = field_at bytes magic r.machine (data_bytes time ++ behind_time) 8 machine_len at_machine refl first;
      before = field_at bytes front_before before behind_before (8 + machine_len + 16) before_len at_before (omega (arith, len_before, first)) second;
      after = field_at bytes front_after after words (8 + machine_len + 16 + before_len + 4) after_len at_after
          (omega (arith, len_after, first, second)) third;
    }
