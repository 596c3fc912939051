-- What is written is the magic and the fields.
use Rattle.std.proofs.Common.{◌≡◌, ◌++◌, List, ℕ, map, ap, subst, ◌∙◌, arith}
use Rattle.std.specs.Int.{w64, to_le_bytes}
use Rattle.std.specs.List.{AllByRecursion}
use Rattle.std.specs.String.{string_bytes}
use Rattle.uefi_vars.specs.Set.{set_bytes, data_bytes}
use Rattle.change_records.specs.Fields.{magic, IsShort, fields_bytes}
use Rattle.change_records.proofs.Spellings.{one_more, written_so, are_utf8}
use Rattle.change_records.proofs.writer.write_record.Goals as goal

pub returns-clause-written : goal.returns-clause-written
returns-clause-written c =
    let r = c.args.record.now in
    let before : c.deref.result.now ≡ set_bytes r.before = c.deref.ensures.value ∙ c.in_ok-write_set.ensures.written in
    let after : c.deref-2.result.now ≡ set_bytes r.after = c.deref-2.ensures.value ∙ c.in_ok-write_set-2.ensures.written in
    let words : map string_bytes c.deref-3.result.now ≡ map string_bytes r.words.items = ap (map string_bytes) c.deref-3.ensures.value in
    let o0 : c.extend_from_slice.new.self.items ≡ magic =
    c.in_ok-extend_from_slice.ensures.items ∙ ap (λ (t : List ℕ). t ++ magic) c.new-out.ensures.items in
    let o1 = one_more _ _ _ _ _ c.in_ok-append_field.ensures.written o0 c.as_bytes.ensures.value in
    let o2 = one_more _ _ _ _ _ c.in_ok-append_field-2.ensures.written o1 c.to_le_bytes.ensures in
    let o3 = one_more _ _ _ _ _ c.in_ok-append_field-3.ensures.written o2 before in
    let o4 = one_more _ _ _ _ _ c.in_ok-append_field-4.ensures.written o3 after in
    let o5 =
    c.in_ok-append_words.ensures.written ∙ ap (λ (t : List ℕ). t ++ fields_bytes (map string_bytes c.deref-3.result.now)) o4 in (
      record {
        machine = c.as_bytes.ensures.valid;
        time = omega arith;
        words = are_utf8 r.words.items;
        before = c.write_set.ensures.valid;
        after = c.write_set-2.ensures.valid;
      },
      record {
        short = (
          subst IsShort c.as_bytes.ensures.value c.in_ok-append_field.ensures.short,
          (
            subst IsShort c.to_le_bytes.ensures c.in_ok-append_field-2.ensures.short,
            (
              subst IsShort before c.in_ok-append_field-3.ensures.short,
              (
                subst IsShort after c.in_ok-append_field-4.ensures.short,
                subst (AllByRecursion IsShort) words c.in_ok-append_words.ensures.short,
              ),
            ),
          ),
        );
        parts =
            written_so c.append_words.new.out.items r.machine (to_le_bytes w64 r.time) (set_bytes r.before) (set_bytes r.after)
            (map string_bytes r.words.items)
            (o5 ∙ ap (λ (ws : List (List ℕ)). ((((magic ++ data_bytes r.machine) ++ data_bytes (to_le_bytes w64 r.time)) ++ data_bytes (set_bytes r.before))
            ++ data_bytes (set_bytes r.after)) ++ fields_bytes ws) words);
      },
    )
