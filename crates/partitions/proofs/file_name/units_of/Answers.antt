use Rattle.std.proofs.Common.{refl, inr, ap, ◌∙◌, sym}
use Rattle.std.specs.Prelude.{Some}
use Rattle.std.specs.Str.Iter.{char_indices_rest, char_indices_offset}
use Rattle.partitions.specs.LoaderName.{is_name_character}
use Rattle.partitions.proofs.Characters.{read_more, read_bad, read_all, false_from}
use Rattle.partitions.proofs.file_name.units_of.Goals as goal

pub loop-at-preserved : goal.loop-at-preserved
loop-at-preserved c =
    let steps = c.in-Some.ensures.steps in
    let unit = c.in-Some-unit_of.ensures in
    let before = c.loop-at.at-iterator in
    let after = c.next.new.self in
    rw (c.in_ok-push-in-Some-unit_of.ensures.items, unit.1)
    (read_more c.args.text.now (char_indices_rest before) (char_indices_rest after) c.loop-at.units.items
    (char_indices_offset before) (char_indices_offset after)
    c.in-Some.character c.loop-at.invariant steps.1 steps.2 unit.0)

pub returns-in-None-unit_of-clause-fault : goal.returns-in-None-unit_of-clause-fault
returns-in-None-unit_of-clause-fault c =
    let steps = c.in-Some.ensures.steps in
    let before = c.loop-at.at-iterator in
    let bad = false_from (is_name_character c.in-Some.character) c.in-None-unit_of.ensures in
    inr (
      c.in-Some.at,
      refl,
      read_bad c.args.text.now (char_indices_rest before) (char_indices_rest c.next.new.self) c.loop-at.units.items
          (char_indices_offset before) c.in-Some.character
          c.loop-at.invariant steps.1 bad ∙ ap Some (sym steps.0),
    )

pub returns-clause-good : goal.returns-clause-good
returns-clause-good c =
    let before = c.loop-at.at-iterator in
    (read_all c.args.text.now (char_indices_rest before) c.loop-at.units.items (char_indices_offset before) c.loop-at.invariant c.in-None.ensures.steps.0).0

pub returns-clause-made : goal.returns-clause-made
returns-clause-made c =
    let before = c.loop-at.at-iterator in
    sym (read_all c.args.text.now (char_indices_rest before) c.loop-at.units.items (char_indices_offset before) c.loop-at.invariant c.in-None.ensures.steps.0).1
