use Rattle.std.proofs.Common.{◌≡◌, ◌<◌, length, ap, ◌∙◌, arith}
use Rattle.std.proofs.lemmas.List.{length-drop}
use Rattle.var_stores.proofs.Counts.{shorter_after, past_record, past_four, all_counted, has_some}
use Rattle.var_stores.proofs.damage.count_records.Goals as goal

pub loop-rest-preserved-in-Some : goal.loop-rest-preserved-in-Some
loop-rest-preserved-in-Some c =
    let rest = c.loop-rest.rest.now in
    let after = c.in-Some.after.now in
    let room = c.loop-rest.invariant.room in
    let shorter = shorter_after rest after c.in-Some.ensures in
    record {
      room = omega (arith, room, shorter);
      leads = past_record c.args.bytes.now rest after c.loop-rest.count
          c.in-Some.ensures c.loop-rest.invariant.leads;
    }

pub loop-rest-preserved : goal.loop-rest-preserved
loop-rest-preserved c =
    let rest = c.loop-rest.rest.now in
    let room = c.loop-rest.invariant.room in
    let some : 0 < length rest = grind (arith, c.is_empty.ensures, c.loop-rest-test.true) in
    let left = ap length c.four_on-rest.ensures ∙ length-drop 4 rest in
    record {
      room = omega (arith, room, left);
      leads = past_four c.args.bytes.now rest c.four_on-rest.result.now c.loop-rest.count (has_some rest some)
          c.in_default.ensures c.four_on-rest.ensures c.loop-rest.invariant.leads;
    }

pub returns : goal.returns
returns c =
    let rest = c.loop-rest.rest.now in
    let none : length rest ≡ 0 = grind (arith, c.is_empty.ensures, c.loop-rest-test.false) in
    all_counted c.args.bytes.now rest c.loop-rest.count none c.loop-rest.invariant.leads
