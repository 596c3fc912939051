use Rattle.std.proofs.Common.{◌≢◌, ◌<◌, length, sym, ◌∙◌, arith}
use Rattle.std.proofs.lemmas.Bool.{eqb-true, eqb-false}
use Rattle.boot_requests.proofs.Variables.Marks.{no_outcomes, no_outcome_first, too_few, read_whole}
use Rattle.boot_requests.proofs.mark.read_outcomes.Goals.{then-is_empty, else-is_empty}
use Rattle.boot_requests.proofs.mark.read_outcomes.Goals as goal

pub returns-in_default-from_bytes : goal.returns-in_default-from_bytes
returns-in_default-from_bytes c =
    let rest = c.loop-rest.rest.now in
    no_outcomes c.args.bytes.now rest c.loop-rest.kept.items c.loop-rest.invariant.read
    (no_outcome_first rest c.in-len4-up.len_at_least c.in_default-from_bytes.ensures.none)

pub returns : goal.returns
returns c =
    let rest = c.loop-rest.rest.now in
    let few : length rest < 4 = omega (arith, c.in_default.len_below) in
    elim c.if-is_empty.branch [
      | then-is_empty w ↦
          rw w.result-is (
            c.loop-rest.invariant.valid,
            read_whole c.args.bytes.now rest c.loop-rest.kept.items c.loop-rest.invariant.read
                (eqb-true (length rest) 0 (sym c.is_empty.ensures ∙ w.if-is_empty.true)),
          )
      | else-is_empty w ↦
          let some : length rest ≢ 0 = eqb-false (length rest) 0 (sym c.is_empty.ensures ∙ w.if-is_empty.false) in
          rw w.result-is (no_outcomes c.args.bytes.now rest c.loop-rest.kept.items c.loop-rest.invariant.read (too_few rest (omega (arith, some)) few))
    ]
