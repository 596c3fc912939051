use Rattle.std.proofs.Common.{◌≤◌, ◌-◌, ◌++◌, ◌||◌, Bool, false, length, take, drop, ap, ◌∙◌, arith, length-drop}
use Rattle.std.proofs.lemmas.List.{take_all}
use Rattle.boot_commands.proofs.Transfers.{appends_more, wrote_more}
use Rattle.boot_commands.proofs.transfer.write_all.Goals as goal

pub loop-rest-preserved : goal.loop-rest-preserved
loop-rest-preserved g c =
    let rest = c.loop-rest.rest.now in
    let count = c.in-Some.count in
    let so_far = c.loop-rest.invariant.0 in
    let past : length (drop count rest) ≤ length rest - count = omega (arith, length-drop count rest) in
    rw (take_all (length rest - count) (drop count rest) past) (
      (
        so_far.0 ++ take count rest,
        wrote_more c.args.bytes.now so_far.0 rest count so_far.1,
        appends_more _ _ _ so_far.0 (take count rest) so_far.2 c.in-Some.ensures.bytes.0,
      ),
      c.in-Some.ensures.flag ∙ ap (λ (b : Bool). b || false) c.loop-rest.invariant.1,
    )
