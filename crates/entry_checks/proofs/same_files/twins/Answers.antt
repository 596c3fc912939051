use Rattle.std.proofs.Common.{◌<◌, ◌++◌, ◌∷◌, [], ◌+◌, Option, ℕ, length, take, drop, ap, ◌∙◌, arith}
use Rattle.entry_checks.specs.Twins.{twins_from}
use Rattle.entry_checks.proofs.FirstTo.{one_more, finds_more}
use Rattle.entry_checks.proofs.same_files.twins.Goals as goal

pub loop-entry-preserved : goal.loop-entry-preserved
loop-entry-preserved c =
    let i = c.loop-entry.entry-index in
    let entries = c.args.entries.now in
    let within : i < length entries = omega arith in
    let entry = c.entry-item.result in
    let twins = c.loop-entry.twins.items in
    let met = c.in_ok-twin.ensures (take i entries) c.loop-entry.invariant.finds in
    record {
      finds = finds_more entries i entry c.meet.new.met within c.entry-item.is met.1;
      is = rw c.in_ok-push.ensures.items
          (ap (λ (t : Option ℕ). (twins ++ t ∷ []) ++ twins_from (take (i + 1) entries) (drop (i + 1) entries)) met.0
          ∙ one_more entries i entry twins within c.entry-item.is c.loop-entry.invariant.is);
    }
