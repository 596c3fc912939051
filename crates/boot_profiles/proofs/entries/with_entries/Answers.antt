use Rattle.std.proofs.Common.{List, drop, sym, ap, subst}
use Rattle.std.proofs.lemmas.List.{drop_more}
use Rattle.boot_profiles.specs.declared.profile.ProfileEntry.{ProfileEntry}
use Rattle.boot_profiles.proofs.Refusals.{GoesOn, one_more}
use Rattle.boot_profiles.proofs.entries.with_entries.Goals as goal

pub loop-place-init : goal.loop-place-init
loop-place-init c =
    subst (GoesOn c.args.entries.now c.args.vars.now 0) (sym c.in_ok-now.ensures.equal) (record { done = λ to s. s; refused = λ at f w. w })

pub loop-place-preserved : goal.loop-place-preserved
loop-place-preserved c =
    let step = c.in_ok-now-2.ensures.done in
    one_more c.args.entries.now c.args.vars.now c.loop-place.place c.loop-place.now c.loop-place.invariant
    (sym (ap (λ (l : List ProfileEntry). drop 1 l) (drop_more c.args.entries.now c.loop-place.place step.entry c.loop-place-test.true))) _ step
