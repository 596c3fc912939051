-- One more that is refused is pushed.
use Rattle.std.proofs.Common.{ℕ, List, sym, subst}
use Rattle.std.specs.List.{AllByRecursion}
use Rattle.place_edits.specs.Takeable.{IsRefused}
use Rattle.place_edits.proofs.Taking.{all_push}
use Rattle.place_edits.proofs.takeable.push_refused.Goals as goal

pub returns-in_ok-push-in-Some : goal.returns-in_ok-push-in-Some
returns-in_ok-push-in-Some c = λ all.
    let there = c.args.there.now in
    let wanted = c.args.wanted.now in
    subst (λ (xs : List ℕ). AllByRecursion (IsRefused there wanted) xs) (sym c.in_ok-push-in-Some.ensures.items)
    (all_push (IsRefused there wanted) c.args.refused.now.items c.in-Some.entry all
    (c.is_refused.ensures.0 c.if-is_refused.true))
