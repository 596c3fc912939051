use Rattle.std.proofs.Common.{ℕ, List, [], drop, sym, ap, subst, append-nil, arith}
use Rattle.std.proofs.lemmas.List.{drop_more, drop_all}
use Rattle.boot_profiles.specs.Order.{AreNamed}
use Rattle.boot_profiles.proofs.Refusals.{NamesGoOn, one_name_more}
use Rattle.boot_profiles.proofs.names.numbers_named.Goals as goal

pub loop-place-init : goal.loop-place-init
loop-place-init c =
    subst (NamesGoOn c.args.vars.now c.args.names.now 0) (sym c.new-numbers.ensures.items) (record { named = λ rest n. n; refused = λ at f w. w })

pub loop-place-preserved : goal.loop-place-preserved
loop-place-preserved c =
    let at = c.in_ok-number.ensures.named in
    rw c.in_ok-push.ensures
    (one_name_more c.args.vars.now c.args.names.now c.loop-place.place c.loop-place.numbers.items c.loop-place.invariant
    (sym (ap (λ (l : List (List ℕ)). drop 1 l) (drop_more c.args.names.now c.loop-place.place at.name c.loop-place-test.true))) _ at)

pub returns-clause-named : goal.returns-clause-named
returns-clause-named c =
    let vars = c.args.vars.now in
    let names = c.args.names.now in
    subst (λ (l : List ℕ). AreNamed vars names l) (append-nil c.loop-place.numbers.items)
    (c.loop-place.invariant.named []
    (subst (λ (l : List (List ℕ)). AreNamed vars l []) (sym (drop_all c.loop-place.place names (omega (arith, c.loop-place-test.false)))) tt))
