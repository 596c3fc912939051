use Rattle.std.proofs.Common.{ℕ, List, ◌++◌, ◌∷◌, [], sym, ap, ◌∙◌}
use Rattle.std.specs.Option.{is_some}
use Rattle.std.proofs.lemmas.Bool.{false≢true}
use Rattle.std.proofs.lemmas.List.{append-nil, append_assoc}
use Rattle.uefi_vars.specs.Iter.{variables_left}
use Rattle.boot_edits.proofs.Lowest.{if_some, none_same, lowest_same, others-push}
use Rattle.boot_edits.proofs.same.same_entry.Goals as goal

pub loop-name-init : goal.loop-name-init
loop-name-init c = ([], sym (ap variables_left c.into_iter-name-iterator.ensures.into_iter_gives ∙ c.iter-name-items.ensures.items), λ parts is shows. tt)

pub returns-then-is_some-clause-found : goal.returns-then-is_some-clause-found
returns-then-is_some-clause-found c = λ parts is shows.
    let inv = c.loop-name.invariant in
    let all = inv.1 ∙ ap (λ (left : List (List ℕ × List ℕ)). inv.0 ++ left) c.in-Some.ensures.steps in
    if_some c.same_number-found.result _ _
    (λ number same. lowest_same parts c.args.vars.now inv.0 _ (variables_left c.next.new.self) all (inv.2 parts is shows) number same.0 same.1 same.2)
    (c.same_number-found.ensures.found parts is shows)

pub loop-name-preserved : goal.loop-name-preserved
loop-name-preserved c =
    let inv = c.loop-name.invariant in
    let all = inv.1 ∙ ap (λ (left : List (List ℕ × List ℕ)). inv.0 ++ left) c.in-Some.ensures.steps in
    let p : List ℕ × List ℕ = (c.in-Some.name.now, c.in-Some.bytes.now) in (
      inv.0 ++ p ∷ [],
      all ∙ sym (append_assoc inv.0 (p ∷ []) (variables_left c.next.new.self)),
      λ parts is shows. others-push parts inv.0 p (inv.2 parts is shows) (λ number fits named same.
          let found = c.same_number-found.ensures.only parts is shows number (fits, named, same) in
          false≢true (sym (sym c.is_some.ensures ∙ c.if-is_some.false) ∙ ap is_some found)),
    )

pub returns-clause-only : goal.returns-clause-only
returns-clause-only c = λ parts is shows number same none.
    let inv = c.loop-name.invariant in
    let all = inv.1 ∙ ap (λ (left : List (List ℕ × List ℕ)). inv.0 ++ left) c.in-None.ensures.steps.0 ∙ append-nil inv.0 in
    none_same parts c.args.vars.now inv.0 all (inv.2 parts is shows) number same
