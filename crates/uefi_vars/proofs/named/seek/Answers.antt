use Rattle.std.proofs.Common.{sym, ap, subst, ◌∙◌}
use Rattle.std.specs.FinMap.Entries.{find}
use Rattle.uefi_vars.specs.Vars.{name_cmp}
use Rattle.uefi_vars.specs.Records.{pair_of, pairs_of, IsRising, FindsAllFrom}
use Rattle.uefi_vars.proofs.NameChanges.{none_of}
use Rattle.uefi_vars.proofs.Maps.{sorted_parts}
use Rattle.uefi_vars.proofs.Places.{not_below_itself, find_behind, find_here, find_none}
use Rattle.uefi_vars.proofs.named.seek.Goals as goal

pub loop-first-preserved : goal.loop-first-preserved
loop-first-preserved g c =
    let name = c.args.name.now in
    let first = pair_of c.in-Some.first.now in
    let behind = pairs_of c.in-Some.behind.now in
    let front = ap pairs_of c.in-Some.ensures.cases.0 in
    let less = ap (λ k. name_cmp k name) (sym c.as_bytes.ensures) ∙ sym c.cmp.ensures ∙ c.in-Less.is in
    let left = subst (FindsAllFrom name (pairs_of c.args.items.now)) front c.loop-first.invariant.left in
    record {
      rising = (sorted_parts name_cmp first behind (subst IsRising front c.loop-first.invariant.rising)).1;
      left = λ other from. find_behind name first behind less other from ∙ left other from;
    }

pub returns-in-Equal-clause-found : goal.returns-in-Equal-clause-found
returns-in-Equal-clause-found g c =
    let name = c.args.name.now in
    let equal = ap (λ k. name_cmp k name) (sym c.as_bytes.ensures) ∙ sym c.cmp.ensures ∙ c.in-Equal.is in
    sym (find_here name (pair_of c.in-Some.first.now) (pairs_of c.in-Some.behind.now) equal)
    ∙ ap (λ l. find name_cmp name (pairs_of l)) (sym c.in-Some.ensures.cases.0)
    ∙ c.loop-first.invariant.left name (not_below_itself name)

pub returns-in-Greater-clause-found : goal.returns-in-Greater-clause-found
returns-in-Greater-clause-found g c =
    let name = c.args.name.now in
    let rising = subst IsRising (ap pairs_of c.in-Some.ensures.cases.0) c.loop-first.invariant.rising in
    let greater = ap (λ k. name_cmp k name) (sym c.as_bytes.ensures) ∙ sym c.cmp.ensures ∙ c.in-Greater.is in
    sym (find_none name (pair_of c.in-Some.first.now) (pairs_of c.in-Some.behind.now) rising greater)
    ∙ ap (λ l. find name_cmp name (pairs_of l)) (sym c.in-Some.ensures.cases.0)
    ∙ c.loop-first.invariant.left name (not_below_itself name)

pub returns-clause-found : goal.returns-clause-found
returns-clause-found g c =
    let name = c.args.name.now in
    ap (λ l. find name_cmp name (pairs_of l)) (sym (none_of c.loop-first.left.now c.in_default.ensures.cases))
    ∙ c.loop-first.invariant.left name (not_below_itself name)
