use Rattle.std.proofs.Common.{◌≡◌, cond, set, sym, ap, subst, ◌∙◌}
use Rattle.std.specs.List.{insert}
use Rattle.std.specs.Vec.{vec_len, vec_capacity}
use Rattle.std.proofs.lemmas.Cmp.{nat_list_cmp_total}
use Rattle.std.proofs.lemmas.List.{map-set}
use Rattle.uefi_vars.specs.Vars.{name_cmp}
use Rattle.uefi_vars.specs.Records.{pair_of, pairs_of, IsPlace, HasRoom}
use Rattle.uefi_vars.proofs.Places.{item_at, put_at, put_gap, map-insert}
use Rattle.uefi_vars.proofs.named.set_at.Goals as goal

-- the name keeps its place
pub returns-in-Taken-clause-stored : goal.returns-in-Taken-clause-stored
returns-in-Taken-clause-stored g c name here =
    let items = c.args.items.now.items in
    let kept = c.args.kept in
    let place = c.in-Taken.index in
    let at = subst (IsPlace (pairs_of items) name) c.in-Taken.is here in
    let named = ap (λ v. (pair_of v).0) c.index_mut.ensures.value ∙ item_at pair_of (λ p. p.0 ≡ name) items place c.index_mut.result.now at.named in
    map-set pair_of items place _ ∙ ap (set (pairs_of items) place) (ap (λ n. (n, kept)) named)
    ∙ sym (put_at name_cmp nat_list_cmp_total name kept (pairs_of items) place at.below at.named)

pub returns-in-Free-clause-stored : goal.returns-in-Free-clause-stored
returns-in-Free-clause-stored g c name here =
    let items = c.args.items.now.items in
    let kept = c.args.kept in
    let place = c.in-Free.index in
    let free = subst (IsPlace (pairs_of items) name) c.in-Free.is here in
    let room = subst (HasRoom (vec_len c.args.items.now) (vec_capacity c.args.items.now)) c.in-Free.is c.requires.room in
    let inserted = c.insert-inserted.ensures.items ∙ ap (λ b.
    cond b (insert items place record { name = c.in-Free.name; kept = kept }) items) (c.insert-inserted.ensures.succeeds room) in
    ap pairs_of inserted ∙ map-insert pair_of items place _ ∙ ap (λ n. insert (pairs_of items) place (n, kept)) free.1
    ∙ sym (put_gap name_cmp nat_list_cmp_total name kept (pairs_of items) place free.0.below free.0.above)
