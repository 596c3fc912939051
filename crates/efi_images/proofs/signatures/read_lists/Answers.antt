use Rattle.std.proofs.Common.{◌∙◌, [], ◌∷◌, ◌++◌, map, ap, sym, subst, inr, append-nil}
use Rattle.std.proofs.lemmas.Result.{err_from_is_err_and}
use Rattle.efi_images.specs.Signatures.{list_parts, HasLists, one_more, here, behind}
use Rattle.efi_images.proofs.Grown.{grown, ended}
use Rattle.efi_images.proofs.signatures.read_lists.Goals as goal

pub returns-in_err-list-clause-fault : goal.returns-in_err-list-clause-fault
returns-in_err-list-clause-fault c =
    let p = err_from_is_err_and c.from_residual.result c.from_residual.ensures.1 in
    rw (p.1, p.2) (inr (c.loop-place.invariant.2 _ (here c.loop-place-test.true c.in_err-list.ensures.fault)))

pub loop-place-preserved : goal.loop-place-preserved
loop-place-preserved c =
    let bytes = c.args.bytes.now in
    let list = c.in_ok-list.list in (
      c.in_ok-list.ensures.within.1,
      (λ others rest. subst (λ all. HasLists bytes 0 all)
          (sym (ap (λ all. map list_parts all ++ others) c.in-Ok.ensures.items ∙ grown c.loop-place.lists.items list others))
          (c.loop-place.invariant.1 (list_parts list ∷ others) (one_more c.loop-place-test.true c.in_ok-list.ensures.list rest))),
      (λ f rest. c.loop-place.invariant.2 f (behind c.loop-place-test.true c.in_ok-list.ensures.list rest)),
    )

pub returns-clause-lists : goal.returns-clause-lists
returns-clause-lists c =
    let bytes = c.args.bytes.now in
    subst (λ all. HasLists bytes 0 all) (append-nil (map list_parts c.loop-place.lists.items))
    (c.loop-place.invariant.1 [] (ended bytes c.loop-place.place c.loop-place.invariant.0 c.loop-place-test.false))
