use Rattle.std.proofs.Common.{[], ◌∷◌, append-nil, inl, inr, refl, sym}
use Rattle.std.proofs.lemmas.Result.{on_ok_weaker}
use Rattle.std.specs.String.{string_bytes}
use Rattle.efibootmgr_words.proofs.lines.append_option.Goals as goal

pub returns-in-Ok : goal.returns-in-Ok
returns-in-Ok c =
    let found = c.in-Ok.ensures.found in
    on_ok_weaker c.append_parts.result
    (λ all.
    let more = all found.0 found.2 in
    (more.0, [], inl (found.0, found.1, more.1, refl), (more.2, sym (append-nil c.args.listing.now.faulty.items))))
    c.append_parts.ensures

pub returns-in_ok-push-in-Err : goal.returns-in_ok-push-in-Err
returns-in_ok-push-in-Err c = (
  [],
  c.args.number ∷ [],
  inr ((λ option spells. c.in-Err.ensures.only option spells), refl, refl),
  (sym (append-nil (string_bytes c.args.listing.now.text)), c.in_ok-push-in-Err.ensures.items),
)
