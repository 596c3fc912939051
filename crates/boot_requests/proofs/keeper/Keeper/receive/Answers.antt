-- A frame is one request with its number or has one first fault, and never both.
use Rattle.std.proofs.Common.{ℕ, refl, sym, ap, subst, ◌∙◌, ⊎_elim}
use Rattle.boot_requests.specs.declared.reply.Reply.TheVariants as reply
use Rattle.boot_requests.specs.declared.request.Request.{Request}
use Rattle.boot_requests.specs.Seen.{Came}
use Rattle.boot_requests.specs.Turn.{Turn}
use Rattle.boot_requests.specs.Update.{after_update}
use Rattle.boot_requests.proofs.Turn.Steps.{same_pair, not_both, same_fault}
use Rattle.boot_requests.proofs.keeper.Keeper.receive.Goals as goal

pub returns-in_ok-answer-in-Ok-clause-came : goal.returns-in_ok-answer-in-Ok-clause-came
returns-in_ok-answer-in-Ok-clause-came c = λ n r spells. ⊎_elim
    (λ e.
    subst (λ (p : ℕ × Request). Turn c.args.self.now (Came p.0 p.1) (after_update c.args.self.now c.in_ok-answer-in-Ok.answer.0) c.in_ok-answer-in-Ok.answer.1)
    (same_pair _ _ e) c.in_ok-answer-in-Ok.ensures.turn)
    (λ e. absurd (not_both _ _ e)) (c.in-Ok.ensures.only n r spells)

pub returns-in_ok-answer-in-Ok-clause-malformed : goal.returns-in_ok-answer-in-Ok-clause-malformed
returns-in_ok-answer-in-Ok-clause-malformed c = λ f first.
    ⊎_elim (λ e. absurd (not_both _ _ e)) (λ e. absurd (not_both _ _ e)) (c.in-Ok.ensures.only_fault f first)

pub returns-in_ok-reply-in-Err : goal.returns-in_ok-reply-in-Err
returns-in_ok-reply-in-Err c = record {
  fits = tt;
  came = λ n r spells.
      ⊎_elim (λ e. absurd (not_both _ _ (sym e))) (λ e. absurd (c.in_ok-reply-in-Err.ensures.0 (same_fault _ _ e))) (c.in-Err.ensures.only n r spells);
  malformed = λ f first. ⊎_elim
      (λ e. (refl, c.in_ok-reply-in-Err.ensures.1 ∙ ap reply.Malformed (same_fault _ _ e)))
      (λ e. absurd (c.in_ok-reply-in-Err.ensures.0 (same_fault _ _ e))) (c.in-Err.ensures.only_fault f first);
}
