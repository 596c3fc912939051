-- What comes of an event of a keeper whose reply is told by numbers.
use Rattle.std.proofs.Common.{◌≡◌, ◌≢◌, ℕ, List, Option, Some, inl, inr, refl, ap, subst, arith}
use Rattle.boot_requests.specs.declared.event.Event.{Event}
use Rattle.boot_requests.specs.declared.reply.Reply.{Reply}
use Rattle.boot_requests.specs.Turn.{Plain}
use Rattle.bootkeep_c.specs.declared.reply.ReplyNumbers.{ReplyNumbers}
use Rattle.bootkeep_c.specs.Status.{done, no_memory}
use Rattle.bootkeep_c.specs.Buffer.{IsInFront, IsTooLong, Gives}
use Rattle.bootkeep_c.specs.Steps.{StepsTo}
use Rattle.bootkeep_c.specs.Replies.{reply_numbers, planned_numbers, RepliesOf}

-- no memory, and nothing happened
pub stays_unanswered : (event : Event) (kept : Option Plain) (from : Plain) (buffer : List ℕ) (len : ℕ) (told : ReplyNumbers) → kept ≡ Some from
    → RepliesOf event no_memory kept kept buffer buffer len len told told
stays_unanswered event kept from buffer len told is =
    inr (inr (inl (refl, record { from = from; was = is; is = refl; kept = record { buffer = refl; told = refl } }, refl)))

-- the numbers of the reply are given, and the keeper is the next one if it is done
pub replies : (event : Event) (status : ℕ) (from to after : Plain) (reply : Reply) (numbers old new : List ℕ) (old_len len : ℕ)
    (was_told is_told : ReplyNumbers) → StepsTo from event to reply
    → numbers ≡ planned_numbers reply → Gives status numbers old new len → (status ≡ done → after ≡ to) → (status ≢ done → after ≡ from)
    → (status ≡ done → is_told ≡ reply_numbers was_told.size reply) → (status ≢ done → is_told ≡ was_told)
    → RepliesOf event status (Some from) (Some after) old new old_len len was_told is_told
replies event status from to after reply numbers old new old_len len was_told is_told steps is (inl given) if_done otherwise told untold =
    inl (
      given.0,
      record {
        from = from;
        to = to;
        answer = reply;
        was = refl;
        is = ap (λ (k : Plain). Some k) (if_done given.0);
        steps = steps;
        told = told given.0;
        numbers = subst (λ (n : List ℕ). IsInFront n old new len) is given.1;
      },
    )
replies event status from to after reply numbers old new old_len len was_told is_told steps is (inr long) if_done otherwise told untold =
    inr (inl (
      long.0,
      record {
        from = from;
        to = to;
        answer = reply;
        was = refl;
        is = ap (λ (k : Plain). Some k) (otherwise (λ is_done. omega (arith, long.0, is_done)));
        steps = steps;
        told = untold (λ is_done. omega (arith, long.0, is_done));
        numbers = subst (λ (n : List ℕ). IsTooLong n old new len) is long.1;
      },
    ))
