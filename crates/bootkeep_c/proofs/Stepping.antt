-- What comes of an event of a keeper.
use Rattle.std.proofs.Common.{◌≡◌, ◌≢◌, ℕ, List, Option, Some, None, inl, inr, refl, ap, subst, arith}
use Rattle.boot_requests.specs.declared.event.Event.{Event}
use Rattle.boot_requests.specs.declared.reply.Reply.{Reply}
use Rattle.boot_requests.specs.Turn.{Plain}
use Rattle.boot_requests.specs.Words.{line_of}
use Rattle.bootkeep_c.specs.Status.{done, no_memory}
use Rattle.bootkeep_c.specs.Buffer.{IsInFront, IsTooLong, Gives}
use Rattle.bootkeep_c.specs.Handle.{open_number}
use Rattle.bootkeep_c.specs.Steps.{StepsTo, ComesOf}

-- a handle that isn't told to be closed has a keeper
pub open_kept : (kept : Option Plain) (is_open : ℕ) → is_open ≡ open_number kept → (is_open ≡ 0 → ⊥) → (from : Plain) × (kept ≡ Some from)
open_kept None is_open tells some = absurd (some tells)
open_kept (Some from) is_open tells some = (from, refl)

-- no memory, and nothing happened
pub stays : (event : Event) (kept : Option Plain) (from : Plain) (buffer : List ℕ) (len : ℕ) → kept ≡ Some from →
    ComesOf event no_memory kept kept buffer buffer len len
stays event kept from buffer len is = inr (inr (inl (refl, record { from = from; was = is; is = refl; kept = record { buffer = refl; told = refl } })))

-- the line of the reply is given, and the keeper is the next one if it is done
pub comes : (event : Event) (status : ℕ) (from to after : Plain) (reply : Reply) (line old new : List ℕ) (old_len len : ℕ) →
    StepsTo from event to reply → line ≡ line_of reply
    → Gives status line old new len → (status ≡ done → after ≡ to) → (status ≢ done → after ≡ from) →
    ComesOf event status (Some from) (Some after) old new old_len len
comes event status from to after reply line old new old_len len steps is (inl given) if_done otherwise =
    inl (
      given.0,
      record {
        from = from;
        to = to;
        answer = reply;
        was = refl;
        is = ap (λ (k : Plain). Some k) (if_done given.0);
        steps = steps;
        line = subst (λ (l : List ℕ). IsInFront l old new len) is given.1;
      },
    )
comes event status from to after reply line old new old_len len steps is (inr long) if_done otherwise =
    inr (inl (
      long.0,
      record {
        from = from;
        to = to;
        answer = reply;
        was = refl;
        is = ap (λ (k : Plain). Some k) (otherwise (λ is_done. omega (arith, long.0, is_done)));
        steps = steps;
        line = subst (λ (l : List ℕ). IsTooLong l old new len) is long.1;
      },
    ))
