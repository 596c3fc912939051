-- A loop over events and the answers to them, before which so many of both were gone over.
use Rattle.std.proofs.Common.{◌≡◌, ℕ, suc, ◌<◌, min, Bool, List, [], ◌∷◌, length, get_or, drop, Option, refl, sym, ap, subst, ◌∙◌, inl, inr, arith}
use Rattle.std.proofs.lemmas.Bool.{cases_lt}
use Rattle.std.proofs.lemmas.List.{drop_all}
use Rattle.std.proofs.Math.Seq.{drop-cons}
use Rattle.boot_requests.specs.declared.answer.Answer.{Answer}
use Rattle.boot_requests.specs.declared.event.Event.{Event}
use Rattle.boot_notes.specs.declared.digest.FrameDigest.{FrameDigest}
use Rattle.journaled_requests.specs.Applied.{SentFrames, with_answer, after_answers}
use Rattle.journaled_requests.specs.Same.{known_by, IsTold, AreTold}

-- what was sent after the others, and what is told of them
abbrev pub rest_sent : SentFrames → List Event → List Answer → ℕ → SentFrames
rest_sent sent events answers n = after_answers sent (drop n events) (drop n answers)

abbrev pub RestTold : List FrameDigest → SentFrames → List Event → List Answer → ℕ → List (Option Bool) → Type 0
RestTold before sent events answers n told = AreTold before sent (drop n events) (drop n answers) told

module _ (events : List Event) (answers : List Answer) (n : ℕ) where
  -- these are the next of both
  pub record AreNext (happened : Event) (answer : Answer) : Type 0 where
    pub in_events : n < length events
    pub in_answers : n < length answers
    pub event_is : happened ≡ get_or events n happened
    pub answer_is : answer ≡ get_or answers n answer

  module _ (happened : Event) (answer : Answer) (at : AreNext happened answer) where
    next_event : drop n events ≡ happened ∷ drop (suc n) events
    next_event = drop-cons events n happened at.in_events ∙ ap (λ (e : Event). e ∷ drop (suc n) events) (sym at.event_is)

    next_answer : drop n answers ≡ answer ∷ drop (suc n) answers
    next_answer = drop-cons answers n answer at.in_answers ∙ ap (λ (a : Answer). a ∷ drop (suc n) answers) (sym at.answer_is)

    pub one_sent : (sent after : SentFrames) → after ≡ with_answer sent happened answer →
        rest_sent after events answers (suc n) ≡ rest_sent sent events answers n
    one_sent sent after is =
        ap (λ (s : SentFrames). rest_sent s events answers (suc n)) is
        ∙ sym (ap (λ (es : List Event). after_answers sent es (drop n answers)) next_event
        ∙ ap (λ (as_said : List Answer). after_answers sent (happened ∷ drop (suc n) events) as_said) next_answer)

    pub one_told : (before : List FrameDigest) (sent after : SentFrames) (same : Option Bool) (told : List (Option Bool)) →
        after ≡ with_answer sent happened answer →
        IsTold (known_by before sent) happened answer same → RestTold before after events answers (suc n) told →
        RestTold before sent events answers n (same ∷ told)
    one_told before sent after same told is here rest =
        subst (λ (es : List Event). AreTold before sent es (drop n answers) (same ∷ told)) (sym next_event)
        (subst (λ (as_said : List Answer). AreTold before sent (happened ∷ drop (suc n) events) as_said (same ∷ told)) (sym next_answer)
        (here, subst (λ (s : SentFrames). RestTold before s events answers (suc n) told) is rest))

  -- no more of one of them
  none_left : (P : List Event → List Answer → Type 0) → ((as_said : List Answer) → P [] as_said) → ((es : List Event) → P es []) →
      n ≡ min (length events) (length answers) → P (drop n events) (drop n answers)
  none_left P no_event no_answer is = elim (cases_lt (length events) (length answers)) [
    | inl l ↦ subst (λ (es : List Event). P es (drop n answers)) (sym (drop_all n events (omega (arith, is, l)))) (no_event (drop n answers))
    | inr l ↦ subst (λ (as_said : List Answer). P (drop n events) as_said) (sym (drop_all n answers (omega (arith, is, l)))) (no_answer (drop n events))
  ]

  pub none_sent : (sent : SentFrames) → n ≡ min (length events) (length answers) → rest_sent sent events answers n ≡ sent
  none_sent sent = none_left (λ es as_said. after_answers sent es as_said ≡ sent) (λ as_said. refl) no_answer
    where
      no_answer : (es : List Event) → after_answers sent es [] ≡ sent
      no_answer [] = refl
      no_answer (happened ∷ es) = refl

  pub none_told : (before : List FrameDigest) (sent : SentFrames) → n ≡ min (length events) (length answers) → RestTold before sent events answers n []
  none_told before sent = none_left (λ es as_said. AreTold before sent es as_said []) (λ as_said. refl) no_answer
    where
      no_answer : (es : List Event) → AreTold before sent es [] []
      no_answer [] = refl
      no_answer (happened ∷ es) = refl
