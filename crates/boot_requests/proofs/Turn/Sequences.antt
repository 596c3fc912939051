-- Events one after the other: turns that follow each other, and the answers to a run.
use Rattle.std.proofs.Common.{◌≡◌, ℕ, suc, ◌+◌, ◌<◌, List, [], ◌∷◌, ◌++◌, length, reverse, take, drop, get_or, refl, sym, ap, subst, ◌∙◌, append_assoc, arith}
use Rattle.std.proofs.Math.Seq.{take-suc, drop-append_seam}
use Rattle.std.proofs.lemmas.List.{length-append, reverse-append}
use Rattle.boot_requests.specs.declared.event.Event.{Event}
use Rattle.boot_requests.specs.declared.reply.Reply.{Reply}
use Rattle.boot_requests.specs.State.{State}
use Rattle.boot_requests.specs.Seen.{Seen, IsSeen, AreSeen}
use Rattle.boot_requests.specs.Run.{run_followed_by}
use Rattle.boot_requests.specs.Reply.{AreReplies, AreAnswers}
use Rattle.boot_requests.specs.Turn.{Plain, Turn, Turns}
use Rattle.boot_requests.specs.Keeper.{StandsFor}
use Rattle.boot_requests.proofs.Turn.Turns.{turn_goes_on}

-- what events are read as when one more is after them
pub seen_last : (events : List Event) (event : Event) (seen : List Seen) → AreSeen (events ++ event ∷ []) seen →
    (front : List Seen) × (last : Seen) × (seen ≡ front ++ last ∷ []) × AreSeen events front × IsSeen event last
seen_last [] event [] h = absurd h
seen_last [] event (seen ∷ []) h = ([], seen, refl, tt, h.0)
seen_last [] event (seen ∷ (other ∷ more)) h = absurd h.1
seen_last (e ∷ es) event [] h = absurd h
seen_last (e ∷ es) event (seen ∷ later) h =
    let rest = seen_last es event later h.1 in
    (seen ∷ rest.0, rest.1, ap (λ (t : List Seen). seen ∷ t) rest.2, (h.0, rest.3), rest.4)

-- one more turn
turns_last : (k mid to : Plain) (front : List Seen) (last : Seen) (answers : List Reply) (answer : Reply) →
    Turns k front mid answers → Turn mid last to answer → Turns k (front ++ last ∷ []) to (answers ++ answer ∷ [])
turns_last k mid to [] last [] answer h turn = (to, subst (λ (p : Plain). Turn p last to answer) h.0 turn, (refl, refl))
turns_last k mid to [] last (other ∷ answers) answer h turn = absurd (let none : other ∷ answers ≡ [] = h.1 in cc)
turns_last k mid to (seen ∷ front) last [] answer h turn = absurd h
turns_last k mid to (seen ∷ front) last (other ∷ answers) answer h turn =
    (h.0, h.1, turns_last h.0 mid to front last answers answer h.2 turn)

-- turns go on with the run that a plain state stands for
pub turns_go_on : (k to : Plain) (start : State) (before seen : List Seen) (answers : List Reply) →
    StandsFor k start before → Turns k seen to answers → StandsFor to start (run_followed_by before seen) × AreAnswers start before seen answers
turns_go_on k to start before [] answers s h = (subst (λ (p : Plain). StandsFor p start before) (sym h.0) s, h.1)
turns_go_on k to start before (seen ∷ later) [] s h = absurd h
turns_go_on k to start before (seen ∷ later) (answer ∷ answers) s h =
    let one = turn_goes_on k start before s seen h.0 answer h.1 in
    let rest = turns_go_on h.0 to start (seen ∷ before) later answers one.0 h.2 in
    (rest.0, (one.1, rest.1))

-- the answers in their order are the replies with the newest first
pub answers_reply : (start : State) (run seen : List Seen) (replies answers : List Reply) → AreReplies start run replies → AreAnswers start run seen answers →
    AreReplies start (run_followed_by run seen) (reverse answers ++ replies)
answers_reply start run [] replies answers g h = subst (λ (rs : List Reply). AreReplies start run (reverse rs ++ replies)) (sym h) g
answers_reply start run (seen ∷ later) replies [] g h = absurd h
answers_reply start run (seen ∷ later) replies (answer ∷ answers) g h =
    let last = ap (λ (rs : List Reply). rs ++ replies) (reverse-append (answer ∷ []) answers) ∙ append_assoc (reverse answers) (answer ∷ []) replies in
    subst (λ (rs : List Reply). AreReplies start (run_followed_by (seen ∷ run) later) rs) (sym last)
    (answers_reply start (seen ∷ run) later (answer ∷ replies) answers (h.0, g) h.1)

-- this many of the events were taken, and their answers are after those that were there
pub record Ran (from : Plain) (events : List Event) (before : List Reply) (count : ℕ) (to : Plain) (now : List Reply) : Type 0 where
  pub answers : List Reply
  pub kept : now ≡ before ++ answers
  pub len : length answers ≡ count
  pub turns : (seen : List Seen) → AreSeen (take count events) seen → Turns from seen to answers

pub ran_more : (from mid to : Plain) (events : List Event) (event : Event) (before now then : List Reply) (answer : Reply) (count : ℕ) →
    Ran from events before count mid now → count < length events → event ≡ get_or events count event → then ≡ now ++ answer ∷ [] →
    ((seen : Seen) → IsSeen event seen → Turn mid seen to answer) → Ran from events before (count + 1) to then
ran_more from mid to events event before now then answer count ran below here is turn = record {
  answers = ran.answers ++ answer ∷ [];
  kept = is ∙ ap (λ (rs : List Reply). rs ++ answer ∷ []) ran.kept ∙ append_assoc before ran.answers (answer ∷ []);
  len = omega (arith, length-append ran.answers (answer ∷ []), ran.len);
  turns = λ seen h.
      let more = ap (λ (n : ℕ). take n events) (let next : count + 1 ≡ suc count = omega arith in next) ∙ take-suc events count event below
      ∙ ap (λ (e : Event). take count events ++ e ∷ []) (sym here) in
      let parts = seen_last (take count events) event seen (subst (λ (es : List Event). AreSeen es seen) more h) in
      subst (λ (t : List Seen). Turns from t to (ran.answers ++ answer ∷ [])) (sym parts.2)
      (turns_last from mid to parts.0 parts.1 ran.answers answer (ran.turns parts.0 parts.3) (turn parts.1 parts.4));
}

-- ---- the answers as what is after the replies that were there

module _ (from : Plain) (events : List Event) (before : List Reply) (count : ℕ) (to : Plain) (now : List Reply)
    (ran : Ran from events before count to now) where
  behind : ran.answers ≡ drop (length before) now
  behind = sym (ap (λ (rs : List Reply). drop (length before) rs) ran.kept ∙ drop-append_seam before ran.answers)

  pub ran_turns : let answers = drop (length before) now in (seen : List Seen) → AreSeen (take (length answers) events) seen → Turns from seen to answers
  ran_turns = rw (← behind) (λ seen h. ran.turns seen (rw ran.len at h))

  pub ran_run : let answers = drop (length before) now in (start : State) (past seen : List Seen) → StandsFor from start past →
      AreSeen (take (length answers) events) seen → StandsFor to start (run_followed_by past seen) × AreAnswers start past seen answers
  ran_run start past seen s h = turns_go_on from to start past seen (drop (length before) now) s (ran_turns seen h)

pub ran_same : (from : Plain) (events : List Event) (before : List Reply) (count : ℕ) (to other : Plain) (now then : List Reply) →
    Ran from events before count to now → other ≡ to → then ≡ now → Ran from events before count other then
ran_same from events before count to other now then ran same kept = rw (same, kept) ran
