-- What an answer tells of the next number is the gap after its event (`told_next`), and so after all events (`all_told`).
use Rattle.std.proofs.Common.{◌≡◌, ◌≢◌, inl, inr, ℕ, ltb, leb, eqb, ◌-◌, Bool, true, false, cond, List, [], ◌∷◌, fold}
use Rattle.std.proofs.Common.{Option, Some, None, refl, sym, ap, subst, ◌∙◌, arith}
use Rattle.std.specs.Prelude.{is_some, if◌then◌else◌, MatchBool}
use Rattle.std.specs.FinMap.{get, contains_key, insert}
use Rattle.std.proofs.lemmas.Bool.Decides.{nat_tests}
use Rattle.std.proofs.lemmas.Bool.{cases_Bool, eqb-true}
use Rattle.uefi_vars.specs.Plan.{PlanParts}
use Rattle.boot_requests.specs.declared.answer.Answer.{Answer}
use Rattle.boot_requests.specs.declared.outcome.Outcome.{Outcome}
use Rattle.boot_requests.specs.declared.reply.Reply.{Reply}
use Rattle.boot_requests.specs.declared.reply.Reply.TheVariants as reply
use Rattle.boot_requests.specs.declared.request.Request.{Request}
use Rattle.boot_requests.specs.Answer.{IsReplyTo, again, kept_outcome, reply_to_hand, choice_count}
use Rattle.boot_requests.specs.Answering.{replies_of}
use Rattle.boot_requests.specs.Apply.{outcome_of, HasPlanOf}
use Rattle.boot_requests.specs.Limits.{width}
use Rattle.boot_requests.specs.Reply.{IsReply, AreAnswers}
use Rattle.boot_requests.specs.Run.{accepted_requests, gap_at, state_at, is_armed, run_followed_by}
use Rattle.boot_requests.specs.Seen.{Seen, Came, Malformed, Prepare, Hand, Restart}
use Rattle.boot_requests.specs.State.{State}
use Rattle.boot_requests.specs.Window.{Requests, is_open, gap_of}
use Rattle.boot_requests.proofs.WholeRuns.Gaps.{gap_is, gap_one}
use Rattle.boot_requests.proofs.WholeRuns.NextNumbers.{accepted_open, gap_closed, gap_of_none, gap_kept}
use Rattle.boot_requests.proofs.WholeRuns.Numbers.{get_inserted}
use Rattle.boot_requests.proofs.WholeRuns.Told.{IsToldNear, IsToldNew, by_answer}
use Rattle.boot_updates.specs.NextNumber.{next_told, next_after}

-- ---- a request comes

module _ (start : State) (run : List Seen) (number : ℕ) (request : Request) where
  abbrev first : ℕ
  first = start.next_number

  abbrev old : Requests
  old = accepted_requests first run

  abbrev gap : ℕ
  gap = gap_at first run

  abbrev longer : List Seen
  longer = Came number request ∷ run

  abbrev after : ℕ
  after = gap_at first longer

  abbrev m : State
  m = state_at start run

  -- one of another number than the next leaves the gap
  gap_stays : number ≢ gap → gap ≡ after
  gap_stays apart = elim (cases_Bool (is_open old gap number)) [
    | inl t ↦
        let joined : Requests = insert old number request in
        let at = gap_is first old in
        let other : eqb gap number ≡ false = grind (arith, nat_tests, apart) in
        sym (
        ap (gap_of first) (accepted_open first run number request t)
        ∙ gap_one first joined _ _ (gap_is first joined) (record {
          from = at.from;
          filled = λ q from below. ap is_some (get_inserted old number request q) ∙ still q (at.filled q from below);
          free = get_inserted old number request gap ∙ ap (λ b. cond b (Some request) (get old gap)) other ∙ at.free;
        })
        )
    | inr t ↦ sym (gap_closed first run number request t)
  ]
    where
      still : (q : ℕ) → contains_key old q ≡ true → is_some (cond (eqb q number) (Some request) (get old q)) ≡ true
      still q held = elim (eqb q number) as (λ b. is_some (cond b (Some request) (get old q)) ≡ true) [ true ↦ refl | false ↦ held ]

  -- one of the next number is applied
  applied : (answer : Reply) → number ≡ gap → IsReplyTo m old gap after number request answer → answer ≡ reply.Applied (outcome_of m request) after
  applied answer at told =
      let late : ltb number gap ≡ false = grind (arith, nat_tests, at) in
      let near : leb width (number - gap) ≡ false = grind (arith, nat_tests, at) in
      let same : eqb number gap ≡ true = grind (arith, nat_tests, at) in
      let none : get old number ≡ None = ap (get old) at ∙ (gap_is first old).free in
      let new : IsToldNew m gap after number request (get old number) answer =
      subst (λ b. MatchBool b (answer ≡ again (kept_outcome m number)) (IsToldNew m gap after number request (get old number) answer)) late told in
      let close : IsToldNear m gap after number request (get old number) answer =
      subst (λ b. MatchBool b (answer ≡ reply.Ahead gap) (IsToldNear m gap after number request (get old number) answer)) near new in
      let is : answer ≡ (if eqb number gap then reply.Applied (outcome_of m request) after else reply.Waiting gap) =
      subst (λ o. IsToldNear m gap after number request o answer) none close in
      is ∙ ap (λ b. if b then reply.Applied (outcome_of m request) after else reply.Waiting gap) same

  again_keeps : (o : Option Outcome) → next_told gap (again o) ≡ gap
  again_keeps None = refl
  again_keeps (Some outcome) = refl

  came_next : (answer : Reply) → IsReplyTo m old gap after number request answer → next_told gap answer ≡ after
  came_next answer told = elim (cases_Bool (eqb number gap)) [
    | inl t ↦ ap (next_told gap) (applied answer (eqb-true number gap t) told)
    | inr t ↦
        let apart : number ≢ gap = grind (arith, nat_tests, t) in
        let stays = gap_stays apart in
        by_answer m old gap after number request answer (next_told gap answer ≡ after)
        (λ e. ap (next_told gap) e ∙ again_keeps (kept_outcome m number) ∙ stays) (λ e. ap (next_told gap) e ∙ stays) (λ none at e. absurd (apart at))
        (λ e. ap (next_told gap) e ∙ stays) (λ e. ap (next_told gap) e ∙ stays) told
  ]

-- ---- all that happens

prepared_keeps : (start : State) (run : List Seen) (answer : Reply) (before : ℕ) (armed : Bool) →
    MatchBool armed (answer ≡ reply.AlreadyPrepared) ((plan : PlanParts) × HasPlanOf (state_at start run) plan
    × (answer ≡ reply.Prepared (choice_count plan))) →
    next_told before answer ≡ before
prepared_keeps start run answer before true told = ap (next_told before) told
prepared_keeps start run answer before false told = ap (next_told before) told.2

hand_keeps : (before : ℕ) (plan : Option PlanParts) → next_told before (reply_to_hand plan) ≡ before
hand_keeps before None = refl
hand_keeps before (Some plan) = refl

pub told_next : (start : State) (run : List Seen) (seen : Seen) (answer : Reply) → IsReply start run seen answer →
    next_told (gap_at start.next_number run) answer ≡ gap_at start.next_number (seen ∷ run)
told_next start run (Came number request) answer told = came_next start run number request answer told
told_next start run (Malformed fault) answer told = ap (next_told (gap_at start.next_number run)) told
told_next start run Prepare answer told = prepared_keeps start run answer (gap_at start.next_number run) (is_armed run) told
told_next start run Hand answer told =
    ap (next_told (gap_at start.next_number run)) told.2 ∙ hand_keeps (gap_at start.next_number run) told.0
told_next start run Restart answer told =
    ap (next_told (gap_at start.next_number run)) told ∙ sym (gap_kept start.next_number (accepted_requests start.next_number run))

pub all_told : (start : State) (seen run : List Seen) (answers : List Answer) → AreAnswers start run seen (replies_of answers) →
    fold next_after (gap_at start.next_number run) answers ≡ gap_at start.next_number (run_followed_by run seen)
all_told start [] run [] told = refl
all_told start [] run (answer ∷ answers) told = absurd cc
all_told start (one ∷ seen) run [] told = absurd told
all_told start (one ∷ seen) run (answer ∷ answers) told =
    ap (λ n. fold next_after n answers) (told_next start run one answer.reply told.0) ∙ all_told start seen (one ∷ run) answers told.1

-- the same from the start of a run on
pub next_is_gap : (start : State) (seen : List Seen) (answers : List Answer) (from next : ℕ) → from ≡ start.next_number →
    AreAnswers start [] seen (replies_of answers) → next ≡ fold next_after from answers → next ≡ gap_at start.next_number (run_followed_by [] seen)
next_is_gap start seen answers from next at told is =
    is ∙ ap (λ n. fold next_after n answers) (at ∙ sym (gap_of_none start.next_number)) ∙ all_told start seen [] answers told
