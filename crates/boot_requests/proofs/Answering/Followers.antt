-- The requests that follow one without a gap: each of their outcomes is kept.
--
-- The state keeps the outcomes of its newest numbers, at most `kept_max` of them, in the order of the numbers. Three
-- steps lead to `turn_there`. First counting (`grown`): over each list of changes as many outcomes more are kept as
-- requests are applied, up to that most, so that each number near enough below the next one has its outcome (`is_kept`).
-- Then the reply: only a request with the next number, under which nothing waited, is answered with Applied and the next
-- number after it. Last, these two together: what is applied in the same turn after the event's own request are the
-- requests that waited, fewer than `kept_max`, so the outcomes of their numbers are all there. `outcomes_last` makes the
-- list that a caller collects them in longer, one at a time.
use Rattle.std.proofs.Common.{◌≡◌, ◌≢◌, ◌⊎◌, inl, inr, ℕ, zero, suc, ◌+◌, ◌-◌, ◌<◌, ◌≤◌, min, ltb, leb, eqb, true, false, List, [], ◌∷◌}
use Rattle.std.proofs.Common.{◌++◌, map, length, Option, Some, None, refl, sym, ap, subst, ◌∙◌, arith}
use Rattle.std.specs.Prelude.{MatchBool, MatchOption, IfSome, IsSome, is_some, slice_get, nat_lt, if◌then◌else◌}
use Rattle.std.specs.FinMap.{get, insert}
use Rattle.std.proofs.lemmas.Bool.{le-ltb}
use Rattle.std.proofs.lemmas.Bool.Decides.{nat_tests}
use Rattle.std.proofs.lemmas.List.{length-append, length-drop, map-append}
use Rattle.boot_requests.specs.declared.request.Request.{Request}
use Rattle.boot_requests.specs.declared.outcome.Outcome.{Outcome}
use Rattle.boot_requests.specs.declared.reply.Reply.{Reply}
use Rattle.boot_requests.specs.declared.reply.Reply.TheVariants as reply
use Rattle.boot_requests.specs.Limits.{width, kept_max}
use Rattle.boot_requests.specs.Frame.{IsSent}
use Rattle.boot_requests.specs.State.{State}
use Rattle.boot_requests.specs.Apply.{outcome_of, effect, kept_with, after_request, after_boot, HasPlanOf}
use Rattle.uefi_vars.specs.Plan.{PlanParts}
use Rattle.boot_requests.specs.Seen.{Seen, Came, Malformed, Prepare, Hand, Restart}
use Rattle.boot_requests.specs.Window.{Requests, gap_of}
use Rattle.boot_requests.specs.Changes.{Change, Applies, Boots, changes_between, after_changes, numbers_from}
use Rattle.boot_requests.specs.Answer.{IsReplyTo, again, kept_outcome, choice_count, reply_to_hand}
use Rattle.boot_requests.specs.Turn.{Plain, after_delivery, Turn}
use Rattle.boot_requests.specs.Keeper.{AreWaiting}
use Rattle.boot_requests.proofs.WholeRuns.Gaps.{gap_is}
use Rattle.boot_requests.proofs.WholeRuns.NextNumbers.{effect_kept, after_request_number}
use Rattle.boot_requests.proofs.Variables.Stored.{request_here, request_apart}
use Rattle.boot_requests.proofs.Turn.Fills.{settled_state_number}
use Rattle.boot_requests.proofs.Turn.Steps.{moved_to}
use Rattle.boot_requests.specs.Followers.{AreThere, AreOutcomes}

-- ---- outcomes that are kept

kept_len : (kept : List Outcome) (outcome : Outcome) → length (kept_with kept outcome) ≡ min kept_max (length kept + 1)
kept_len kept outcome =
    let all = kept ++ outcome ∷ [] in
    omega (arith, length-drop (length all - kept_max) all, length-append kept (outcome ∷ []))

request_kept : (m : State) (request : Request) → length (after_request m request).kept ≡ min kept_max (length m.kept + 1)
request_kept m request =
    kept_len (effect m request (outcome_of m request)).kept (outcome_of m request)
    ∙ ap (λ (kept : List Outcome). min kept_max (length kept + 1)) (effect_kept m request (outcome_of m request))

-- so many requests were applied from the one state to the other, and as many outcomes more are kept, or the most
record IsGrown (m n : State) : Type 0 where
  count : ℕ
  number : n.next_number ≡ m.next_number + count
  kept : min kept_max (length m.kept + count) ≤ length n.kept

grown : (m : State) (changes : List Change) → IsGrown m (after_changes m changes)
grown m [] = record { count = 0; number = omega arith; kept = omega arith }
grown m (Applies number request ∷ changes) =
    let rest = grown (after_request m request) changes in
    record {
      count = rest.count + 1;
      number = omega (arith, rest.number, after_request_number m request);
      kept = omega (arith, rest.kept, request_kept m request);
    }
grown m (Boots ∷ changes) =
    let rest = grown (after_boot m) changes in
    record { count = rest.count; number = rest.number; kept = rest.kept }

some_within : {A : Type 0} (xs : List A) (i : ℕ) → i < length xs → is_some (slice_get xs i) ≡ true
some_within [] i l = absurd (omega (arith, l))
some_within (x ∷ xs) zero l = refl
some_within (x ∷ xs) (suc i) l = some_within xs i (omega (arith, l))

-- the outcome of a number is kept if as many are as there are numbers from it to the next one
is_kept : (m : State) (number : ℕ) → m.next_number ≤ number + length m.kept → number < m.next_number → IsSome (kept_outcome m number)
is_kept m number from below =
    let oldest : ℕ = m.next_number - length m.kept in
    let late : nat_lt number oldest ≡ false = le-ltb number oldest (omega (arith, from)) in
    ap (λ b. is_some (if b then None else slice_get m.kept (number - oldest))) late
    ∙ some_within m.kept (number - oldest) (omega (arith, from, below))

-- ---- a list of outcomes, one by one

numbers_last : (first count : ℕ) → numbers_from first (suc count) ≡ numbers_from first count ++ (first + count) ∷ []
numbers_last first zero = ap (λ (n : ℕ). n ∷ []) (omega arith)
numbers_last first (suc count) =
    ap (λ (ns : List ℕ). first ∷ ns)
    (numbers_last (suc first) count ∙ ap (λ (n : ℕ). numbers_from (suc first) count ++ n ∷ []) (omega arith))

pub outcomes_last : (m : State) (first number : ℕ) (outcomes : List Outcome) (outcome : Outcome) → AreOutcomes m first number outcomes →
    kept_outcome m number ≡ Some outcome → AreOutcomes m first (number + 1) (outcomes ++ outcome ∷ [])
outcomes_last m first number outcomes outcome are is = record {
  len = omega (arith, len, are.len);
  kept =
      ap (λ (n : ℕ). map (kept_outcome m) (numbers_from first n)) one_more
      ∙ ap (map (kept_outcome m)) (numbers_last first (length outcomes))
      ∙ map-append (kept_outcome m) (numbers_from first (length outcomes)) ((first + length outcomes) ∷ [])
      ∙ ap (λ (l : List (Option Outcome)). l ++ kept_outcome m (first + length outcomes) ∷ []) are.kept
      ∙ ap (λ (o : Option Outcome). map Some outcomes ++ o ∷ []) (ap (kept_outcome m) are.len ∙ is)
      ∙ sym (map-append (λ (o : Outcome). Some o) outcomes (outcome ∷ []));
}
  where
    len : length (outcomes ++ outcome ∷ []) ≡ length outcomes + 1
    len = length-append outcomes (outcome ∷ [])

    one_more : length (outcomes ++ outcome ∷ []) ≡ suc (length outcomes)
    one_more = omega (arith, len)

-- ---- a request that is answered Applied

not_again : (o : Option Outcome) (outcome : Outcome) (next : ℕ) → reply.Applied outcome next ≡ again o → ⊥
not_again None outcome next e = cc
not_again (Some other) outcome next e = cc

-- it had the next number, under which none waited, and the reply tells the next number after it
module _ (m : State) (requests : Requests) (gap after number next : ℕ) (request : Request) (outcome : Outcome) where
  abbrev answer : Reply
  answer = reply.Applied outcome next

  abbrev Found : Type 0
  Found = (number ≡ gap) × (get requests number ≡ None) × (next ≡ after)

  abbrev Held : Option Request → Type 0
  Held o =
      MatchOption o
      (answer ≡ (if eqb number gap then reply.Applied (outcome_of m request) after else reply.Waiting gap))
      (λ other. ((other ≢ request) × (answer ≡ reply.Conflict)) ⊎ ((other ≡ request) × (answer ≡ reply.Waiting gap)))

  found : get requests number ≡ None → Held None → Found
  found none = elim (eqb number gap) as (λ b. eqb number gap ≡ b →
      answer ≡ (if b then reply.Applied (outcome_of m request) after else reply.Waiting gap) → Found) [
        | true ↦ λ t h. let last : next ≡ after = cc in (grind (arith, nat_tests, t), none, last)
        | false ↦ λ t h. absurd (let no = h in cc)
      ] refl

  applied_next : IsReplyTo m requests gap after number request answer → Found
  applied_next =
      elim (ltb number gap) as (λ b. MatchBool b (answer ≡ again (kept_outcome m number))
      (MatchBool (leb width (number - gap)) (answer ≡ reply.Ahead gap) (Held (get requests number))) → Found) [
        | true ↦ λ h. absurd (not_again (kept_outcome m number) outcome next h)
        | false ↦ elim (leb width (number - gap)) as (λ b. MatchBool b (answer ≡ reply.Ahead gap) (Held (get requests number)) → Found) [
          | true ↦ λ h. absurd (let no : answer ≡ reply.Ahead gap = h in cc)
          | false ↦ elim (get requests number) as (λ o. get requests number ≡ o → Held o → Found) [
            | None ↦ λ none h. found none h
            | Some other ↦ λ held h. absurd (elim h [
              | inl conflict ↦ (let no : answer ≡ reply.Conflict = conflict.1 in cc)
              | inr waits ↦ (let no : answer ≡ reply.Waiting gap = waits.1 in cc)
            ])
          ] refl
        ]
      ]

-- ---- those that follow it

module _ (m : State) (waiting : Requests) (request : Request) (waits : AreWaiting m.next_number waiting) where
  abbrev joined : Requests
  joined = insert waiting m.next_number request

  abbrev after : ℕ
  after = gap_of m.next_number joined

  beyond : m.next_number < after
  beyond = less (gap_is m.next_number joined).from (λ same. clash
      (sym (request_here waiting m.next_number request) ∙ ap (get joined) same ∙ (gap_is m.next_number joined).free))
    where
      less : m.next_number ≤ after → m.next_number ≢ after → m.next_number < after
      less l apart = omega (arith, l, apart)

      clash : ◌≡◌ {A = Option Request} (Some request) None → ⊥
      clash e = cc

  -- they aren't more than can wait
  near : after ≤ m.next_number + width
  near = elim (ltb (m.next_number + width) after) as (λ b. ltb (m.next_number + width) after ≡ b → after ≤ m.next_number + width) [
    | true ↦ λ t.
        let past : ℕ = m.next_number + width in
        let less : past < after = grind (arith, nat_tests, t) in
        let there : is_some (get joined past) ≡ true = (gap_is m.next_number joined).filled past (omega arith) less in
        let same : get joined past ≡ get waiting past = request_apart waiting m.next_number request past (λ e. omega (arith, e)) in
        absurd (too_far (get waiting past) (sym (ap is_some same) ∙ there) (waits past))
    | false ↦ λ t. grind (arith, nat_tests, t)
  ] refl
    where
      too_far : (o : Option Request) → is_some o ≡ true →
          IfSome o (λ r. (m.next_number < m.next_number + width) × (m.next_number + width < m.next_number + width) × IsSent (m.next_number + width) r) → ⊥
      too_far None some h = cc
      too_far (Some r) some h = omega (arith, h.1)

  abbrev left : State
  left = after_changes m (changes_between m.next_number after joined)

  all_kept : (n : ℕ) → m.next_number < n → n < after → IsSome (kept_outcome left n)
  all_kept n above below =
      let more = grown m (changes_between m.next_number after joined) in
      let next : left.next_number ≡ after = settled_state_number m joined in
      is_kept left n (omega (arith, more.number, more.kept, next, near, above)) (omega (arith, next, below))

applied_there : (k to : Plain) (number next : ℕ) (request : Request) (outcome : Outcome) → AreWaiting k.state.next_number k.waiting →
    Turn k (Came number request) to (reply.Applied outcome next) → AreThere k.state.next_number to.state (reply.Applied outcome next)
applied_there k to number next request outcome waits turn =
    let m = k.state in
    let told = applied_next m k.waiting m.next_number (after_delivery k number request).state.next_number number next request outcome turn.1 in
    let none : get k.waiting m.next_number ≡ None = subst (λ (n : ℕ). get k.waiting n ≡ None) told.0 told.1 in
    let moved = moved_to k number request told.0 none in
    let last : next ≡ gap_of m.next_number (insert k.waiting m.next_number request) =
    told.2 ∙ ap (λ (p : Plain). p.state.next_number) moved ∙ settled_state_number m (insert k.waiting m.next_number request) in
    let state = ap (λ (p : Plain). p.state) (turn.0 ∙ moved) in
    subst (λ (s : State). AreThere m.next_number s (reply.Applied outcome next)) (sym state) (
      subst (λ (n : ℕ). m.next_number < n) (sym last) (beyond m k.waiting request waits),
      λ n above below. all_kept m k.waiting request waits n above (subst (λ (l : ℕ). n < l) last below),
    )

-- after a turn the outcomes of what was applied after the event's own request are kept
pub turn_there : (k to : Plain) (seen : Seen) (answer : Reply) → AreWaiting k.state.next_number k.waiting → Turn k seen to answer →
    AreThere k.state.next_number to.state answer
turn_there k to seen (reply.Applied outcome next) waits turn = by_seen seen turn
  where
    by_seen : (s : Seen) → Turn k s to (reply.Applied outcome next) → AreThere k.state.next_number to.state (reply.Applied outcome next)
    by_seen (Came number request) h = applied_there k to number next request outcome waits h
    by_seen (Malformed fault) h = absurd (let no = h.1 in cc)
    by_seen Prepare h = prepared k.plan h
      where
        prepared : (found : Option PlanParts) →
            MatchOption found
            ((plan : PlanParts) × HasPlanOf k.state plan × (to ≡ record k { state = after_boot k.state; plan = Some plan })
            × (reply.Applied outcome next ≡ reply.Prepared (choice_count plan)))
            (λ _. (to ≡ k) × (reply.Applied outcome next ≡ reply.AlreadyPrepared)) → AreThere k.state.next_number to.state (reply.Applied outcome next)
        prepared None g = absurd (let no = g.3 in cc)
        prepared (Some plan) g = absurd (let no = g.1 in cc)
    by_seen Hand h = handed k.plan h.1
      where
        handed : (found : Option PlanParts) → reply.Applied outcome next ≡ reply_to_hand found →
            AreThere k.state.next_number to.state (reply.Applied outcome next)
        handed None g = absurd (let no = g in cc)
        handed (Some plan) g = absurd (let no = g in cc)
    by_seen Restart h = absurd (let no = h.1 in cc)
turn_there k to seen _ waits turn = tt
