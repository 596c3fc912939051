-- What a run notes is of what it applied: each frame that waits is accepted above the gap, and each that was applied below it
-- (`Fit`). An event keeps that so (`fit_next`), and so do all (`all_fit`).
use Rattle.std.proofs.Common.{◌≡◌, ◌≢◌, ◌⊎◌, inl, inr, ℕ, zero, suc, ltb, leb, eqb, ◌+◌, ◌-◌, ◌<◌, ◌≤◌, Bool, true, false, cond, List, []}
use Rattle.std.proofs.Common.{◌∷◌, ◌++◌, filter, map}
use Rattle.std.proofs.Common.{Option, Some, None, refl, sym, ap, subst, ◌∙◌, arith}
use Rattle.std.specs.Prelude.{◌&&◌, not, is_some, nat_le, if◌then◌else◌, MatchBool, MatchOption}
use Rattle.std.specs.FinMap.{get, contains_key}
use Rattle.std.specs.List.{AllByRecursion, find}
use Rattle.std.specs.Option.{option_map}
use Rattle.std.proofs.lemmas.Bool.Decides.{nat_tests}
use Rattle.std.proofs.lemmas.Bool.{cases_Bool, cases_lt, eqb-true, and_parts}
use Rattle.std.proofs.lemmas.List.Elements.{recursion_from_All, All-from_recursion, All-filter}
use Rattle.uefi_vars.proofs.Bytes.{AllByRecursion-append}
use Rattle.boot_requests.specs.declared.answer.Answer.{Answer}
use Rattle.boot_requests.specs.declared.event.Event.{Event}
use Rattle.boot_requests.specs.declared.event.Event.TheVariants as event
use Rattle.boot_requests.specs.declared.outcome.Outcome.{Outcome}
use Rattle.boot_requests.specs.declared.reply.Reply.{Reply}
use Rattle.boot_requests.specs.declared.reply.Reply.TheVariants as reply
use Rattle.boot_requests.specs.declared.request.Request.{Request}
use Rattle.boot_requests.specs.Answer.{IsReplyTo, again, kept_outcome}
use Rattle.boot_requests.specs.Answering.{replies_of, requests_of}
use Rattle.boot_requests.specs.Apply.{outcome_of}
use Rattle.boot_requests.specs.Followers.{request_of}
use Rattle.boot_requests.specs.Frame.{SpellsFrame}
use Rattle.boot_requests.specs.Limits.{width}
use Rattle.boot_requests.specs.Reply.{IsReply, AreAnswers}
use Rattle.boot_requests.specs.Run.{accepted_requests, gap_at, state_at, run_followed_by}
use Rattle.boot_requests.specs.Seen.{Seen, Came, Malformed, Prepare, Hand, Restart, IsSeen, AreSeen}
use Rattle.boot_requests.specs.State.{State}
use Rattle.boot_requests.specs.Window.{Requests, is_open}
use Rattle.boot_requests.proofs.WholeRuns.Gaps.{gap_is}
use Rattle.boot_requests.proofs.WholeRuns.NextNumbers.{some_of, accepted_open, accepted_closed, gap_kept}
use Rattle.boot_requests.proofs.WholeRuns.Numbers.{get_inserted, get_retained}
use Rattle.boot_requests.proofs.WholeRuns.Told.{by_answer}
use Rattle.boot_notes.specs.declared.digest.FrameDigest.{FrameDigest}
use Rattle.boot_notes.specs.Digest.{digest_under, frame_digest}
use Rattle.journaled_requests.specs.Applied.{SentFrames, with_waiting, found_under, followers_of, still_waiting, with_frame, with_delivery, with_answer, after_answers}
use Rattle.journaled_requests.specs.Noted.{IsOfAccepted, IsOfAppliedBelow}

-- ---- what is accepted stays so

-- all that the one has, the other has
abbrev pub Extends : Requests → Requests → Type 0
Extends requests more = (q : ℕ) (request : Request) → get requests q ≡ Some request → get more q ≡ Some request

still_accepted : (requests more : Requests) → Extends requests more → (kept : FrameDigest) → IsOfAccepted requests kept → IsOfAccepted more kept
still_accepted requests more extends kept h =
    record { bytes = h.bytes; request = h.request; spelled = h.spelled; is = h.is; accepted = extends kept.number h.request h.accepted }

all_accepted : (requests more : Requests) → Extends requests more → (list : List FrameDigest) → AllByRecursion (IsOfAccepted requests) list →
    AllByRecursion (IsOfAccepted more) list
all_accepted requests more extends [] h = tt
all_accepted requests more extends (kept ∷ list) h = (still_accepted requests more extends kept h.0, all_accepted requests more extends list h.1)

all_applied : (requests more : Requests) (gap after : ℕ) → Extends requests more → gap ≤ after → (list : List FrameDigest) →
    AllByRecursion (IsOfAppliedBelow requests gap) list → AllByRecursion (IsOfAppliedBelow more after) list
all_applied requests more gap after extends rises [] h = tt
all_applied requests more gap after extends rises (kept ∷ list) h = (
  record { of = still_accepted requests more extends kept h.0.of; below = let less = h.0.below in omega (arith, less, rises) },
  all_applied requests more gap after extends rises list h.1,
)

-- ---- what waits under a number

pub under_waiting : (requests : Requests) (waiting : List FrameDigest) → AllByRecursion (IsOfAccepted requests) waiting → (q : ℕ) (digest : List ℕ) →
    digest_under waiting q ≡ Some digest → IsOfAccepted requests (record { number = q; digest = digest })
under_waiting requests [] h q digest found = absurd (let clash : false ≡ true = ap is_some found in cc)
under_waiting requests (kept ∷ waiting) h q digest found =
    elim (eqb kept.number q) as (λ b.
    eqb kept.number q ≡ b → option_of (cond b (Some kept) (first_of waiting)) ≡ Some digest → IsOfAccepted requests (record { number = q; digest = digest })) [
      | true ↦ λ t e.
          let at : kept.number ≡ q = eqb-true kept.number q t in
          let same : kept.digest ≡ digest = cc in
          subst (IsOfAccepted requests) (λ i. record { number = at i; digest = same i }) h.0
      | false ↦ λ t e. under_waiting requests waiting h.1 q digest e
    ] refl found
  where
    first_of : List FrameDigest → Option FrameDigest
    first_of list = find (λ (other : FrameDigest). eqb other.number q) list

    option_of : Option FrameDigest → Option (List ℕ)
    option_of o = option_map (λ (other : FrameDigest). other.digest) o

followers_fit : (requests : Requests) (gap : ℕ) (waiting : List FrameDigest) → AllByRecursion (IsOfAccepted requests) waiting → (count first : ℕ) →
    first + count ≤ gap → AllByRecursion (IsOfAppliedBelow requests gap) (followers_of waiting first count)
followers_fit requests gap waiting h zero first within = tt
followers_fit requests gap waiting h (suc count) first within =
    let rest : AllByRecursion (IsOfAppliedBelow requests gap) (followers_of waiting (suc first) count) =
    followers_fit requests gap waiting h count (suc first) (omega (arith, within)) in
    elim (digest_under waiting first) as (λ o.
    digest_under waiting first ≡ o → AllByRecursion (IsOfAppliedBelow requests gap) (found_under first o ++ followers_of waiting (suc first) count)) [
      | None ↦ λ e. rest
      | Some digest ↦ λ e. (record { of = under_waiting requests waiting h first digest e; below = omega (arith, within) }, rest)
    ] refl

still_fit : (requests : Requests) (next : ℕ) (waiting : List FrameDigest) → AllByRecursion (IsOfAccepted requests) waiting →
    AllByRecursion (IsOfAccepted requests) (still_waiting next waiting)
still_fit requests next waiting h =
    let late : FrameDigest → Bool = λ frame. nat_le next frame.number in
    recursion_from_All (IsOfAccepted requests) (filter late waiting)
    (All-filter late (IsOfAccepted requests) waiting (All-from_recursion (IsOfAccepted requests) waiting h))

waiting_fit : (requests : Requests) (waiting : List FrameDigest) (frame : FrameDigest) → AllByRecursion (IsOfAccepted requests) waiting →
    IsOfAccepted requests frame → AllByRecursion (IsOfAccepted requests) (with_waiting waiting frame)
waiting_fit requests waiting frame h one =
    elim (is_some (digest_under waiting frame.number)) as (λ b. AllByRecursion (IsOfAccepted requests) (if b then waiting else waiting ++ frame ∷ [])) [
      | true ↦ h
      | false ↦ AllByRecursion-append (IsOfAccepted requests) waiting (frame ∷ []) h (one, tt)
    ]

-- ---- a request comes

module _ (start : State) (run : List Seen) (number : ℕ) (request : Request) where
  abbrev pub first : ℕ
  first = start.next_number

  abbrev pub old : Requests
  old = accepted_requests first run

  abbrev pub new : Requests
  new = accepted_requests first (Came number request ∷ run)

  abbrev pub gap : ℕ
  gap = gap_at first run

  abbrev pub after : ℕ
  after = gap_at first (Came number request ∷ run)

  pub came_extends : Extends old new
  came_extends q other held = elim (cases_Bool (is_open old gap number)) [
    | inl t ↦
        ap (λ (m : Requests). get m q) (accepted_open first run number request t) ∙ get_inserted old number request q
        ∙ elim (eqb q number) as (λ b. eqb q number ≡ b → cond b (Some request) (get old q) ≡ Some other) [
          | true ↦ λ e. absurd (taken t (eqb-true q number e))
          | false ↦ λ e. held
        ] refl
    | inr t ↦ ap (λ (m : Requests). get m q) (accepted_closed first run number request t) ∙ held
  ]
    where
      taken : is_open old gap number ≡ true → q ≡ number → ⊥
      taken t at =
          let lacks : not (contains_key old number) ≡ true = (and_parts _ _ t).0 in
          let has : contains_key old number ≡ true = ap is_some (ap (get old) (sym at) ∙ held) in
          let clash : false ≡ true = sym (ap not has) ∙ lacks in
          cc

  -- each number below the gap is still accepted, and that above it isn't
  pub gap_rises : gap ≤ after
  gap_rises = elim (cases_lt after gap) [
    | inl l ↦
        let from = gap_is first old in
        let to = gap_is first new in
        let held = some_of (get old after) (from.filled after to.from l) in
        absurd (let clash : Some held.0 ≡ None = sym (came_extends after held.0 held.1) ∙ to.free in cc)
    | inr l ↦ l
  ]

  pub came_open : is_open old gap number ≡ true → get new number ≡ Some request
  came_open t =
      let here : eqb number number ≡ true = grind (arith, nat_tests) in
      ap (λ (m : Requests). get m number) (accepted_open first run number request t) ∙ get_inserted old number request number
      ∙ ap (λ b. cond b (Some request) (get old number)) here

  pub opens : get old number ≡ None → gap ≤ number → number < gap + width → is_open old gap number ≡ true
  opens none low near =
      let lacks : contains_key old number ≡ false = ap is_some none in
      let from : leb gap number ≡ true = grind (arith, nat_tests, low) in
      let close : ltb (number - gap) width ≡ true = grind (arith, nat_tests, low, near) in
      ap (λ b. not b && (leb gap number && ltb (number - gap) width)) lacks ∙ ap (λ b. b && ltb (number - gap) width) from ∙ close

  -- one that is told to wait is accepted
  waits : (next : ℕ) → IsReplyTo (state_at start run) old gap after number request (reply.Waiting next) → get new number ≡ Some request
  waits next told =
      elim (ltb number gap) as (λ b. ltb number gap ≡ b → MatchBool b Again (Late (get old number)) → get new number ≡ Some request) [
        | true ↦ λ t e. absurd (not_again (kept_outcome (state_at start run) number) e)
        | false ↦ λ t. elim (leb width (number - gap)) as (λ b.
            leb width (number - gap) ≡ b → MatchBool b (reply.Waiting next ≡ reply.Ahead gap) (Near (get old number)) → get new number ≡ Some request) [
              | true ↦ λ u e. absurd cc
              | false ↦ λ u. elim (get old number) as (λ o. get old number ≡ o → Near o → get new number ≡ Some request) [
                | None ↦ λ none e.
                    let low : gap ≤ number = grind (arith, nat_tests, t) in
                    let near : number < gap + width = grind (arith, nat_tests, t, u) in
                    came_open (opens none low near)
                | Some other ↦ λ held e. elim e [
                  | inl conflict ↦ absurd (let clash = conflict.1 in cc)
                  | inr same ↦ came_extends number request (held ∙ ap (λ (r : Request). Some r) same.0)
                ]
              ] refl
            ] refl
      ] refl told
    where
      Again : Type 0
      Again = reply.Waiting next ≡ again (kept_outcome (state_at start run) number)

      Near : Option Request → Type 0
      Near found =
          MatchOption found
          (reply.Waiting next ≡ (if eqb number gap then reply.Applied (outcome_of (state_at start run) request) after else reply.Waiting gap))
          (λ other. ((other ≢ request) × (reply.Waiting next ≡ reply.Conflict)) ⊎ ((other ≡ request) × (reply.Waiting next ≡ reply.Waiting gap)))

      Late : Option Request → Type 0
      Late found = MatchBool (leb width (number - gap)) (reply.Waiting next ≡ reply.Ahead gap) (Near found)

      not_again : (o : Option Outcome) → reply.Waiting next ≡ again o → ⊥
      not_again None e = cc
      not_again (Some outcome) e = cc

  -- one that is told to be applied had the next number
  pub applies : (outcome : Outcome) (next : ℕ) → IsReplyTo (state_at start run) old gap after number request (reply.Applied outcome next) →
      (number ≡ gap) × (get old number ≡ None) × (next ≡ after)
  applies outcome next =
      by_answer (state_at start run) old gap after number request (reply.Applied outcome next) ((number ≡ gap) × (get old number ≡ None) × (next ≡ after))
      (λ e. absurd (not_again (kept_outcome (state_at start run) number) e)) (λ e. absurd cc)
      (λ none here e. let last : next ≡ after = cc in (here, none, last)) (λ e. absurd cc) (λ e. absurd cc)
    where
      not_again : (o : Option Outcome) → reply.Applied outcome next ≡ again o → ⊥
      not_again None e = cc
      not_again (Some other) e = cc

  pub below_after : get new number ≡ Some request → number ≡ gap → number < after
  below_after held at =
      let free : get new after ≡ None = (gap_is first new).free in
      let apart : number ≢ after = λ same. (let clash : Some request ≡ None = sym held ∙ ap (get new) same ∙ free in cc) in
      grind (arith, gap_rises, at, apart)

-- ---- all that happens

-- the frames that wait and those that were applied are of what was accepted
pub record Fit (start : State) (run : List Seen) (sent : SentFrames) : Type 0 where
  pub waiting : AllByRecursion (IsOfAccepted (accepted_requests start.next_number run)) sent.waiting
  pub applied : AllByRecursion (IsOfAppliedBelow (accepted_requests start.next_number run) (gap_at start.next_number run)) sent.applied

module _ (start : State) where
  came_kept : (run : List Seen) (number : ℕ) (request : Request) (sent : SentFrames) → Fit start run sent → Fit start (Came number request ∷ run) sent
  came_kept run number request sent h = record {
    waiting = all_accepted _ _ (came_extends start run number request) sent.waiting h.waiting;
    applied = all_applied _ _ _ _ (came_extends start run number request) (gap_rises start run number request) sent.applied h.applied;
  }

  frame_next : (run : List Seen) (bytes : List ℕ) (number : ℕ) (request : Request) (answer : Reply) (sent : SentFrames) → SpellsFrame bytes number request →
      IsReply start run (Came number request) answer → Fit start run sent →
      Fit start (Came number request ∷ run) (with_frame sent (frame_digest number bytes) answer)
  frame_next run bytes number request (reply.Waiting next) sent spelled told h =
      let kept = came_kept run number request sent h in
      let one : IsOfAccepted (accepted_requests start.next_number (Came number request ∷ run)) (frame_digest number bytes) =
      record { bytes = bytes; request = request; spelled = spelled; is = refl; accepted = waits start run number request next told } in
      record { waiting = waiting_fit _ sent.waiting (frame_digest number bytes) kept.waiting one; applied = kept.applied }
  frame_next run bytes number request (reply.Applied outcome next) sent spelled told h =
      let kept = came_kept run number request sent h in
      let is = applies start run number request outcome next told in
      let at : number ≡ gap_at start.next_number run = is.0 in
      let held = came_open start run number request (opens start run number request is.1 (omega (arith, at)) (omega (arith, at))) in
      let below = below_after start run number request held at in
      let one : IsOfAccepted (accepted_requests start.next_number (Came number request ∷ run)) (frame_digest number bytes) =
      record { bytes = bytes; request = request; spelled = spelled; is = refl; accepted = held } in
      record {
        waiting = still_fit _ next sent.waiting kept.waiting;
        applied = AllByRecursion-append _ sent.applied _ kept.applied (
          record { of = one; below = below },
          followers_fit _ _ sent.waiting kept.waiting (next - number) number (omega (arith, is.2, below)),
        );
      }
  frame_next run bytes number request _ sent spelled told h = came_kept run number request sent h

  pub fit_next : (run : List Seen) (happened : Event) (seen : Seen) (answer : Answer) (sent : SentFrames) → IsSeen happened seen →
      IsReply start run seen answer.reply → answer.request ≡ request_of seen → Fit start run sent → Fit start (seen ∷ run) (with_answer sent happened answer)
  fit_next run (event.Deliver bytes) (Came number request) answer sent read told named h =
      subst (λ (o : Option ℕ). Fit start (Came number request ∷ run) (with_delivery sent bytes o answer.reply)) (sym named)
      (frame_next run bytes number request answer.reply sent read told h)
  fit_next run (event.Deliver bytes) (Malformed fault) answer sent read told named h =
      subst (λ (o : Option ℕ). Fit start (Malformed fault ∷ run) (with_delivery sent bytes o answer.reply)) (sym named)
      (record { waiting = h.waiting; applied = h.applied })
  fit_next run event.Prepare Prepare answer sent read told named h = record { waiting = h.waiting; applied = h.applied }
  fit_next run event.Hand Hand answer sent read told named h = record { waiting = h.waiting; applied = h.applied }
  fit_next run event.Restart Restart answer sent read told named h = record { waiting = tt; applied = restarted sent.applied h.applied }
    where
      first : ℕ
      first = start.next_number

      restarted : (list : List FrameDigest) → AllByRecursion (IsOfAppliedBelow (accepted_requests first run) (gap_at first run)) list →
          AllByRecursion (IsOfAppliedBelow (accepted_requests first (Restart ∷ run)) (gap_at first (Restart ∷ run))) list
      restarted [] g = tt
      restarted (kept ∷ list) g = (
        record {
          of = record {
            bytes = g.0.of.bytes;
            request = g.0.of.request;
            spelled = g.0.of.spelled;
            is = g.0.of.is;
            accepted =
                let below = g.0.below in
                let yes : ltb kept.number (gap_at first run) ≡ true = grind (arith, nat_tests, below) in
                get_retained (accepted_requests first run) (λ number. ltb number (gap_at first run)) kept.number
                ∙ ap (λ b. cond b (get (accepted_requests first run) kept.number) None) yes ∙ g.0.of.accepted;
          };
          below = let below = g.0.below in omega (arith, below, gap_kept first (accepted_requests first run));
        },
        restarted list g.1,
      )
  fit_next run _ _ answer sent read told named h = absurd read

  pub all_fit : (events : List Event) (seen : List Seen) (answers : List Answer) (run : List Seen) (sent : SentFrames) → AreSeen events seen →
      AreAnswers start run seen (replies_of answers) → requests_of answers ≡ map request_of seen → Fit start run sent →
      Fit start (run_followed_by run seen) (after_answers sent events answers)
  all_fit [] [] answers run sent read told named h = h
  all_fit (happened ∷ events) (one ∷ seen) [] run sent read told named h = absurd told
  all_fit (happened ∷ events) (one ∷ seen) (answer ∷ answers) run sent read told named h =
      let here : answer.request ≡ request_of one = cc in
      let rest : requests_of answers ≡ map request_of seen = cc in
      all_fit events seen answers (one ∷ run) (with_answer sent happened answer) read.1 told.1 rest (fit_next run happened one answer sent read.0 told.0 here h)
  all_fit _ _ answers run sent read told named h = absurd read
