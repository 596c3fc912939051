-- A digest is noted of each request that a run applied: what is accepted from the gap on waits with a digest of its number,
-- and those that were applied have the numbers from the first one to below the gap (`Counted`). An event keeps that so
-- (`counted_next`), and so do all (`all_counted`).
use Rattle.std.proofs.Common.{◌≡◌, ◌≢◌, inl, inr, ℕ, zero, suc, ltb, leb, eqb, ◌+◌, ◌-◌, ◌<◌, ◌≤◌, Bool, true, false, cond, List, [], ◌∷◌, ◌++◌, map}
use Rattle.std.proofs.Common.{Option, Some, None, refl, sym, ap, subst, ◌∙◌, arith}
use Rattle.std.specs.Prelude.{◌&&◌, not, is_some, nat_le, if◌then◌else◌, MatchBool}
use Rattle.std.specs.Ordering.{nat_cmp}
use Rattle.std.specs.FinMap.{get, contains_key, retain_keys, get-empty}
use Rattle.std.specs.List.{AllByRecursion, find}
use Rattle.std.specs.Option.{option_map}
use Rattle.std.proofs.lemmas.Bool.Decides.{nat_tests}
use Rattle.std.proofs.lemmas.Bool.{cases_Bool, false≢true, and_parts}
use Rattle.std.proofs.lemmas.List.{map-append}
use Rattle.boot_requests.specs.declared.answer.Answer.{Answer}
use Rattle.boot_requests.specs.declared.event.Event.{Event}
use Rattle.boot_requests.specs.declared.event.Event.TheVariants as event
use Rattle.boot_requests.specs.declared.outcome.Outcome.{Outcome}
use Rattle.boot_requests.specs.declared.reply.Reply.{Reply}
use Rattle.boot_requests.specs.declared.reply.Reply.TheVariants as reply
use Rattle.boot_requests.specs.declared.request.Request.{Request}
use Rattle.boot_requests.specs.Answer.{IsReplyTo, again, kept_outcome}
use Rattle.boot_requests.specs.Answering.{replies_of, requests_of}
use Rattle.boot_requests.specs.Apply.{outcome_of}
use Rattle.boot_requests.specs.Changes.{numbers_from, numbers_in}
use Rattle.boot_requests.specs.Followers.{request_of}
use Rattle.boot_requests.specs.Limits.{width}
use Rattle.boot_requests.specs.Reply.{IsReply, AreAnswers}
use Rattle.boot_requests.specs.Run.{accepted_requests, gap_at, history, state_at, run_followed_by}
use Rattle.boot_requests.specs.Seen.{Seen, Came, Malformed, Prepare, Hand, Restart, IsSeen, AreSeen}
use Rattle.boot_requests.specs.State.{State}
use Rattle.boot_requests.specs.Window.{Requests, is_open}
use Rattle.boot_requests.proofs.WholeRuns.Gaps.{gap_is, gap_one}
use Rattle.boot_requests.proofs.WholeRuns.Histories.{history_numbers}
use Rattle.boot_requests.proofs.WholeRuns.NextNumbers.{some_of, accepted_open, accepted_closed, gap_closed, gap_kept, gap_of_none}
use Rattle.boot_requests.proofs.WholeRuns.Numbers.{get_inserted, get_retained}
use Rattle.boot_requests.proofs.WholeRuns.Told.{IsToldNear, IsToldNew}
use Rattle.boot_notes.specs.declared.digest.FrameDigest.{FrameDigest}
use Rattle.boot_notes.specs.Digest.{digest_under, frame_digest}
use Rattle.journaled_requests.specs.Applied.{SentFrames, sent_of, with_waiting, found_under, followers_of, still_waiting, with_frame}
use Rattle.journaled_requests.specs.Applied.{with_delivery, with_answer, after_answers}
use Rattle.journaled_requests.specs.Noted.{IsOfAccepted}
use Rattle.journaled_requests.proofs.Noted.{Fit, under_waiting, came_extends, came_open, opens, applies, below_after, fit_next}

-- ---- whether a digest of a number is there

abbrev is_under : List FrameDigest → ℕ → Bool
is_under digests q = is_some (digest_under digests q)

under_first : (kept : FrameDigest) (digests : List FrameDigest) (q : ℕ) → is_under (kept ∷ digests) q ≡ cond (eqb kept.number q) true (is_under digests q)
under_first kept digests q =
    elim (eqb kept.number q) as (λ b. is_some (option_map (λ (other : FrameDigest). other.digest)
    (cond b (Some kept) (first_of digests))) ≡ cond b true (is_under digests q))
    [ true ↦ refl | false ↦ refl ]
  where
    first_of : List FrameDigest → Option FrameDigest
    first_of list = find (λ (other : FrameDigest). eqb other.number q) list

under_append : (xs ys : List FrameDigest) (q : ℕ) → is_under (xs ++ ys) q ≡ cond (is_under xs q) true (is_under ys q)
under_append [] ys q = refl
under_append (x ∷ xs) ys q =
    under_first x (xs ++ ys) q ∙ ap (λ b. cond (eqb x.number q) true b) (under_append xs ys q)
    ∙ elim (eqb x.number q) as (λ b. cond b true (cond (is_under xs q) true (is_under ys q)) ≡ cond (cond b true (is_under xs q)) true (is_under ys q))
    [ true ↦ refl | false ↦ refl ]
    ∙ ap (λ b. cond b true (is_under ys q)) (sym (under_first x xs q))

-- one more waits: what was there still is, and the new one
waits_still : (waiting : List FrameDigest) (frame : FrameDigest) (q : ℕ) → is_under waiting q ≡ true → is_under (with_waiting waiting frame) q ≡ true
waits_still waiting frame q h =
    elim (is_under waiting frame.number) as (λ b. is_under (if b then waiting else waiting ++ frame ∷ []) q ≡ true) [
      | true ↦ h
      | false ↦ under_append waiting (frame ∷ []) q ∙ ap (λ b. cond b true (is_under (frame ∷ []) q)) h
    ]

waits_now : (waiting : List FrameDigest) (frame : FrameDigest) → is_under (with_waiting waiting frame) frame.number ≡ true
waits_now waiting frame =
    elim (is_under waiting frame.number) as (λ b.
    is_under waiting frame.number ≡ b → is_under (if b then waiting else waiting ++ frame ∷ []) frame.number ≡ true) [
      | true ↦ λ e. e
      | false ↦ λ e.
          let here : eqb frame.number frame.number ≡ true = grind (arith, nat_tests) in
          under_append waiting (frame ∷ []) frame.number ∙ ap (λ b. cond b true (is_under (frame ∷ []) frame.number)) e
          ∙ under_first frame [] frame.number ∙ ap (λ b. cond b true false) here
    ] refl

-- those from the next number on still wait
still_there : (next q : ℕ) (waiting : List FrameDigest) → next ≤ q → is_under (still_waiting next waiting) q ≡ is_under waiting q
still_there next q [] l = refl
still_there next q (x ∷ xs) l = elim (cases_Bool (nat_le next x.number)) [
  | inl t ↦
      ap (λ b. is_under (cond b (x ∷ still_waiting next xs) (still_waiting next xs)) q) t ∙ under_first x (still_waiting next xs) q
      ∙ ap (λ b. cond (eqb x.number q) true b) (still_there next q xs l) ∙ sym (under_first x xs q)
  | inr t ↦
      let apart : eqb x.number q ≡ false = grind (arith, nat_tests, t, l) in
      ap (λ b. is_under (cond b (x ∷ still_waiting next xs) (still_waiting next xs)) q) t ∙ still_there next q xs l
      ∙ sym (under_first x xs q ∙ ap (λ b. cond b true (is_under xs q)) apart)
]

-- ---- numbers

abbrev numbers_of : List FrameDigest → List ℕ
numbers_of digests = map (λ (kept : FrameDigest). kept.number) digests

numbers_join : (first a b : ℕ) → numbers_from first a ++ numbers_from (first + a) b ≡ numbers_from first (a + b)
numbers_join first zero b =
    let all : b ≡ zero + b = omega arith in
    let at : first + zero ≡ first = omega arith in
    ap (λ n. numbers_from n b) at ∙ ap (λ n. numbers_from first n) all
numbers_join first (suc a) b =
    let all : suc (a + b) ≡ suc a + b = omega arith in
    let at : first + suc a ≡ suc first + a = omega arith in
    ap (λ ns. first ∷ ns) (ap (λ n. numbers_from (suc first) a ++ numbers_from n b) at ∙ numbers_join (suc first) a b) ∙ ap (λ n. numbers_from first n) all

-- if each number has a digest, all follow
followers_numbers : (waiting : List FrameDigest) (count first : ℕ) → ((q : ℕ) → first ≤ q → q < first + count → is_under waiting q ≡ true) →
    numbers_of (followers_of waiting first count) ≡ numbers_from first count
followers_numbers waiting zero first held = refl
followers_numbers waiting (suc count) first held =
    let here = some_of (digest_under waiting first) (held first (omega arith) (omega arith)) in
    ap (λ (o : Option (List ℕ)). numbers_of (found_under first o ++ followers_of waiting (suc first) count)) here.1
    ∙ ap (λ (ns : List ℕ). first ∷ ns) (followers_numbers waiting count (suc first) (λ q from below. held q (omega arith) (omega arith)))

-- if the first number has none, and the others have
followers_after : (waiting : List FrameDigest) (first next : ℕ) → first < next → digest_under waiting first ≡ None →
    ((q : ℕ) → first < q → q < next → is_under waiting q ≡ true) →
    numbers_of (followers_of waiting first (next - first)) ≡ numbers_from (suc first) (next - suc first)
followers_after waiting first next below none held =
    let count : next - first ≡ suc (next - suc first) = omega arith in
    ap (λ n. numbers_of (followers_of waiting first n)) count
    ∙ ap (λ (o : Option (List ℕ)). numbers_of (found_under first o ++ followers_of waiting (suc first) (next - suc first))) none
    ∙ followers_numbers waiting (next - suc first) (suc first) (λ q from less. held q (omega arith) (omega arith))

-- ---- a request comes

none_of : (requests : Requests) (q : ℕ) → contains_key requests q ≡ false → get requests q ≡ None
none_of requests q h = elim (get requests q) as (λ o. is_some o ≡ false → o ≡ None) [
  | None ↦ λ e. refl
  | Some other ↦ λ e. absurd (false≢true (sym e))
] h

module _ (start : State) (run : List Seen) (number : ℕ) (request : Request) where
  abbrev first : ℕ
  first = start.next_number

  abbrev old : Requests
  old = accepted_requests first run

  abbrev new : Requests
  new = accepted_requests first (Came number request ∷ run)

  abbrev gap : ℕ
  gap = gap_at first run

  abbrev after : ℕ
  after = gap_at first (Came number request ∷ run)

  abbrev near_reply : Reply
  near_reply = if eqb number gap then reply.Applied (outcome_of (state_at start run) request) after else reply.Waiting gap

  -- one whose number is open is applied, or waits
  told_open : (answer : Reply) → is_open old gap number ≡ true → IsReplyTo (state_at start run) old gap after number request answer → answer ≡ near_reply
  told_open answer t told =
      let parts : (not (contains_key old number) ≡ true) × ((leb gap number && ltb (number - gap) width) ≡ true) = and_parts _ _ t in
      let around : (leb gap number ≡ true) × (ltb (number - gap) width ≡ true) = and_parts _ _ parts.1 in
      let lacks : contains_key old number ≡ false = free (contains_key old number) parts.0 in
      let none : get old number ≡ None = none_of old number lacks in
      let low : ltb number gap ≡ false = grind (arith, nat_tests, around.0) in
      let near : leb width (number - gap) ≡ false = grind (arith, nat_tests, around.1) in
      let late = subst (λ b. MatchBool b (Again answer) (IsToldNew (state_at start run) gap after number request (get old number) answer)) low told in
      let here = subst (λ b. MatchBool b (answer ≡ reply.Ahead gap)
      (IsToldNear (state_at start run) gap after number request (get old number) answer)) near late in
      subst (λ (o : Option Request). IsToldNear (state_at start run) gap after number request o answer) none here
    where
      free : (b : Bool) → not b ≡ true → b ≡ false
      free true e = absurd (false≢true e)
      free false e = refl

      Again : Reply → Type 0
      Again answer = answer ≡ again (kept_outcome (state_at start run) number)

  -- so one that is told otherwise isn't open
  quiet : (answer : Reply) → ((next : ℕ) → answer ≢ reply.Waiting next) → ((outcome : Outcome) (next : ℕ) → answer ≢ reply.Applied outcome next) →
      IsReplyTo (state_at start run) old gap after number request answer → is_open old gap number ≡ false
  quiet answer no_wait no_outcome told = elim (cases_Bool (is_open old gap number)) [
    | inl t ↦ absurd (neither (eqb number gap) (told_open answer t told))
    | inr t ↦ t
  ]
    where
      neither : (b : Bool) → answer ≡ (if b then reply.Applied (outcome_of (state_at start run) request) after else reply.Waiting gap) → ⊥
      neither true e = no_outcome _ _ e
      neither false e = no_wait _ e

  -- one that is told to wait leaves the gap where it is
  wait_gap : (next : ℕ) → IsReplyTo (state_at start run) old gap after number request (reply.Waiting next) → after ≡ gap
  wait_gap next told = elim (cases_Bool (is_open old gap number)) [
    | inl t ↦ stays t (apart (eqb number gap) refl (told_open (reply.Waiting next) t told))
    | inr t ↦ gap_closed first run number request t
  ]
    where
      apart : (b : Bool) → eqb number gap ≡ b →
          reply.Waiting next ≡ (if b then reply.Applied (outcome_of (state_at start run) request) after else reply.Waiting gap) → eqb gap number ≡ false
      apart true is e = absurd cc
      apart false is e = grind (arith, nat_tests, is)

      stays : is_open old gap number ≡ true → eqb gap number ≡ false → after ≡ gap
      stays t off =
          let at = gap_is first old in
          gap_one first new after gap (gap_is first new) (record {
            from = at.from;
            filled = λ q from below.
                let here = some_of (get old q) (at.filled q from below) in
                ap is_some (came_extends start run number request q here.0 here.1);
            free =
                ap (λ (m : Requests). get m gap) (accepted_open first run number request t) ∙ get_inserted old number request gap
                ∙ ap (λ b. cond b (Some request) (get old gap)) off ∙ at.free;
          })

  -- what is accepted besides it was accepted before
  others : (q : ℕ) → q ≢ number → contains_key new q ≡ true → contains_key old q ≡ true
  others q apart has = elim (cases_Bool (is_open old gap number)) [
    | inl t ↦
        let off : eqb q number ≡ false = grind (arith, nat_tests, apart) in
        let same : get new q ≡ get old q =
        ap (λ (m : Requests). get m q) (accepted_open first run number request t) ∙ get_inserted old number request q
        ∙ ap (λ b. cond b (Some request) (get old q)) off in
        ap is_some (sym same) ∙ has
    | inr t ↦ ap (λ (m : Requests). contains_key m q) (sym (accepted_closed first run number request t)) ∙ has
  ]

-- ---- all that happens

-- those that were applied have the numbers up to the gap, and each that is accepted from there on waits with a digest
pub record Counted (start : State) (run : List Seen) (sent : SentFrames) : Type 0 where
  pub numbers : numbers_of sent.applied ≡ numbers_from start.next_number (gap_at start.next_number run - start.next_number)
  pub held : (q : ℕ) → gap_at start.next_number run ≤ q → contains_key (accepted_requests start.next_number run) q ≡ true → is_under sent.waiting q ≡ true

module _ (start : State) where
  abbrev begin : ℕ
  begin = start.next_number

  counts_to : ℕ → List FrameDigest → Type 0
  counts_to gap applied = numbers_of applied ≡ numbers_from begin (gap - begin)

  quiet_kept : (run : List Seen) (number : ℕ) (request : Request) (sent : SentFrames) →
      is_open (accepted_requests begin run) (gap_at begin run) number ≡ false →
      Counted start run sent → Counted start (Came number request ∷ run) sent
  quiet_kept run number request sent closed h =
      let same = accepted_closed begin run number request closed in
      let gap = gap_closed begin run number request closed in
      record {
        numbers = h.numbers ∙ ap (λ n. numbers_from begin (n - begin)) (sym gap);
        held = λ q from has. h.held q (omega (arith, gap, from)) (ap (λ (m : Requests). contains_key m q) (sym same) ∙ has);
      }

  waiting_counted : (run : List Seen) (number : ℕ) (request : Request) (next : ℕ) (frame : FrameDigest) (sent : SentFrames) → frame.number ≡ number →
      IsReply start run (Came number request) (reply.Waiting next) → Counted start run sent →
      Counted start (Came number request ∷ run) (record sent { waiting = with_waiting sent.waiting frame })
  waiting_counted run number request next frame sent is told h =
      let gap = wait_gap start run number request next told in
      record {
        numbers = h.numbers ∙ ap (λ n. numbers_from begin (n - begin)) (sym gap);
        held = λ q from has. elim (cases_Bool (eqb q number)) [
          | inl t ↦
              let here : frame.number ≡ q = grind (arith, nat_tests, t, is) in
              subst (λ n. is_under (with_waiting sent.waiting frame) n ≡ true) here (waits_now sent.waiting frame)
          | inr t ↦
              let apart : q ≢ number = λ same. grind (arith, nat_tests, t, same) in
              waits_still sent.waiting frame q (h.held q (omega (arith, gap, from)) (others start run number request q apart has))
        ];
      }

  applied_counted : (run : List Seen) (number : ℕ) (request : Request) (outcome : Outcome) (next : ℕ) (frame : FrameDigest) (sent : SentFrames) →
      frame.number ≡ number → IsReply start run (Came number request) (reply.Applied outcome next) → Fit start run sent → Counted start run sent →
      Counted start (Came number request ∷ run) (record {
        waiting = still_waiting next sent.waiting;
        applied = sent.applied ++ (frame ∷ followers_of sent.waiting frame.number (next - frame.number));
      })
  applied_counted run number request outcome next frame sent is told fit h =
      let old : Requests = accepted_requests begin run in
      let gap : ℕ = gap_at begin run in
      let after : ℕ = gap_at begin (Came number request ∷ run) in
      let low : begin ≤ gap = (gap_is begin old).from in
      let parts = applies start run number request outcome next told in
      let at : number ≡ gap = parts.0 in
      let last : next ≡ after = parts.2 in
      let taken = came_open start run number request (opens start run number request parts.1 (omega (arith, at)) (omega (arith, at))) in
      let below : number < after = below_after start run number request taken at in
      let here : frame.number ≡ gap = is ∙ at in
      let none : digest_under sent.waiting frame.number ≡ None = unheld sent.waiting fit.waiting frame.number (ap (get old) is ∙ parts.1) in
      let filled = (gap_is begin (accepted_requests begin (Came number request ∷ run))).filled in
      let behind : numbers_of (followers_of sent.waiting frame.number (next - frame.number)) ≡ numbers_from (suc frame.number) (next - suc frame.number) =
      followers_after sent.waiting frame.number next (omega (arith, is, below, last)) none (λ q from less.
      h.held q (omega (arith, here, from))
      (others start run number request q (λ same. omega (arith, same, is, from)) (filled q (omega (arith, here, from, low)) (omega (arith, less, last))))) in
      let first_at : frame.number ≡ begin + (gap - begin) = omega (arith, here, low) in
      let one : (gap - begin) + suc (next - suc frame.number) ≡ after - begin = omega (arith, here, low, last, below, is) in
      record {
        numbers =
            map-append (λ (kept : FrameDigest). kept.number) sent.applied (frame ∷ followers_of sent.waiting frame.number (next - frame.number))
            ∙ ap (λ (ns : List ℕ). ns ++ (frame.number ∷ numbers_of (followers_of sent.waiting frame.number (next - frame.number)))) h.numbers
            ∙ ap (λ (ns : List ℕ). numbers_from begin (gap - begin) ++ (frame.number ∷ ns)) behind
            ∙ ap (λ n. numbers_from begin (gap - begin) ++ numbers_from n (suc (next - suc frame.number))) first_at
            ∙ numbers_join begin (gap - begin) (suc (next - suc frame.number)) ∙ ap (λ n. numbers_from begin n) one;
        held = λ q from has.
            still_there next q sent.waiting (omega (arith, from, last))
            ∙ h.held q (omega (arith, from, below, at)) (others start run number request q (λ same. omega (arith, same, from, below)) has);
      }
    where
      unheld : (waiting : List FrameDigest) → AllByRecursion (IsOfAccepted (accepted_requests begin run)) waiting → (q : ℕ) →
          get (accepted_requests begin run) q ≡ None → digest_under waiting q ≡ None
      unheld waiting all q none =
          elim (digest_under waiting q) as (λ o. digest_under waiting q ≡ o → o ≡ None) [
            | None ↦ λ e. refl
            | Some digest ↦ λ e.
                let of = under_waiting (accepted_requests begin run) waiting all q digest e in
                absurd (let clash : Some of.request ≡ None = sym of.accepted ∙ none in cc)
          ] refl

  frame_counted : (run : List Seen) (bytes : List ℕ) (number : ℕ) (request : Request) (answer : Reply) (sent : SentFrames) →
      IsReply start run (Came number request) answer → Fit start run sent → Counted start run sent →
      Counted start (Came number request ∷ run) (with_frame sent (frame_digest number bytes) answer)
  frame_counted run bytes number request (reply.Waiting next) sent told fit h =
      waiting_counted run number request next (frame_digest number bytes) sent refl told h
  frame_counted run bytes number request (reply.Applied outcome next) sent told fit h =
      applied_counted run number request outcome next (frame_digest number bytes) sent refl told fit h
  frame_counted run bytes number request _ sent told fit h =
      quiet_kept run number request sent (quiet start run number request _ (λ next e. cc) (λ outcome next e. cc) told) h

  counted_next : (run : List Seen) (happened : Event) (seen : Seen) (answer : Answer) (sent : SentFrames) → IsSeen happened seen →
      IsReply start run seen answer.reply → answer.request ≡ request_of seen → Fit start run sent → Counted start run sent →
      Counted start (seen ∷ run) (with_answer sent happened answer)
  counted_next run (event.Deliver bytes) (Came number request) answer sent read told named fit h =
      subst (λ (o : Option ℕ). Counted start (Came number request ∷ run) (with_delivery sent bytes o answer.reply)) (sym named)
      (frame_counted run bytes number request answer.reply sent told fit h)
  counted_next run (event.Deliver bytes) (Malformed fault) answer sent read told named fit h =
      subst (λ (o : Option ℕ). Counted start (Malformed fault ∷ run) (with_delivery sent bytes o answer.reply)) (sym named)
      (record { numbers = h.numbers; held = h.held })
  counted_next run event.Prepare Prepare answer sent read told named fit h = record { numbers = h.numbers; held = h.held }
  counted_next run event.Hand Hand answer sent read told named fit h = record { numbers = h.numbers; held = h.held }
  counted_next run event.Restart Restart answer sent read told named fit h =
      let requests : Requests = accepted_requests begin run in
      let gap : ℕ = gap_at begin run in
      let same = gap_kept begin requests in
      record {
        numbers = h.numbers ∙ ap (λ n. numbers_from begin (n - begin)) (sym same);
        held = λ q from has.
            let no : ltb q gap ≡ false = grind (arith, nat_tests, from, same) in
            let none : get (retain_keys requests (λ number. ltb number gap)) q ≡ None =
            get_retained requests (λ number. ltb number gap) q ∙ ap (λ b. cond b (get requests q) None) no in
            absurd (false≢true (ap is_some (sym none) ∙ has));
      }
  counted_next run _ _ answer sent read told named fit h = absurd read

  all_from : (events : List Event) (seen : List Seen) (answers : List Answer) (run : List Seen) (sent : SentFrames) → AreSeen events seen →
      AreAnswers start run seen (replies_of answers) → requests_of answers ≡ map request_of seen → Fit start run sent → Counted start run sent →
      Counted start (run_followed_by run seen) (after_answers sent events answers)
  all_from [] [] answers run sent read told named fit h = h
  all_from (happened ∷ events) (one ∷ seen) [] run sent read told named fit h = absurd told
  all_from (happened ∷ events) (one ∷ seen) (answer ∷ answers) run sent read told named fit h =
      let here : answer.request ≡ request_of one = cc in
      let rest : requests_of answers ≡ map request_of seen = cc in
      all_from events seen answers (one ∷ run) (with_answer sent happened answer) read.1 told.1 rest
      (fit_next start run happened one answer sent read.0 told.0 here fit) (counted_next run happened one answer sent read.0 told.0 here fit h)
  all_from _ _ answers run sent read told named fit h = absurd read

  at_start : Counted start [] (sent_of [] [])
  at_start =
      let none = gap_of_none begin in
      let no : zero ≡ gap_at begin [] - begin = omega (arith, none) in
      record {
        numbers = ap (λ n. numbers_from begin n) no;
        held = λ q from has. absurd (false≢true (ap is_some (sym (get-empty nat_cmp q)) ∙ has));
      }

  pub all_counted : (events : List Event) (seen : List Seen) (answers : List Answer) → AreSeen events seen →
      AreAnswers start [] seen (replies_of answers) → requests_of answers ≡ map request_of seen →
      numbers_of (after_answers (sent_of [] []) events answers).applied ≡ numbers_in (history begin (run_followed_by [] seen))
  all_counted events seen answers read told named =
      (all_from events seen answers [] (sent_of [] []) read told named (record { waiting = tt; applied = tt }) at_start).numbers
      ∙ sym (history_numbers begin (run_followed_by [] seen))
