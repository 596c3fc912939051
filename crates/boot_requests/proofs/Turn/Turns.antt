-- A turn of the plain state that stands for a run leads to the one that stands for the longer run, with its reply.
use Rattle.std.proofs.Common.{◌≡◌, ℕ, ltb, ◌≤◌, Bool, true, false, cond, List, [], ◌∷◌, ◌++◌, Option, Some, None, refl, sym, ap, subst, ◌∙◌, arith}
use Rattle.std.specs.Prelude.{MatchBool, if◌then◌else◌}
use Rattle.std.specs.Ordering.{nat_cmp}
use Rattle.std.specs.FinMap.{empty, get, insert, retain_keys, get-empty}
use Rattle.std.proofs.lemmas.Bool.Decides.{nat_tests}
use Rattle.std.proofs.lemmas.List.{append-nil}
use Rattle.uefi_vars.specs.Plan.{PlanParts}
use Rattle.boot_requests.specs.declared.request.Request.{Request}
use Rattle.boot_requests.specs.declared.reply.Reply.{Reply}
use Rattle.boot_requests.specs.declared.reply.Reply.TheVariants as reply
use Rattle.boot_requests.specs.declared.fault.FrameFault.{FrameFault}
use Rattle.boot_requests.specs.State.{State}
use Rattle.boot_requests.specs.Apply.{after_boot, HasPlanOf}
use Rattle.boot_requests.specs.Seen.{Seen, Came, Malformed, Prepare, Hand, Restart}
use Rattle.boot_requests.specs.Window.{Requests, gap_of, is_open}
use Rattle.boot_requests.specs.Changes.{Change, Boots, changes_between, after_changes}
use Rattle.boot_requests.specs.Run.{accepted_requests, gap_at, is_armed, before_taken, history, state_at, IsPending}
use Rattle.boot_requests.specs.Answer.{IsReplyTo, again, kept_outcome}
use Rattle.boot_requests.specs.Reply.{IsReply}
use Rattle.boot_requests.specs.Turn.{Plain, plain_start, settled_state, after_delivery, Turn}
use Rattle.boot_requests.specs.Keeper.{StandsFor}
use Rattle.boot_requests.proofs.WholeRuns.Numbers.{get_retained, same_numbers}
use Rattle.boot_requests.proofs.WholeRuns.Gaps.{gap_is}
use Rattle.boot_requests.proofs.WholeRuns.Deliveries.{above_gap, get_waiting, open_waiting, waiting_behind}
use Rattle.boot_requests.proofs.WholeRuns.NextNumbers.{after_changes-append, accepted_open, gap_open, new_changes_open, accepted_closed, gap_closed}
use Rattle.boot_requests.proofs.WholeRuns.NextNumbers.{history_closed, gap_kept, state_number}
use Rattle.boot_requests.proofs.WholeRuns.Told.{IsToldNew, IsToldOfBoot, Prepares}

-- what comes leaves the plan
pending_came : (start : State) (run : List Seen) (number : ℕ) (request : Request) (plan : Option PlanParts) →
    IsPending start run plan → IsPending start (Came number request ∷ run) plan
pending_came start run number request None h = h
pending_came start run number request (Some plan) h = h

pending_malformed : (start : State) (run : List Seen) (fault : FrameFault) (plan : Option PlanParts) →
    IsPending start run plan → IsPending start (Malformed fault ∷ run) plan
pending_malformed start run fault None h = h
pending_malformed start run fault (Some plan) h = h

module _ (k : Plain) (start : State) (run : List Seen) (s : StandsFor k start run) where
  abbrev first : ℕ
  first = start.next_number

  abbrev before : Requests
  before = accepted_requests first run

  abbrev gap : ℕ
  gap = gap_at first run

  -- the next number is the gap
  pub next_is : k.state.next_number ≡ gap
  next_is = ap (λ (m : State). m.next_number) s.state ∙ state_number start run

  same_state : (changes : List Change) → changes ≡ [] → after_changes start (history first run ++ changes) ≡ state_at start run
  same_state changes none =
      ap (λ (more : List Change). after_changes start (history first run ++ more)) none ∙ ap (after_changes start) (append-nil (history first run))

  module _ (number : ℕ) (request : Request) where
    abbrev longer : List Seen
    longer = Came number request ∷ run

    abbrev joined : Requests
    joined = insert (above_gap before gap) number request

    pub opens_alike : is_open k.waiting k.state.next_number number ≡ is_open before gap number
    opens_alike =
        ap (λ (w : Requests). is_open w k.state.next_number number) s.waiting
        ∙ ap (λ (c : ℕ). is_open (above_gap before gap) c number) next_is
        ∙ open_waiting before gap (gap_is first before).free number

    settled_state_stands : is_open before gap number ≡ true → StandsFor (settled_state k (insert k.waiting number request)) start longer
    settled_state_stands t = record {
      state =
          ap (λ (w : Requests).
          let all = insert w number request in after_changes k.state (changes_between k.state.next_number (gap_of k.state.next_number all) all)) s.waiting
          ∙ ap (λ (c : ℕ). after_changes k.state (changes_between c (gap_of c joined) joined)) next_is
          ∙ ap (λ (m : State). after_changes m (changes_between gap (gap_of gap joined) joined)) s.state
          ∙ sym (after_changes-append start (history first run) (changes_between gap (gap_of gap joined) joined))
          ∙ sym (ap (λ (changes : List Change). after_changes start (history first run ++ changes)) (new_changes_open first run number request t));
      waiting =
          ap (λ (w : Requests). let all = insert w number request in above_gap all (gap_of k.state.next_number all)) s.waiting
          ∙ ap (λ (c : ℕ). above_gap joined (gap_of c joined)) next_is
          ∙ waiting_behind first gap before (gap_is first before) number request (gap_of gap joined) (gap_is gap joined).from
          ∙ sym (ap (λ (w : Requests). above_gap w (gap_of gap joined)) (accepted_open first run number request t))
          ∙ sym (ap (above_gap (accepted_requests first longer)) (gap_open first run number request t));
      plan = pending_came start run number request k.plan s.plan;
    }

    left_stands : is_open before gap number ≡ false → StandsFor k start longer
    left_stands t = record {
      state = s.state ∙ sym (ap (after_changes start) (history_closed first run number request t));
      waiting =
          s.waiting ∙ sym (ap (λ (w : Requests). above_gap w gap) (accepted_closed first run number request t))
          ∙ sym (ap (above_gap (accepted_requests first longer)) (gap_closed first run number request t));
      plan = pending_came start run number request k.plan s.plan;
    }

    pub after_delivery_stands : StandsFor (after_delivery k number request) start longer
    after_delivery_stands =
        subst Stands (sym opens_alike)
        (elim (is_open before gap number) as (λ b. is_open before gap number ≡ b → Stands b) [ true ↦ settled_state_stands | false ↦ left_stands ] refl)
      where
        Stands : Bool → Type 0
        Stands b = StandsFor (if b then settled_state k (insert k.waiting number request) else k) start longer

    -- what waits is asked for numbers from the gap on alone
    reply_of_accepted : (m : State) (after : ℕ) (answer : Reply) → IsReplyTo m (above_gap before gap) gap after number request answer →
        IsReplyTo m before gap after number request answer
    reply_of_accepted m after answer =
        elim (ltb number gap) as (λ b. ltb number gap ≡ b →
        MatchBool b (answer ≡ again (kept_outcome m number)) (IsToldNew m gap after number request (get (above_gap before gap) number) answer) →
        MatchBool b (answer ≡ again (kept_outcome m number)) (IsToldNew m gap after number request (get before number) answer)) [
          | true ↦ λ t h. h
          | false ↦ λ t h.
              let l : gap ≤ number = grind (arith, nat_tests, t) in
              subst (λ (o : Option Request). IsToldNew m gap after number request o answer) (get_waiting before gap (gap_is first before).free number l) h
        ] refl

    pub after_delivery_reply : (answer : Reply) →
        IsReplyTo k.state k.waiting k.state.next_number (after_delivery k number request).state.next_number number request answer →
        IsReply start run (Came number request) answer
    after_delivery_reply answer h =
        let after = ap (λ (m : State). m.next_number) after_delivery_stands.state ∙ state_number start longer in
        reply_of_accepted (state_at start run) (gap_at first longer) answer
        (subst (Told (state_at start run) (above_gap before gap) gap) after
        (subst (λ (c : ℕ). Told (state_at start run) (above_gap before gap) c next) next_is
        (subst (λ (w : Requests). Told (state_at start run) w k.state.next_number next) s.waiting
        (subst (λ (m : State). Told m k.waiting k.state.next_number next) s.state h))))
      where
        next : ℕ
        next = (after_delivery k number request).state.next_number

        Told : State → Requests → ℕ → ℕ → Type 0
        Told m requests from to = IsReplyTo m requests from to number request answer

  -- ---- boots

  module _ (armed : is_armed run ≡ false) (plan : PlanParts) (has : HasPlanOf k.state plan) where
    pub taken_stands : StandsFor (record k { state = after_boot k.state; plan = Some plan }) start (Prepare ∷ run)
    taken_stands = record {
      state =
          ap after_boot s.state ∙ sym (after_changes-append start (history first run) (Boots ∷ []))
          ∙ sym (ap (λ b. after_changes start (history first run ++ (if b then [] else Boots ∷ []))) armed);
      waiting = s.waiting;
      plan = (
        refl,
        subst (λ b. HasPlanOf (state_at start (if b then before_taken run else run)) plan) (sym armed) (subst (λ (m : State). HasPlanOf m plan) s.state has),
      );
    }

  module _ (armed : is_armed run ≡ true) where
    pub kept_stands : (plan : PlanParts) → k.plan ≡ Some plan → StandsFor k start (Prepare ∷ run)
    kept_stands plan is = record {
      state = s.state ∙ sym (same_state (if is_armed run then [] else Boots ∷ []) (ap (λ b. if b then [] else Boots ∷ []) armed));
      waiting = s.waiting;
      plan =
          rw is (
            refl,
            subst (λ b. HasPlanOf (state_at start (if b then before_taken run else run)) plan) (sym armed) (subst (IsPending start run) is s.plan).1,
          );
    }

  forgets : empty ≡ above_gap (retain_keys before (λ number. ltb number gap)) (gap_of first (retain_keys before (λ number. ltb number gap)))
  forgets = same_numbers _ _ (λ q.
      get-empty nat_cmp q ∙ sym (get_retained _ (λ number. ltb (gap_of first (retain_keys before (λ number. ltb number gap))) number) q
      ∙ ap (λ (g : ℕ). cond (ltb g q) (get (retain_keys before (λ number. ltb number gap)) q) None) (gap_kept first before)
      ∙ ap (λ (o : Option Request). cond (ltb gap q) o None) (get_retained before (λ number. ltb number gap) q)
      ∙ neither (get before q) q))
    where
      neither : (o : Option Request) (q : ℕ) → cond (ltb gap q) (cond (ltb q gap) o None) None ≡ None
      neither o q = elim (ltb gap q) as (λ b. ltb gap q ≡ b → cond b (cond (ltb q gap) o None) None ≡ None) [
        | true ↦ λ t. let no : ltb q gap ≡ false = grind (arith, nat_tests, t) in ap (λ b. cond b o None) no
        | false ↦ λ t. refl
      ] refl

  pub restarted_stands : StandsFor (plain_start k.state) start (Restart ∷ run)
  restarted_stands = record { state = s.state ∙ sym (same_state [] refl); waiting = forgets; plan = refl }

  pub hand_stands : StandsFor (record k { plan = None }) start (Hand ∷ run)
  hand_stands = record { state = s.state ∙ sym (same_state [] refl); waiting = s.waiting; plan = refl }

  pub malformed_stands : (fault : FrameFault) → StandsFor k start (Malformed fault ∷ run)
  malformed_stands fault = record {
    state = s.state ∙ sym (same_state [] refl);
    waiting = s.waiting;
    plan = pending_malformed start run fault k.plan s.plan;
  }

  prepared_goes_on : (found : Option PlanParts) → k.plan ≡ found → (to : Plain) (answer : Reply) → Prepares k found to answer →
      StandsFor to start (Prepare ∷ run) × IsReply start run Prepare answer
  prepared_goes_on None is to answer h =
      let armed : is_armed run ≡ false = subst (IsPending start run) is s.plan in
      let made = h.1 in (
        rw h.2 (taken_stands armed h.0 made),
        subst (λ b. IsToldOfBoot b (state_at start run) answer) (sym armed)
            (h.0, subst (λ (m : State). HasPlanOf m h.0) s.state made, h.3),
      )
  prepared_goes_on (Some plan) is to answer h =
      let armed : is_armed run ≡ true = (subst (IsPending start run) is s.plan).0 in (
        rw h.0 (kept_stands armed plan is),
        subst (λ b. IsToldOfBoot b (state_at start run) answer) (sym armed) h.1,
      )

  pub turn_goes_on : (seen : Seen) (to : Plain) (answer : Reply) → Turn k seen to answer → StandsFor to start (seen ∷ run) × IsReply start run seen answer
  turn_goes_on (Came number request) to answer h =
      (rw h.0 (after_delivery_stands number request), after_delivery_reply number request answer h.1)
  turn_goes_on (Malformed fault) to answer h = (rw h.0 (malformed_stands fault), h.1)
  turn_goes_on Prepare to answer h = prepared_goes_on k.plan refl to answer h
  turn_goes_on Hand to answer h = (rw h.0 hand_stands, (k.plan, s.plan, h.1))
  turn_goes_on Restart to answer h = (rw h.0 restarted_stands, h.1 ∙ ap (λ (n : ℕ). reply.Restarted n) next_is)

pub start_stands : (start : State) → StandsFor (plain_start start) start []
start_stands start = record {
  state = refl;
  waiting = same_numbers _ _ (λ q.
      get-empty nat_cmp q ∙ sym (get_retained empty (λ number. ltb (gap_at start.next_number []) number) q
      ∙ ap (λ (o : Option Request). cond (ltb (gap_at start.next_number []) q) o None) (get-empty nat_cmp q) ∙ none (ltb (gap_at start.next_number []) q)));
  plan = refl;
}
  where
    none : (b : Bool) → cond b None None ≡ (let nothing : Option Request = None in nothing)
    none true = refl
    none false = refl
