-- Turns of a keeper, case by case.
use Rattle.std.proofs.Common.{◌≡◌, ◌≢◌, inl, inr, ℕ, ◌+◌, ◌-◌, ◌<◌, ◌≤◌, ◌==◌, ◌&&◌, nat_lt, nat_le, not, Bool, true, false, Option, Some, None, Result, Ok}
use Rattle.std.proofs.Common.{Err, refl, sym, ap, subst, ◌∙◌, arith}
use Rattle.std.specs.Bool.{MatchBool}
use Rattle.std.specs.Option.{is_some, option_map, MatchOption}
use Rattle.std.specs.FinMap.{get, insert}
use Rattle.std.proofs.lemmas.Bool.{cond-true, cond-false, false≢true, false_from_ne_true, and_parts, leb-true, le-leb, ltb-true, lt-ltb, le-ltb, eq-eqb}
use Rattle.std.proofs.lemmas.Bool.Decides.{nat_tests}
use Rattle.uefi_vars.specs.Plan.{PlanParts}
use Rattle.boot_requests.specs.declared.request.Request.{Request}
use Rattle.boot_requests.specs.declared.fault.FrameFault.{FrameFault}
use Rattle.boot_requests.specs.declared.outcome.Outcome.{Outcome}
use Rattle.boot_requests.specs.declared.reply.Reply.{Reply}
use Rattle.boot_requests.specs.declared.reply.Reply.TheVariants as reply
use Rattle.boot_requests.specs.Limits.{width}
use Rattle.boot_requests.specs.State.{State, MarkParts}
use Rattle.boot_requests.specs.Apply.{outcome_of, effect, after_request}
use Rattle.boot_requests.specs.Seen.{Came}
use Rattle.boot_requests.specs.Window.{Requests, is_open}
use Rattle.boot_requests.specs.Answer.{kept_outcome, again}
use Rattle.boot_requests.specs.Turn.{Plain, settled_state, after_delivery, Turn}
use Rattle.boot_requests.specs.Keeper.{AreWaiting}
use Rattle.boot_requests.specs.StateOf.{plain_of}
use Rattle.boot_requests.specs.Edit.{with_mark}
use Rattle.boot_requests.specs.Marks.{mark_of, mark_in, mark_after}
use Rattle.boot_requests.specs.Answer.{IsReplyTo}
use Rattle.boot_requests.proofs.WholeRuns.NextNumbers.{effect_number, effect_kept}
use Rattle.boot_requests.proofs.Variables.Stored.{request_apart}
use Rattle.boot_requests.proofs.Turn.Fills.{none_waits, settled_state_none}
use Rattle.boot_requests.proofs.WholeRuns.Told.{IsToldNear}

-- ---- which number is open

-- the test of a number that is taken
taken_test : (requests : Requests) (gap number : ℕ) → get requests number ≡ None → gap ≤ number → number < gap + width → is_open requests gap number ≡ true
taken_test requests gap number none low high =
    ap (λ (o : Option Request). not (is_some o) && (nat_le gap number && nat_lt (number - gap) width)) none
    ∙ ap (λ (b : Bool). b && nat_lt (number - gap) width) (le-leb gap number low) ∙ lt-ltb (number - gap) width (omega (arith, low, high))

low_test : (requests : Requests) (gap number : ℕ) → number < gap → is_open requests gap number ≡ false
low_test requests gap number low = false_from_ne_true _ (λ taken_in.
    let from = leb-true gap number (and_parts _ _ (and_parts _ _ taken_in).1).0 in omega (arith, from, low))

far_test : (requests : Requests) (gap number : ℕ) → width ≤ number - gap → is_open requests gap number ≡ false
far_test requests gap number high = false_from_ne_true _ (λ taken_in.
    let near = ltb-true (number - gap) width (and_parts _ _ (and_parts _ _ taken_in).1).1 in omega (arith, near, high))

held_test : (requests : Requests) (gap number : ℕ) (other : Request) → get requests number ≡ Some other → is_open requests gap number ≡ false
held_test requests gap number other held =
    ap (λ (o : Option Request). not (is_some o) && (nat_le gap number && nat_lt (number - gap) width)) held

-- ---- turns

when : (b : Bool) (P Q : Type 0) → b ≡ true → P → MatchBool b P Q
when b P Q e x = subst (λ (c : Bool). MatchBool c P Q) (sym e) x

unless : (b : Bool) (P Q : Type 0) → b ≡ false → Q → MatchBool b P Q
unless b P Q e x = subst (λ (c : Bool). MatchBool c P Q) (sym e) x

module _ (k : Plain) (number : ℕ) (r : Request) where
  abbrev next : ℕ
  next = k.state.next_number

  abbrev after : ℕ
  after = (after_delivery k number r).state.next_number

  unmoved : is_open k.waiting next number ≡ false → k ≡ after_delivery k number r
  unmoved shut = sym (cond-false _ _ _ shut)

  -- a request that was applied before
  pub turn_before : (answer : Reply) → number < next → answer ≡ again (kept_outcome k.state number) → Turn k (Came number r) k answer
  turn_before answer low reply = (unmoved (low_test k.waiting next number low), when _ _ _ (lt-ltb number next low) reply)

  -- a number that is too far ahead
  pub turn_ahead : next ≤ number → width ≤ number - next → Turn k (Came number r) k (reply.Ahead next)
  turn_ahead low high =
      (unmoved (far_test k.waiting next number high), unless _ _ _ (le-ltb number next low) (when _ _ _ (le-leb width (number - next) high) refl))

  near_reply : (answer : Reply) (found : Option Request) → next ≤ number → number < next + width → get k.waiting number ≡ found →
      IsToldNear k.state next after number r found answer → IsReplyTo k.state k.waiting next after number r answer
  near_reply answer found low high is told =
      unless _ _ _ (le-ltb number next low)
      (unless _ _ _ (false_from_ne_true _ (λ wide. let far = leb-true width (number - next) wide in omega (arith, far, low, high)))
      (rw is told))

  -- another request of the number waits
  pub turn_conflict : (other : Request) → next ≤ number → number < next + width → get k.waiting number ≡ Some other → other ≢ r →
      Turn k (Came number r) k reply.Conflict
  turn_conflict other low high held differ =
      (unmoved (held_test k.waiting next number other held), near_reply reply.Conflict (Some other) low high held (inl (differ, refl)))

  -- the request waits already
  pub turn_again : (other : Request) → next ≤ number → number < next + width → get k.waiting number ≡ Some other → other ≡ r →
      Turn k (Came number r) k (reply.Waiting next)
  turn_again other low high held same =
      (unmoved (held_test k.waiting next number other held), near_reply (reply.Waiting next) (Some other) low high held (inr (same, refl)))

  -- a request of the next number is applied with those that follow it
  pub moved_to : number ≡ next → get k.waiting next ≡ None → after_delivery k number r ≡ settled_state k (insert k.waiting next r)
  moved_to here none =
      cond-true _ _ _ (taken_test k.waiting next number (ap (get k.waiting) here ∙ none) (omega (arith, here)) (omega (arith, here)))
      ∙ ap (λ (n : ℕ). settled_state k (insert k.waiting n r)) here

  module _ (waiting : AreWaiting next k.waiting) where
    -- the request waits from now on
    pub turn_waits : next < number → number < next + width → get k.waiting number ≡ None →
        Turn k (Came number r) (plain_of k.state (insert k.waiting number r) k.plan) (reply.Waiting next)
    turn_waits low high none =
        let below : (q : ℕ) → q ≤ next → get (insert k.waiting number r) q ≡ None =
        λ q l. request_apart k.waiting number r q (λ e. omega (arith, e, l, low)) ∙ none_waits next k.waiting waiting q l in
        let all = settled_state_none k.state (insert k.waiting number r) below in
        let state = ap (λ (p : Plain). plain_of p.state p.waiting k.plan) (sym all)
        ∙ sym (cond-true _ _ _ (taken_test k.waiting next number none (omega (arith, low)) high)) in
        (state, near_reply (reply.Waiting next) None (omega (arith, low)) high none (sym (cond-false _ _ _ (apart_tests number next low))))
      where
        apart_tests : (a b : ℕ) → b < a → (a == b) ≡ false
        apart_tests a b less = grind (arith, nat_tests)

    -- the request and those that follow it are applied
    pub turn_next : number ≡ next → (to : Plain) (answer : Reply) → to ≡ settled_state k (insert k.waiting next r) →
        answer ≡ reply.Applied (outcome_of k.state r) to.state.next_number → Turn k (Came number r) to answer
    turn_next here to answer state told =
        let none : get k.waiting number ≡ None = none_waits next k.waiting waiting number (omega (arith, here)) in
        let to_is : to ≡ after_delivery k number r = state ∙ sym (moved_to here (none_waits next k.waiting waiting next (omega arith))) in (
          to_is,
          near_reply answer None (omega (arith, here)) (omega (arith, here)) none
              (told ∙ ap (λ (p : Plain). reply.Applied (outcome_of k.state r) p.state.next_number) to_is ∙ sym (cond-true _ _ _ (eq-eqb number next here))),
        )

-- ---- the state after a request

pub after_request_is : (m : State) (r : Request) (outcome : Outcome) (mark : MarkParts) → outcome ≡ outcome_of m r → mark ≡ mark_after (mark_in m) outcome →
    with_mark mark (effect m r outcome) ≡ after_request m r
after_request_is m r outcome mark o e =
    let told = outcome_of m r in
    let same : mark_in m ≡ mark_in (effect m r told) = λ i. mark_of (sym (effect_number m r told) i) (sym (effect_kept m r told) i) in
    ap (λ (x : Outcome). with_mark mark (effect m r x)) o
    ∙ ap (λ (k : MarkParts). with_mark k (effect m r told)) (e ∙ ap (mark_after (mark_in m)) o ∙ ap (λ (k : MarkParts). mark_after k told) same)

-- ---- a plan, or none

pub plan_there : (o : Option PlanParts) (A B : Type 0) → is_some o ≡ true → B → MatchOption o A (λ _. B)
plan_there None A B h x = absurd (false≢true h)
plan_there (Some plan) A B h x = x

pub plan_gone : (o : Option PlanParts) (A : Type 0) (B : PlanParts → Type 0) → is_some o ≡ false → A → MatchOption o A B
plan_gone None A B h x = x
plan_gone (Some plan) A B h x = absurd (false≢true (sym h))

pub some_of_map : {A B : Type 0} (f : A → B) (o : Option A) → is_some (option_map f o) ≡ is_some o
some_of_map f None = refl
some_of_map f (Some x) = refl

-- ---- a frame that is read as one request

pub same_pair : (p q : ℕ × Request) → ◌≡◌ {A = Result (ℕ × Request) FrameFault} (Ok p) (Ok q) → p ≡ q
same_pair p q e = cc

pub not_both : (p : ℕ × Request) (f : FrameFault) → ◌≡◌ {A = Result (ℕ × Request) FrameFault} (Ok p) (Err f) → ⊥
not_both p f e = cc

pub same_fault : (f g : FrameFault) → ◌≡◌ {A = Result (ℕ × Request) FrameFault} (Err f) (Err g) → f ≡ g
same_fault f g e = cc
