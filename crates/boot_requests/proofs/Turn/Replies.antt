-- What happens has one reply, and a turn leads to one plain state.
use Rattle.std.proofs.Common.{◌≡◌, ℕ, ltb, leb, ◌-◌, inl, inr, true, false, List, ◌∷◌, Option, Some, None, refl, sym, ap, ◌∙◌}
use Rattle.std.specs.Prelude.{MatchBool}
use Rattle.std.specs.FinMap.{get}
use Rattle.uefi_vars.specs.Plan.{PlanParts, IsPlan}
use Rattle.boot_requests.specs.declared.request.Request.{Request}
use Rattle.boot_requests.specs.declared.reply.Reply.{Reply}
use Rattle.boot_requests.specs.declared.reply.Reply.TheVariants as reply
use Rattle.boot_requests.specs.Limits.{width}
use Rattle.boot_requests.specs.State.{State}
use Rattle.boot_requests.specs.Apply.{after_boot, HasPlanOf}
use Rattle.boot_requests.specs.Seen.{Seen, Came, Prepare, Hand}
use Rattle.boot_requests.specs.Window.{Requests}
use Rattle.boot_requests.specs.Run.{accepted_requests, gap_at, is_armed, before_taken, state_at, IsPending}
use Rattle.boot_requests.specs.Answer.{IsReplyTo, again, kept_outcome, choice_count, reply_to_hand}
use Rattle.boot_requests.specs.Reply.{IsReply}
use Rattle.boot_requests.specs.Turn.{Plain, after_delivery, Turn}
use Rattle.boot_requests.proofs.WholeRuns.Told.{IsToldNear, IsToldNew, IsToldOfBoot, Prepares}

-- entries have one plan for an order and a next entry
abbrev pub HaveOnePlan : Type 0
HaveOnePlan =
    (entries : ℕ → Option (List ℕ)) (order : List ℕ) (next : Option ℕ) (p q : PlanParts) → IsPlan entries order next p → IsPlan entries order next q → p ≡ q

one_answer : (m : State) (requests : Requests) (gap after number : ℕ) (request : Request) (a b : Reply) →
    IsReplyTo m requests gap after number request a → IsReplyTo m requests gap after number request b → a ≡ b
one_answer m requests gap after number request a b =
    elim (ltb number gap) as (λ t. MatchBool t (a ≡ again (kept_outcome m number)) (New a) → MatchBool t (b ≡ again (kept_outcome m number)) (New b) → a ≡ b) [
      | true ↦ λ g h. g ∙ sym h
      | false ↦ tails
    ]
  where
    New : Reply → Type 0
    New = IsToldNew m gap after number request (get requests number)

    Near : Reply → Option Request → Type 0
    Near answer found = IsToldNear m gap after number request found answer

    found : (o : Option Request) → Near a o → Near b o → a ≡ b
    found None g h = g ∙ sym h
    found (Some other) g h = elim g [
      | inl l ↦ elim h [ inl k ↦ l.1 ∙ sym k.1 | inr k ↦ absurd (l.0 k.0) ]
      | inr r ↦ elim h [ inl k ↦ absurd (k.0 r.0) | inr k ↦ r.1 ∙ sym k.1 ]
    ]

    tails : New a → New b → a ≡ b
    tails =
        elim (leb width (number - gap)) as (λ t.
        MatchBool t (a ≡ reply.Ahead gap) (Near a (get requests number)) → MatchBool t (b ≡ reply.Ahead gap) (Near b (get requests number)) → a ≡ b) [
          | true ↦ λ g h. g ∙ sym h
          | false ↦ found (get requests number)
        ]

module _ (one : HaveOnePlan) where
  one_plan : (m : State) (p q : PlanParts) → HasPlanOf m p → HasPlanOf m q → p ≡ q
  one_plan m p q g h = one (get m.entries) m.order m.boot_next p q g h

  one_pending : (start : State) (run : List Seen) (p q : Option PlanParts) → IsPending start run p → IsPending start run q → p ≡ q
  one_pending start run None None g h = refl
  one_pending start run None (Some q) g h = absurd (let no : false ≡ true = sym g ∙ h.0 in cc)
  one_pending start run (Some p) None g h = absurd (let no : true ≡ false = sym g.0 ∙ h in cc)
  one_pending start run (Some p) (Some q) g h = ap (λ plan. Some plan) (one_plan (state_at start (before_taken run)) p q g.1 h.1)

  pub one_reply : (start : State) (run : List Seen) (seen : Seen) (a b : Reply) → IsReply start run seen a → IsReply start run seen b → a ≡ b
  one_reply start run (Came number request) a b g h =
      let first = start.next_number in
      one_answer (state_at start run) (accepted_requests first run) (gap_at first run) (gap_at first (Came number request ∷ run)) number request a b g h
  one_reply start run Prepare a b g h =
      elim (is_armed run) as (λ t. IsToldOfBoot t (state_at start run) a → IsToldOfBoot t (state_at start run) b → a ≡ b) [
        | true ↦ λ x y. x ∙ sym y
        | false ↦ λ x y. x.2 ∙ ap (λ p. reply.Prepared (choice_count p)) (one_plan (state_at start run) x.0 y.0 x.1 y.1) ∙ sym y.2
      ] g h
  one_reply start run Hand a b g h = g.2 ∙ ap reply_to_hand (one_pending start run g.0 h.0 g.1 h.1) ∙ sym h.2
  one_reply start run _ a b g h = g ∙ sym h

  -- the plain states and the answers of two turns are the same
  abbrev pub Same : Plain → Plain → Reply → Reply → Type 0
  Same x y a b = (x ≡ y) × (a ≡ b)

  one_prepared : (k x y : Plain) (a b : Reply) (found : Option PlanParts) → Prepares k found x a → Prepares k found y b → Same x y a b
  one_prepared k x y a b None g h =
      let same : g.0 ≡ h.0 = one_plan k.state g.0 h.0 g.1 h.1 in (
        g.2 ∙ ap (λ (p : PlanParts). record k { state = after_boot k.state; plan = Some p }) same ∙ sym h.2,
        g.3 ∙ ap (λ p. reply.Prepared (choice_count p)) same ∙ sym h.3,
      )
  one_prepared k x y a b (Some plan) g h = (g.0 ∙ sym h.0, g.1 ∙ sym h.1)

  pub one_turn : (k x y : Plain) (seen : Seen) (a b : Reply) → Turn k seen x a → Turn k seen y b → Same x y a b
  one_turn k x y (Came number request) a b g h =
      (g.0 ∙ sym h.0, one_answer k.state k.waiting k.state.next_number (after_delivery k number request).state.next_number number request a b g.1 h.1)
  one_turn k x y Prepare a b g h = one_prepared k x y a b k.plan g h
  one_turn k x y _ a b g h = (g.0 ∙ sym h.0, g.1 ∙ sym h.1)
