-- What is told of a request that came, and of a boot that is prepared: the parts of those definitions, by names, and what
-- follows from each answer that a request can have.
use Rattle.std.proofs.Common.{◌≡◌, ◌≢◌, ℕ, ltb, leb, ◌-◌, ◌⊎◌, inl, inr, Bool, true, false, eqb, Option, Some, None, refl, arith}
use Rattle.std.specs.Prelude.{if◌then◌else◌, MatchBool, MatchOption}
use Rattle.std.specs.FinMap.{get}
use Rattle.std.proofs.lemmas.Bool.Decides.{nat_tests}
use Rattle.uefi_vars.specs.Plan.{PlanParts}
use Rattle.boot_requests.specs.declared.request.Request.{Request}
use Rattle.boot_requests.specs.declared.reply.Reply.{Reply}
use Rattle.boot_requests.specs.declared.reply.Reply.TheVariants as reply
use Rattle.boot_requests.specs.Limits.{width}
use Rattle.boot_requests.specs.State.{State}
use Rattle.boot_requests.specs.Apply.{outcome_of, after_boot, HasPlanOf}
use Rattle.boot_requests.specs.Window.{Requests}
use Rattle.boot_requests.specs.Answer.{IsReplyTo, again, kept_outcome, choice_count}
use Rattle.boot_requests.specs.Turn.{Plain}

-- the answer to a request whose number is near, by what is accepted under it
abbrev pub IsToldNear : State → ℕ → ℕ → ℕ → Request → Option Request → Reply → Type 0
IsToldNear m gap after number request found answer =
    MatchOption found
    (answer ≡ (if eqb number gap then reply.Applied (outcome_of m request) after else reply.Waiting gap))
    (λ other. ((other ≢ request) × (answer ≡ reply.Conflict)) ⊎ ((other ≡ request) × (answer ≡ reply.Waiting gap)))

-- the answer to a request that wasn't applied before
abbrev pub IsToldNew : State → ℕ → ℕ → ℕ → Request → Option Request → Reply → Type 0
IsToldNew m gap after number request found answer =
    MatchBool (leb width (number - gap)) (answer ≡ reply.Ahead gap) (IsToldNear m gap after number request found answer)

-- the answer to a boot that is prepared in this state, as one is prepared already or not
abbrev pub IsToldOfBoot : Bool → State → Reply → Type 0
IsToldOfBoot armed m answer =
    MatchBool armed (answer ≡ reply.AlreadyPrepared) ((plan : PlanParts) × HasPlanOf m plan × (answer ≡ reply.Prepared (choice_count plan)))

-- what a boot that is prepared does to a plain state, as the plan is that is prepared already
abbrev pub Prepares : Plain → Option PlanParts → Plain → Reply → Type 0
Prepares k found to answer =
    MatchOption found
    ((plan : PlanParts) × HasPlanOf k.state plan
    × (to ≡ record k { state = after_boot k.state; plan = Some plan }) × (answer ≡ reply.Prepared (choice_count plan)))
    (λ _. (to ≡ k) × (answer ≡ reply.AlreadyPrepared))

-- what follows from each answer follows from the one that is given
pub by_answer : (m : State) (requests : Requests) (gap after number : ℕ) (request : Request) (answer : Reply) (P : Type 0) →
    (answer ≡ again (kept_outcome m number) → P) → (answer ≡ reply.Ahead gap → P) →
    (get requests number ≡ None → number ≡ gap → answer ≡ reply.Applied (outcome_of m request) after → P) →
    (answer ≡ reply.Waiting gap → P) → (answer ≡ reply.Conflict → P) → IsReplyTo m requests gap after number request answer → P
by_answer m requests gap after number request answer P before ahead applied waits conflict =
    elim (ltb number gap) as (λ b. MatchBool b (answer ≡ again (kept_outcome m number)) (New (get requests number)) → P) [
      | true ↦ before
      | false ↦ elim (leb width (number - gap)) as (λ b. MatchBool b (answer ≡ reply.Ahead gap) (Near (get requests number)) → P) [
        | true ↦ ahead
        | false ↦ elim (get requests number) as (λ o. get requests number ≡ o → Near o → P) [
          | None ↦ λ none.
              elim (eqb number gap) as (λ b. eqb number gap ≡ b → answer ≡ (if b then reply.Applied (outcome_of m request) after else reply.Waiting gap) → P) [
                | true ↦ λ t. applied none (grind (arith, nat_tests, t))
                | false ↦ λ t. waits
              ] refl
          | Some other ↦ λ held told. elim told [ inl apart ↦ conflict apart.1 | inr same ↦ waits same.1 ]
        ] refl
      ]
    ]
  where
    New : Option Request → Type 0
    New found = IsToldNew m gap after number request found answer

    Near : Option Request → Type 0
    Near found = IsToldNear m gap after number request found answer
