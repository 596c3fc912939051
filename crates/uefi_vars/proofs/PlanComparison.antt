-- What `==` says of plans, if `==` on load options tells whether they are equal.
use Rattle.std.proofs.Common.{◌≡◌, Bool, List, Option, Some, None, Decides, refl, ap}
use Rattle.std.specs.Cmp.Lexicographic.{pointwise}
use Rattle.std.specs.Option.{option_eq as optional_eq}
use Rattle.std.proofs.lemmas.Bool.{false≢true}
use Rattle.std.proofs.lemmas.Bool.Decides.{Decides-eqb, Decides-and, Decides-at}
use Rattle.std.proofs.lemmas.Slice.Eq.{slice_eq-Decides}
use Rattle.uefi_option.specs.LoadOption.{OptionParts}
use Rattle.uefi_option.specs.contracts.load_option.LoadOptionPartialEq.TheImpl.{ghosts}
use Rattle.uefi_vars.specs.declared.boot_plan.Choice.{Choice}
use Rattle.uefi_vars.specs.Plan.{PlanParts}
use Rattle.uefi_vars.specs.PlanEquality.{choice_eq, plan_eq}
use Rattle.uefi_vars.proofs.Plans.{same_choice, same_plan}

-- `==` on load options tells whether they are equal
abbrev pub ComparesOptions : Type 0
ComparesOptions = (o p : OptionParts) → Decides (ghosts.eq o p) (o ≡ p)

-- choices are equal if their parts are
abbrev SameChoice : Choice → Choice → Type 0
SameChoice a b = (a.number ≡ b.number) × (a.option ≡ b.option)

pub choice_Decides : ComparesOptions → (a b : Choice) → Decides (choice_eq a b) (a ≡ b)
choice_Decides each a b =
    let decides : Decides (choice_eq a b) (SameChoice a b) = Decides-and _ _ (Decides-eqb a.number b.number) (each a.option b.option) in
    (λ yes. let e = decides.0 yes in same_choice a b e.0 e.1, λ e. decides.1 (ap (λ (c : Choice). c.number) e, ap (λ (c : Choice). c.option) e))

pub optional_Decides : {X : Type 0} {E : X → X → Bool} → ((a b : X) → Decides (E a b) (a ≡ b)) → (p q : Option X) → Decides (optional_eq E p q) (p ≡ q)
optional_Decides each None None = (λ _. refl, λ _. refl)
optional_Decides each None (Some b) = (λ e. absurd (false≢true e), λ e. cc)
optional_Decides each (Some a) None = (λ e. absurd (false≢true e), λ e. cc)
optional_Decides each (Some a) (Some b) = (λ yes. ap Some ((each a b).0 yes), λ e. (each a b).1 cc)

lists_Decide : {X : Type 0} {E : X → X → Bool} → ((a b : X) → Decides (E a b) (a ≡ b)) → (xs ys : List X) → Decides (pointwise E xs ys) (xs ≡ ys)
lists_Decide {E = E} each xs ys = slice_eq-Decides each xs ys (pointwise E xs ys) refl

-- plans are equal if their parts are
abbrev SamePlan : PlanParts → PlanParts → Type 0
SamePlan p q = (p.next ≡ q.next) × (p.normal ≡ q.normal)

pub plan_eq-Decides : ComparesOptions → (p q : PlanParts) (answer : Bool) → answer ≡ plan_eq p q → Decides answer (p ≡ q)
plan_eq-Decides each p q answer is =
    let choices = choice_Decides each in
    let decides : Decides answer (SamePlan p q) = Decides-at answer (plan_eq p q) is
    (Decides-and _ _ (optional_Decides choices p.next q.next) (lists_Decide choices p.normal q.normal)) in
    (λ yes. let e = decides.0 yes in same_plan p q e.0 e.1, λ e. decides.1 (ap (λ (r : PlanParts). r.next) e, ap (λ (r : PlanParts). r.normal) e))
