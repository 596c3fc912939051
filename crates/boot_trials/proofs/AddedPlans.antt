-- What an added entry that isn't tried by itself is to a plan without BootNext.
use Rattle.std.proofs.Common.{◌≡◌, ◌≢◌, ℕ, ◌≤◌, List, [], ◌∷◌, ◌++◌, length, Option, Some, None, refl, sym, ap, ◌∙◌, subst, inl, inr}
use Rattle.std.proofs.lemmas.Bool.{cases_eq, cases_Bool, cond-true, cond-false, eq-eqb, ne_eqb}
use Rattle.std.proofs.lemmas.Option.{none-some}
use Rattle.std.specs.List.{AllByRecursion}
use Rattle.uefi_option.specs.Attributes.{IsNormal}
use Rattle.uefi_option.specs.LoadOption.{OptionParts, SpellsOption}
use Rattle.uefi_option.proofs.Bytes.{AllByRecursion-append}
use Rattle.uefi_vars.specs.declared.boot_plan.Choice.{Choice}
use Rattle.uefi_vars.specs.Order.{order_max, IsEntryNumber, HasOrder, stored_order}
use Rattle.uefi_vars.specs.Plan.{PlanParts, AreNormalChoices, IsNormalChoice, IsPlan}
use Rattle.uefi_vars.specs.Vars.{Variables, entry_of}
use Rattle.boot_requests.specs.Apply.{is_in}
use Rattle.boot_edits.specs.Addition.{IsNewNumber, IsAdded, IsPlaced, IsAdditionDone}
use Rattle.boot_edits.specs.Orders.{with_last}
use Rattle.boot_edits.specs.declared.addition.Addition.{Addition}
use Rattle.boot_edits.specs.declared.addition.Position.{Position}
use Rattle.boot_edits.specs.declared.addition.Position.TheVariants.{Last}
use Rattle.boot_edits.specs.declared.answer.EditAnswer.{EditAnswer}
use Rattle.boot_edits.specs.declared.answer.EditAnswer.TheVariants.{Done, Added, Present}

-- ---- one more number, under which nothing is tried

module _ (entries others : ℕ → Option (List ℕ)) (new : ℕ) (absent : entries new ≡ None)
    (same : (number : ℕ) → IsEntryNumber number → number ≢ new → others number ≡ entries number)
    (inert : (choice : Choice) → IsNormalChoice others new choice → ⊥) where
  none_before : (choice : Choice) → IsNormalChoice entries new choice → ⊥
  none_before choice is = none-some is.0.1.bytes (sym absent ∙ is.0.1.stored)

  after : (number : ℕ) → IsEntryNumber number → (choice : Choice) → IsNormalChoice entries number choice → IsNormalChoice others number choice
  after number fits choice is = elim (cases_eq number new) [
    | inl at ↦ absurd (none_before choice (subst (λ (n : ℕ). IsNormalChoice entries n choice) at is))
    | inr other ↦
        ((is.0.0, record { bytes = is.0.1.bytes; stored = same number fits other ∙ is.0.1.stored; spelled = is.0.1.spelled }), is.1)
  ]

  before : (number : ℕ) → IsEntryNumber number → (choice : Choice) → IsNormalChoice others number choice → IsNormalChoice entries number choice
  before number fits choice is = elim (cases_eq number new) [
    | inl at ↦ absurd (inert choice (subst (λ (n : ℕ). IsNormalChoice others n choice) at is))
    | inr other ↦
        ((is.0.0, record { bytes = is.0.1.bytes; stored = sym (same number fits other) ∙ is.0.1.stored; spelled = is.0.1.spelled }), is.1)
  ]

  kept : (order : List ℕ) → AllByRecursion IsEntryNumber order → (choices : List Choice) → AreNormalChoices entries order choices →
      AreNormalChoices others order choices
  kept [] all choices f = f
  kept (number ∷ order) all choices (inl f) = inl (f.0, f.1, f.2, after number all.0 f.0 f.3, kept order all.1 f.1 f.4)
  kept (number ∷ order) all choices (inr f) =
      inr (λ choice is. f.0 choice (before number all.0 choice is), kept order all.1 choices f.1)

  at_the_end : (order : List ℕ) (choices : List Choice) → AreNormalChoices others order choices → AreNormalChoices others (order ++ new ∷ []) choices
  at_the_end [] choices f = inr (inert, f)
  at_the_end (number ∷ order) choices (inl f) = inl (f.0, f.1, f.2, f.3, at_the_end order f.1 f.4)
  at_the_end (number ∷ order) choices (inr f) = inr (f.0, at_the_end order choices f.1)

  pub with_new : (order : List ℕ) → AllByRecursion IsEntryNumber order → (choices : List Choice) → AreNormalChoices entries order choices →
      AreNormalChoices others (with_last order new) choices
  with_new order all choices f = elim (cases_Bool (is_in order new)) [
    | inl there ↦ subst (λ (o : List ℕ). AreNormalChoices others o choices) (sym (cond-true _ _ _ there)) (kept order all choices f)
    | inr out ↦
        subst (λ (o : List ℕ). AreNormalChoices others o choices) (sym (cond-false _ _ _ out)) (at_the_end order choices (kept order all choices f))
  ]

numbers_with : (order : List ℕ) (new : ℕ) → AllByRecursion IsEntryNumber order → IsEntryNumber new → AllByRecursion IsEntryNumber (with_last order new)
numbers_with order new all fits = elim (cases_Bool (is_in order new)) [
  | inl there ↦ subst (AllByRecursion IsEntryNumber) (sym (cond-true _ _ _ there)) all
  | inr out ↦
      subst (AllByRecursion IsEntryNumber) (sym (cond-false _ _ _ out)) (AllByRecursion-append IsEntryNumber order (new ∷ []) all (fits, tt))
]

-- ---- an entry that is added so

-- these variables have an order with this plan
pub record HasSamePlan (vars : Variables) (plan : PlanParts) : Type 0 where
  pub order : List ℕ
  pub has : HasOrder vars order
  pub planned : IsPlan (entry_of vars) order None plan

free_number : (vars : Variables) (entry : Option ℕ) (number : ℕ) → IsNewNumber vars entry number → entry_of vars number ≡ None
free_number vars (Some entry) number is = ap (entry_of vars) is.0 ∙ is.1
free_number vars None number is = is.free

module _ (vars set : Variables) (addition : Addition) (order : List ℕ) (plan : PlanParts) (last : addition.position ≡ Last)
    (inert : (option : OptionParts) → SpellsOption addition.option.now option → IsNormal option.attributes → ⊥)
    (one : (a b : List ℕ) → HasOrder vars a → HasOrder vars b → a ≡ b) (has : HasOrder vars order)
    (planned : IsPlan (entry_of vars) order None plan) where
  module _ (number : ℕ) (fits : IsEntryNumber number) (is : IsAdded vars addition number set) where
    placed : IsPlaced vars Last number is.added.order
    placed = subst (λ (p : Position). IsPlaced vars p number is.added.order) last is.added.placed

    old : placed.1.order ≡ order
    old = one placed.1.order order placed.1.old has

    at_new : entry_of set number ≡ Some addition.option.now
    at_new = is.added.becomes.entries number fits ∙ cond-true _ _ _ (eq-eqb number number refl)

    elsewhere : (other : ℕ) → IsEntryNumber other → other ≢ number → entry_of set other ≡ entry_of vars other
    elsewhere other within differs =
        is.added.becomes.entries other within ∙ cond-false _ _ _ (ne_eqb number other (λ at. differs (sym at)))

    inert_choice : (choice : Choice) → IsNormalChoice (entry_of set) number choice → ⊥
    inert_choice choice normal =
        inert choice.option
        (subst (λ (bytes : List ℕ). SpellsOption bytes choice.option) (some_same _ _ (sym normal.0.1.stored ∙ at_new)) normal.0.1.spelled) normal.1
      where
        some_same : (a b : List ℕ) → Some a ≡ Some b → a ≡ b
        some_same a b e = cc e

    added_plan : HasSamePlan set plan
    added_plan = record {
      order = with_last order number;
      has = record {
        is = record {
          numbers = numbers_with order number has.is.numbers fits;
          len = subst (λ (o : List ℕ). length o ≤ order_max) (placed.1.is ∙ ap (λ (o : List ℕ). with_last o number) old) placed.1.fits;
        };
        stored = is.added.becomes.order ∙ placed.2 ∙ ap stored_order (placed.1.is ∙ ap (λ (o : List ℕ). with_last o number) old);
      };
      planned = record {
        first = planned.first;
        others = with_new (entry_of vars) (entry_of set) number (free_number vars addition.entry number is.new) elsewhere inert_choice order
            has.is.numbers plan.normal planned.others;
      };
    }

  pub same_plan : (answer : EditAnswer) → IsAdditionDone vars addition set answer → ((number : ℕ) → answer ≡ Added number → IsEntryNumber number) →
      HasSamePlan set plan
  same_plan (Added number) is fits = added_plan number (fits number refl) is
  same_plan (Present number) is fits =
      record { order = order; has = subst (λ (v : Variables). HasOrder v order) (sym is.1) has; planned = subst (λ (v : Variables). IsPlan (entry_of v) order None plan) (sym is.1) planned }
  same_plan Done is fits = absurd is
