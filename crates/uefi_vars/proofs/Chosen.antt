-- The numbers of a plan: what is kept and known of entries that were looked at, and which numbers are chosen.
use Rattle.std.proofs.Common.{◌≡◌, ◌↔◌, ℕ, ◌+◌, ◌<◌, IsTrue, List, [], ◌∷◌, ◌++◌, length, take, map, get_or}
use Rattle.std.proofs.Common.{Option, Result, Ok, Err, IfOk, refl, sym, ap, subst, ◌∙◌}
use Rattle.std.specs.Result.{IsOkAnd, is_ok}
use Rattle.std.proofs.lemmas.Bool.{false≢true}
use Rattle.std.proofs.lemmas.List.{map-append}
use Rattle.uefi_option.specs.LoadOption.{OptionParts, SpellsOption}
use Rattle.uefi_vars.specs.Vars.{Variables, entry_of}
use Rattle.uefi_vars.specs.Order.{HasOrder, HasNext}
use Rattle.uefi_vars.specs.Plan.{PlanParts, plan_parts, HasPlan, AreNumbersOf}
use Rattle.uefi_vars.specs.NormalEntry.{MayBeNormal, HasNormal, IsNextNumber, AreNormalNumbers}
use Rattle.uefi_vars.proofs.Plans.{choice_of, choose, pass, plan_found}

-- ---- of entries

module _ (entries : ℕ → Option (List ℕ)) where
  -- ---- what is known of one

  -- bytes that may be a normal option are one if they are found to spell an option at all
  pub normal_by : {V F : Type 0} (Shows : V → OptionParts → Type 0) (number : ℕ) (bytes : List ℕ) (found : Result V F) → MayBeNormal entries number bytes
      → IfOk found (λ v. (option : OptionParts) × SpellsOption bytes option × Shows v option) →
      ((option : OptionParts) → SpellsOption bytes option → IsOkAnd found (λ v. Shows v option)) →
      IsTrue (is_ok found) ↔ HasNormal entries number
  normal_by Shows number bytes (Ok v) may spelled only = (
    (λ _. (
      choice_of number spelled.0,
      (
        (refl, record { bytes = bytes; stored = may.0; spelled = spelled.1 }),
        may.1 spelled.0 spelled.1,
      ),
    )),
    (λ _. refl),
  )
  normal_by Shows number bytes (Err f) may spelled only = (
    λ told. absurd (false≢true told),
    λ has. let stored = has.1.0.1.stored in
        let same : has.1.0.1.bytes ≡ bytes = cc (stored, may.0) in
        absurd (only has.0.option (subst (λ (t : List ℕ). SpellsOption t has.0.option) same has.1.0.1.spelled)),
  )

  -- ---- one number after the other

  -- the number of a normal option
  pub choose_number : (order : List ℕ) (i : ℕ) (numbers : List ℕ) → i < length order →
      AreNormalNumbers entries (take i order) numbers → HasNormal entries (get_or order i 0) →
      AreNormalNumbers entries (take (i + 1) order) (numbers ++ get_or order i 0 ∷ [])
  choose_number order i numbers within chosen has = (
    chosen.0 ++ has.0 ∷ [],
    choose entries order i chosen.0 has.0 within chosen.1 has.1,
    ap (λ (ns : List ℕ). ns ++ get_or order i 0 ∷ []) chosen.2
        ∙ ap (λ (n : ℕ). map (λ c. c.number) chosen.0 ++ n ∷ []) (sym has.1.0.0)
        ∙ sym (map-append (λ c. c.number) chosen.0 (has.0 ∷ [])),
  )

  -- a number that has none
  pub pass_number : (order : List ℕ) (i : ℕ) (numbers : List ℕ) → i < length order →
      AreNormalNumbers entries (take i order) numbers → (HasNormal entries (get_or order i 0) → ⊥) →
      AreNormalNumbers entries (take (i + 1) order) numbers
  pass_number order i numbers within chosen none = (chosen.0, pass entries order i chosen.0 within chosen.1 (λ choice is. none (choice, is)), chosen.2)

-- ---- of variables

-- the numbers of a plan are those of what was chosen
pub numbers_found : (vars : Variables) (order : List ℕ) (next number : Option ℕ) (numbers : List ℕ) → HasOrder vars order →
    HasNext vars next → IsNextNumber (entry_of vars) next number → AreNormalNumbers (entry_of vars) order numbers
    → (plan : PlanParts) × HasPlan vars plan × AreNumbersOf plan number numbers
numbers_found vars order next number numbers has_order has_next first others = (
  plan_parts first.0 others.0,
  plan_found vars order next first.0 others.0 has_order has_next first.1 others.1,
  record { first = first.2; others = others.2 },
)
