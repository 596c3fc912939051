-- Plans: that there is one, what they hold and depend on, and how the plan of variables is put together.
use Rattle.std.proofs.Common.{◌≡◌, ◌⊎◌, ℕ, zero, suc, ◌+◌, ◌<◌, bit_and, List, [], ◌∷◌, ◌++◌, length, take, get_or, Contains, Option, Some}
use Rattle.std.proofs.Common.{None, IfSome, inl, inr, refl, sym, ap, subst, ◌∙◌, ⊎_elim, arith}
use Rattle.std.specs.List.{AllByRecursion}
use Rattle.std.proofs.lemmas.Bool.Decides.{eqb_tells}
use Rattle.std.proofs.lemmas.List.{append-nil, take_more}
use Rattle.std.proofs.lemmas.List.Elements.{Contains-append_right}
use Rattle.uefi_path.specs.Row.{IsByte}
use Rattle.uefi_option.specs.LoadOption.{OptionParts, SpellsOption}
use Rattle.uefi_option.specs.Attributes.{active_bit, category_boot, category_of, IsNormal}
use Rattle.uefi_vars.specs.declared.boot_plan.Choice.{Choice}
use Rattle.uefi_vars.specs.Vars.{Variables, entry_of}
use Rattle.uefi_vars.specs.Order.{IsEntryNumber, HasOrder, HasNext}
use Rattle.uefi_vars.specs.Plan.{PlanParts, plan_parts, HasOption, IsChoice, IsNormalChoice, IsNextChoice, AreNormalChoices, IsPlan, HasPlan}

-- ---- what is equal if its parts are

abbrev pub choice_of : ℕ → OptionParts → Choice
choice_of number option = record { number = number; option = option }

pub same_choice : (a b : Choice) → a.number ≡ b.number → a.option ≡ b.option → a ≡ b
same_choice a b number option = ap (λ (n : ℕ). choice_of n a.option) number ∙ ap (choice_of b.number) option

pub same_plan : (p q : PlanParts) → p.next ≡ q.next → p.normal ≡ q.normal → p ≡ q
same_plan p q next normal = ap (λ (n : Option Choice). plan_parts n p.normal) next ∙ ap (plan_parts q.next) normal

-- ---- what there is one of

-- bytes spell at most one load option
abbrev pub SpellsOne : Type 0
SpellsOne = (bytes : List ℕ) (o p : OptionParts) → SpellsOption bytes o → SpellsOption bytes p → o ≡ p

module _ (one : SpellsOne) (entries : ℕ → Option (List ℕ)) where
  one_option : (number : ℕ) (o p : OptionParts) → HasOption entries number o → HasOption entries number p → o ≡ p
  one_option number o p a b =
      let stored : b.bytes ≡ a.bytes = cc in
      one a.bytes o p a.spelled (subst (λ (t : List ℕ). SpellsOption t p) stored b.spelled)

  one_choice : (number : ℕ) (a b : Choice) → IsChoice entries number a → IsChoice entries number b → a ≡ b
  one_choice number a b f g = same_choice a b (f.0 ∙ sym g.0) (one_option number a.option b.option f.1 g.1)

  one_next : (next : Option ℕ) (a b : Option Choice) → IsNextChoice entries next a → IsNextChoice entries next b → a ≡ b
  one_next None a b f g = f ∙ sym g
  one_next (Some number) None None f g = refl
  one_next (Some number) None (Some b) f g = absurd (f b g)
  one_next (Some number) (Some a) None f g = absurd (g a f)
  one_next (Some number) (Some a) (Some b) f g = ap Some (one_choice number a b f g)

  one_normal : (order : List ℕ) (a b : List Choice) → AreNormalChoices entries order a → AreNormalChoices entries order b → a ≡ b
  one_normal [] a b f g = f ∙ sym g
  one_normal (number ∷ order) a b (inl f) (inl g) =
      f.2 ∙ ap (λ (c : Choice). c ∷ f.1) (one_choice number f.0 g.0 f.3.0 g.3.0)
      ∙ ap (λ (cs : List Choice). g.0 ∷ cs) (one_normal order f.1 g.1 f.4 g.4) ∙ sym g.2
  one_normal (number ∷ order) a b (inl f) (inr g) = absurd (g.0 f.0 f.3)
  one_normal (number ∷ order) a b (inr f) (inl g) = absurd (f.0 g.0 g.3)
  one_normal (number ∷ order) a b (inr f) (inr g) = one_normal order a b f.1 g.1

  pub one_plan : (order : List ℕ) (next : Option ℕ) (p q : PlanParts) → IsPlan entries order next p → IsPlan entries order next q → p ≡ q
  one_plan order next p q f g = same_plan p q (one_next next p.next q.next f.first g.first) (one_normal order p.normal q.normal f.others g.others)

-- ---- one number after the other

module _ (entries : ℕ → Option (List ℕ)) where
  more_choices : (order more : List ℕ) (choices others : List Choice) → AreNormalChoices entries order choices →
      AreNormalChoices entries more others → AreNormalChoices entries (order ++ more) (choices ++ others)
  more_choices [] more choices others f g = rw f g
  more_choices (number ∷ order) more choices others (inl f) g =
      inl (f.0, f.1 ++ others, ap (λ (cs : List Choice). cs ++ others) f.2, f.3, more_choices order more f.1 others f.4 g)
  more_choices (number ∷ order) more choices others (inr f) g = inr (f.0, more_choices order more choices others f.1 g)

  -- the number of a normal option
  pub choose : (order : List ℕ) (i : ℕ) (choices : List Choice) (choice : Choice) → i < length order →
      AreNormalChoices entries (take i order) choices → IsNormalChoice entries (get_or order i 0) choice
      → AreNormalChoices entries (take (i + 1) order) (choices ++ choice ∷ [])
  choose order i choices choice within f is = rw (take_more order i 0 within)
      (more_choices (take i order) (get_or order i 0 ∷ []) choices (choice ∷ []) f (inl (choice, [], refl, is, refl)))

  -- a number that has none
  pub pass : (order : List ℕ) (i : ℕ) (choices : List Choice) → i < length order →
      AreNormalChoices entries (take i order) choices → ((choice : Choice) → IsNormalChoice entries (get_or order i 0) choice → ⊥)
      → AreNormalChoices entries (take (i + 1) order) choices
  pass order i choices within f none =
      rw (take_more order i 0 within) (subst (AreNormalChoices entries (take i order ++ get_or order i 0 ∷ []))
      (append-nil choices) (more_choices (take i order) (get_or order i 0 ∷ []) choices [] f (inr (none, refl))))

  -- an option that isn't normal leaves none that is
  no_other : SpellsOne → (number : ℕ) (choice : Choice) → IsChoice entries number choice → ¬ IsNormal choice.option.attributes →
      (other : Choice) → IsNormalChoice entries number other → ⊥
  no_other one number choice is odd other f = odd (subst (λ (c : Choice). IsNormal c.option.attributes) (one_choice one entries number other choice f.0 is) f.1)

-- ---- what there is at all

-- an option is normal, or isn't
normal_or_not : (attributes : ℕ) → IsNormal attributes ⊎ (¬ IsNormal attributes)
normal_or_not attributes =
    ⊎_elim (λ off. inr (λ normal. normal.0 off.1))
    (λ active. ⊎_elim (λ boot. inl (active.1, boot.1)) (λ other. inr (λ normal. other.1 normal.1)) (eqb_tells (category_of attributes) category_boot))
    (eqb_tells (bit_and attributes active_bit) 0)

-- bytes spell a load option, or none
abbrev pub SpellsOrNot : Type 0
SpellsOrNot = (bytes : List ℕ) → AllByRecursion IsByte bytes →
    ((option : OptionParts) × SpellsOption bytes option) ⊎ ((option : OptionParts) → SpellsOption bytes option → ⊥)

module _ (one : SpellsOne) (spells : SpellsOrNot) (entries : ℕ → Option (List ℕ)) (are : (number : ℕ) → IfSome (entries number) (AllByRecursion IsByte)) where
  stored_choice : (number : ℕ) (stored : Option (List ℕ)) → entries number ≡ stored → IfSome stored (AllByRecursion IsByte)
      → ((choice : Choice) × IsChoice entries number choice) ⊎ ((choice : Choice) → IsChoice entries number choice → ⊥)
  stored_choice number None e valid = inr (λ choice is. let stored = is.1.stored in cc)
  stored_choice number (Some bytes) e valid =
      ⊎_elim (λ option. inl (choice_of number option.0, (refl, record { bytes = bytes; stored = e; spelled = option.1 })))
      (λ none. inr (λ choice is. let stored = is.1.stored in let same : is.1.bytes ≡ bytes = cc in
      none choice.option (subst (λ (t : List ℕ). SpellsOption t choice.option) same is.1.spelled)))
      (spells bytes valid)

  a_choice : (number : ℕ) → ((choice : Choice) × IsChoice entries number choice) ⊎ ((choice : Choice) → IsChoice entries number choice → ⊥)
  a_choice number = stored_choice number (entries number) refl (are number)

  a_normal_choice : (number : ℕ) → ((choice : Choice) × IsNormalChoice entries number choice) ⊎ ((choice : Choice) → IsNormalChoice entries number choice → ⊥)
  a_normal_choice number =
      ⊎_elim (λ c. ⊎_elim (λ normal. inl (c.0, (c.1, normal))) (λ odd. inr (no_other entries one number c.0 c.1 odd)) (normal_or_not c.0.option.attributes))
      (λ none. inr (λ choice is. none choice is.0))
      (a_choice number)

  a_next : (next : Option ℕ) → (choice : Option Choice) × IsNextChoice entries next choice
  a_next None = (None, refl)
  a_next (Some number) = ⊎_elim (λ c. (Some c.0, c.1)) (λ none. (None, none)) (a_choice number)

  some_normal : (order : List ℕ) → (choices : List Choice) × AreNormalChoices entries order choices
  some_normal [] = ([], refl)
  some_normal (number ∷ order) =
      let others = some_normal order in
      ⊎_elim (λ c. (c.0 ∷ others.0, inl (c.0, others.0, refl, c.1, others.1))) (λ none. (others.0, inr (none, others.1))) (a_normal_choice number)

  pub a_plan : (order : List ℕ) (next : Option ℕ) → (plan : PlanParts) × IsPlan entries order next plan
  a_plan order next = let first = a_next next in let others = some_normal order in (plan_parts first.0 others.0, record { first = first.1; others = others.1 })

-- a number of the order, here at its place, with a normal option
pub has_normal : SpellsOne → (entries : ℕ → Option (List ℕ)) (order : List ℕ) (choices : List Choice) (number : ℕ)
    (choice : Choice) (place : ℕ) → place < length order → get_or order place number ≡ number
    → AreNormalChoices entries order choices → IsNormalChoice entries number choice → Contains choices choice
has_normal one entries [] choices number choice place within at f is = absurd (omega arith)
has_normal one entries (n ∷ order) choices number choice zero within at (inl f) is =
    let same : f.0 ≡ choice = one_choice one entries number f.0 choice (subst (λ (m : ℕ). IsChoice entries m f.0) at f.3.0) is.0 in
    subst (λ (cs : List Choice). Contains cs choice) (sym f.2) (0, omega arith, same)
has_normal one entries (n ∷ order) choices number choice zero within at (inr f) is =
    absurd (f.0 choice (subst (λ (m : ℕ). IsNormalChoice entries m choice) (sym at) is))
has_normal one entries (n ∷ order) choices number choice (suc place) within at (inl f) is =
    subst (λ (cs : List Choice). Contains cs choice) (sym f.2)
    (Contains-append_right (f.0 ∷ []) f.1 choice (has_normal one entries order f.1 number choice place (omega arith) at f.4 is))
has_normal one entries (n ∷ order) choices number choice (suc place) within at (inr f) is =
    has_normal one entries order choices number choice place (omega arith) at f.1 is

-- ---- entries that are equal

other_choice : (entries others : ℕ → Option (List ℕ)) (number : ℕ) (choice : Choice) → entries number ≡ others number →
    IsChoice entries number choice → IsChoice others number choice
other_choice entries others number choice e is = (is.0, record { bytes = is.1.bytes; stored = sym e ∙ is.1.stored; spelled = is.1.spelled })

module _ (entries others : ℕ → Option (List ℕ)) (same : (number : ℕ) → IsEntryNumber number → entries number ≡ others number) where
  other_next : (next : Option ℕ) (choice : Option Choice) → IfSome next IsEntryNumber → IsNextChoice entries next choice → IsNextChoice others next choice
  other_next None choice valid f = f
  other_next (Some number) (Some choice) valid f = other_choice entries others number choice (same number valid) f
  other_next (Some number) None valid f = λ choice is. f choice (other_choice others entries number choice (sym (same number valid)) is)

  other_normal : (order : List ℕ) (choices : List Choice) → AllByRecursion IsEntryNumber order →
      AreNormalChoices entries order choices → AreNormalChoices others order choices
  other_normal [] choices valid f = f
  other_normal (number ∷ order) choices valid (inl f) = inl (
    f.0,
    f.1,
    f.2,
    (other_choice entries others number f.0 (same number valid.0) f.3.0, f.3.1),
    other_normal order f.1 valid.1 f.4,
  )
  other_normal (number ∷ order) choices valid (inr f) =
      inr (λ choice is. f.0 choice (other_choice others entries number choice (sym (same number valid.0)) is.0, is.1), other_normal order choices valid.1 f.1)

  pub other_plan : (order : List ℕ) (next : Option ℕ) (plan : PlanParts) → AllByRecursion IsEntryNumber order →
      IfSome next IsEntryNumber → IsPlan entries order next plan → IsPlan others order next plan
  other_plan order next plan numbers number is = record {
    first = other_next next plan.next number is.first;
    others = other_normal order plan.normal numbers is.others;
  }

-- ---- of variables

pub plan_found : (vars : Variables) (order : List ℕ) (number : Option ℕ) (next : Option Choice) (normal : List Choice) →
    HasOrder vars order → HasNext vars number → IsNextChoice (entry_of vars) number next
    → AreNormalChoices (entry_of vars) order normal → HasPlan vars (plan_parts next normal)
plan_found vars order number next normal has_order has_next first others =
    record { order = order; next = number; has_order = has_order; has_next = has_next; is = record { first = first; others = others } }
