-- Going over variables for the entries at risk: the numbers that are found are those of the definitions.
use Rattle.std.proofs.Common.{◌≡◌, ℕ, ◌+◌, ◌<◌, ◌≤◌, ◌^◌, ◌↔◌, List, [], ◌∷◌, ◌++◌, length, take, get_or, slice_get, Contains, All, Option}
use Rattle.std.proofs.Common.{Some, None, IsSome, IsTrue, is_some, nat_cmp, BTreeSet, refl, sym, ap, subst, ◌∙◌, ⊎_elim, arith}
use Rattle.std.specs.BTreeSet.{contains}
use Rattle.std.specs.Cmp.{nat_cmp_is}
use Rattle.std.specs.FinMap.{get, entries}
use Rattle.std.specs.declared.cmp.Ordering.TheVariants.{Less}
use Rattle.std.proofs.lemmas.Bool.{cases_lt, false≢true, false_from_ne_true}
use Rattle.std.proofs.lemmas.Bool.Decides.{same_from_decides}
use Rattle.std.proofs.lemmas.Cmp.{nat_cmp_total}
use Rattle.std.proofs.lemmas.List.{length-map, take_all, take_more}
use Rattle.std.proofs.lemmas.List.Elements.{All-nil, All-contains, All-from_recursion, recursion_from_All, Contains-append_left}
use Rattle.std.proofs.lemmas.List.Elements.{Contains-get_or, Contains-push, Contains-push_cases}
use Rattle.std.proofs.lemmas.Map.Lookups.{btree_set_from_contains, exact_unsigned}
use Rattle.std.proofs.lemmas.Map.Views.{btree_set_contains_iff}
use Rattle.std.proofs.lemmas.Option.{slice_get_within, get_or_from_slice_get}
use Rattle.uefi_option.specs.LoadOption.{SpellsOption}
use Rattle.uefi_vars.specs.declared.named.Named.{Named}
use Rattle.uefi_vars.specs.Name.{entry_text}
use Rattle.uefi_vars.specs.Vars.{Variables, name_cmp, entry_of}
use Rattle.uefi_vars.specs.Order.{IsEntryNumber, HasOrder, HasNext}
use Rattle.uefi_vars.specs.AtRisk.{IsUnnamed, IsUndecodable, AreThose}
use Rattle.uefi_vars.specs.Records.{pair_of, pairs_of}
use Rattle.uefi_vars.specs.RiskOfVariable.{IsEntry, IsUnnamedEntry, IsUndecodableEntry, IsOfSome}
use Rattle.uefi_vars.proofs.LowestFree.{below}
use Rattle.uefi_vars.proofs.Maps.{get_contained, contained}
use Rattle.uefi_vars.proofs.Names.{names_rise, names_apart}
use Rattle.uefi_vars.proofs.Places.{not_below_itself, not_below_lower}
use Rattle.uefi_vars.proofs.Records.{Pair, none_rise, one_above}

-- ---- lists of numbers

-- two lists of which it is true are one
pub one_list : (Is : ℕ → Type 0) (a b : List ℕ) → AreThose Is a → AreThose Is b → a ≡ b
one_list Is a b f g =
    let s : BTreeSet ℕ = record { keys = a } in
    let t : BTreeSet ℕ = record { keys = b } in
    let in_s : (q : ℕ) → IsTrue (contains nat_cmp s q) ↔ Contains a q = btree_set_contains_iff nat_cmp_total exact_unsigned s in
    let in_t : (q : ℕ) → IsTrue (contains nat_cmp t q) ↔ Contains b q = btree_set_contains_iff nat_cmp_total exact_unsigned t in
    btree_set_from_contains nat_cmp_total s t f.rising g.rising
    (λ q. same_from_decides (contains nat_cmp s q) (contains nat_cmp t q) (in_s q)
    (λ yes. (f.are q).1 ((g.are q).0 ((in_t q).0 yes)), λ c. (in_t q).1 ((g.are q).1 ((f.are q).0 c)))) exact_unsigned

-- what is true of the same numbers has the same lists
pub those_along : (P Q : ℕ → Type 0) (numbers : List ℕ) → ((number : ℕ) → P number ↔ Q number) → AreThose P numbers → AreThose Q numbers
those_along P Q numbers same those = record {
  rising = those.rising;
  are = λ number. (λ c. (same number).0 ((those.are number).0 c), λ q. (those.are number).1 ((same number).1 q));
}

in_none : {X : Type 0} (x : X) → Contains [] x → ⊥
in_none {X} x c = All-contains (λ (y : X). ⊥) [] x (All-nil (λ (y : X). ⊥)) c

-- a higher name of an entry has a higher number
numbers_rise : (m n : ℕ) → m < 2 ^ 16 → name_cmp (entry_text m) (entry_text n) ≡ Less → m < n
numbers_rise m n fits less =
    ⊎_elim (λ low. low)
    (λ high. absurd (⊎_elim (λ lower. not_below_lower (entry_text n) (entry_text m) (names_rise n m lower fits) less)
    (λ back. let same : m ≡ n = omega arith in not_below_itself (entry_text n)
    (ap (λ (k : ℕ). name_cmp (entry_text k) (entry_text n)) (sym same) ∙ less)) (cases_lt n m)))
    (cases_lt m n)

-- ---- one variable after the other

-- it is of some of more variables, too
of_more : (Is : Pair → ℕ → Type 0) (pairs : List Pair) (p : Pair) (n : ℕ) → IsOfSome Is pairs n → IsOfSome Is (pairs ++ p ∷ []) n
of_more Is pairs p n h = record { variable = h.variable; among = Contains-append_left pairs (p ∷ []) h.variable h.among; here = h.here }

-- it is of some of the first variables, or of the last one
of_before : (Is : Pair → ℕ → Type 0) (pairs : List Pair) (p : Pair) (n : ℕ) (R : Type 0) → (IsOfSome Is pairs n → R) →
    (Is p n → R) → IsOfSome Is (pairs ++ p ∷ []) n → R
of_before Is pairs p n R before last h =
    ⊎_elim (λ among. before (record { variable = h.variable; among = among; here = h.here }))
    (λ e. last (subst (λ (q : Pair). Is q n) (sym e) h.here)) (Contains-push_cases pairs p h.variable h.among)

module _ (Is : Pair → ℕ → Type 0) where
  pub none_those : AreThose (IsOfSome Is []) []
  none_those = record { rising = none_rise nat_cmp; are = λ n. (λ c. absurd (in_none n c), λ h. absurd (in_none h.variable h.among)) }

  module _ (pairs : List Pair) (p : Pair) (numbers : List ℕ) (those : AreThose (IsOfSome Is pairs) numbers) where
    without_it : ((n : ℕ) → Is p n → ⊥) → AreThose (IsOfSome Is (pairs ++ p ∷ [])) numbers
    without_it none = record {
      rising = those.rising;
      are = λ n. (
        λ c. of_more Is pairs p n ((those.are n).0 c),
        λ h. of_before Is pairs p n (Contains numbers n) (those.are n).1 (λ here. absurd (none n here)) h,
      );
    }

    module _ (entry : (q : Pair) (n : ℕ) → Is q n → IsEntry q n) (number : ℕ) (here : Is p number) where
      one_number : (n : ℕ) → Is p n → number ≡ n
      one_number n other =
          let mine = entry p number here in
          let its = entry p n other in
          names_apart number n mine.is its.is (sym mine.name ∙ its.name)

      lower : All (λ (q : Pair). name_cmp q.0 (entry_text number) ≡ Less) pairs → (n : ℕ) → Contains numbers n → nat_cmp n number ≡ Less
      lower low n c =
          let h = (those.are n).0 c in
          let its = entry h.variable n h.here in
          let less = All-contains (λ (q : Pair). name_cmp q.0 (entry_text number) ≡ Less) pairs h.variable low h.among in
          sym (nat_cmp_is n number Less (numbers_rise n number its.is (ap (λ (name : List ℕ). name_cmp name (entry_text number)) (sym its.name) ∙ less)))

      with_it : All (λ (q : Pair). name_cmp q.0 (entry_text number) ≡ Less) pairs → AreThose (IsOfSome Is (pairs ++ p ∷ [])) (numbers ++ number ∷ [])
      with_it low = record {
        rising = one_above nat_cmp numbers number those.rising (recursion_from_All (λ (n : ℕ). nat_cmp n number ≡ Less) numbers
            (λ k d within. lower low (get_or numbers k d) (Contains-get_or numbers k d within)));
        are = λ n. (
          λ c. ⊎_elim (λ before. of_more Is pairs p n ((those.are n).0 before))
              (λ e. record { variable = p; among = Contains-push pairs p; here = subst (Is p) e here })
              (Contains-push_cases numbers number n c),
          λ h. of_before Is pairs p n (Contains (numbers ++ number ∷ []) n) (λ before. Contains-append_left numbers (number ∷ []) n ((those.are n).1 before))
              (λ other. subst (Contains (numbers ++ number ∷ [])) (one_number n other) (Contains-push numbers number)) h,
        );
      }

-- no number of a variable, of which each would have been found
pub none_here : (Is : ℕ → Type 0) (found : Option ℕ) → found ≡ None → ((n : ℕ) → Is n → found ≡ Some n) → (n : ℕ) → Is n → ⊥
none_here Is found none only n here = let is = only n here in cc

-- the numbers are those of the first variables
abbrev pub AreOfFirst : (Pair → ℕ → Type 0) → Variables → ℕ → List ℕ → Type 0
AreOfFirst Is vars i numbers = AreThose (IsOfSome Is (take i (entries vars))) numbers

module _ (Is : Pair → ℕ → Type 0) (vars : Variables) (i : ℕ) (p : Pair) (at : slice_get (entries vars) i ≡ Some p)
    (numbers : List ℕ) (those : AreOfFirst Is vars i numbers) where
  one_more : take (i + 1) (entries vars) ≡ take i (entries vars) ++ p ∷ []
  one_more =
      take_more (entries vars) i p (slice_get_within (entries vars) i p at)
      ∙ ap (λ (q : Pair). take i (entries vars) ++ q ∷ []) (get_or_from_slice_get (entries vars) i p p at)

  -- the next variable is none of them
  pub pass_it : ((n : ℕ) → Is p n → ⊥) → AreOfFirst Is vars (i + 1) numbers
  pass_it none = subst (λ (ps : List Pair). AreThose (IsOfSome Is ps) numbers) (sym one_more) (without_it Is (take i (entries vars)) p numbers those none)

  -- the next variable is one, of this number
  pub add_it : ((q : Pair) (n : ℕ) → Is q n → IsEntry q n) → (number : ℕ) → Is p number → AreOfFirst Is vars (i + 1) (numbers ++ number ∷ [])
  add_it entry number here =
      let low = All-from_recursion (λ (q : Pair). name_cmp q.0 (entry_text number) ≡ Less) (take i (entries vars))
      (below vars i p at number (entry p number here).name) in
      subst (λ (ps : List Pair). AreThose (IsOfSome Is ps) (numbers ++ number ∷ [])) (sym one_more)
      (with_it Is (take i (entries vars)) p numbers those entry number here low)

-- all variables are gone over
pub all_those : (Is : Pair → ℕ → Type 0) (vars : Variables) (variables : List (Named (List ℕ))) (i : ℕ) (numbers : List ℕ) →
    pairs_of variables ≡ entries vars → length variables ≤ i → AreOfFirst Is vars i numbers →
    AreThose (IsOfSome Is (entries vars)) numbers
all_those Is vars variables i numbers pairs past those =
    let end : length (entries vars) ≤ i = omega (arith, ap length pairs, length-map variables pair_of) in
    subst (λ (ps : List Pair). AreThose (IsOfSome Is ps) numbers) (take_all i (entries vars) end) those

-- ---- what variables tell, and what is stored

value_of : {X : Type 0} (o : Option X) → IsSome o → (x : X) × (o ≡ Some x)
value_of None some = absurd (false≢true some)
value_of (Some x) some = (x, refl)

module _ (vars : Variables) (order : List ℕ) (has : HasOrder vars order) (one : (a : List ℕ) → HasOrder vars a → a ≡ order)
    (named : BTreeSet ℕ) (tells : (n : ℕ) → IsTrue (contains nat_cmp named n) ↔ Contains order n) where
  stored_is : (p : Pair) (n : ℕ) → Contains (entries vars) p → IsEntry p n → entry_of vars n ≡ Some p.1
  stored_is p n among entry = ap (λ (name : List ℕ). get vars name) (sym entry.name) ∙ get_contained vars p among

  pub unnamed_is : (next : Option ℕ) → HasNext vars next → ((a : Option ℕ) → HasNext vars a → a ≡ next) → (n : ℕ) →
      IsOfSome (IsUnnamedEntry named next) (entries vars) n ↔ IsUnnamed vars n
  unnamed_is next has_next one_next n = (
    λ h. record {
      is = h.here.entry.is;
      stored = ap is_some (stored_is h.variable n h.among h.here.entry);
      in_no_order = λ other has_other within. false≢true (sym h.here.not_named
          ∙ (tells n).1 (subst (λ (a : List ℕ). Contains a n) (one other has_other) within));
      not_next = λ is_next. h.here.not_next (sym (one_next (Some n) is_next));
    },
    λ u.
        let found = value_of (entry_of vars n) u.stored in
        record {
          variable = (entry_text n, found.0);
          among = contained vars (entry_text n) found.0 found.1;
          here = record {
            entry = record { is = u.is; name = refl };
            not_named = false_from_ne_true _ (λ yes. u.in_no_order order has ((tells n).0 yes));
            not_next = λ e. u.not_next (subst (HasNext vars) e has_next);
          };
        },
  )

  pub undecodable_is : (n : ℕ) → IsOfSome (IsUndecodableEntry named) (entries vars) n ↔ IsUndecodable vars n
  undecodable_is n = (
    λ h.
        let is = stored_is h.variable n h.among h.here.entry in
        record {
          order = order;
          has_order = has;
          named = (tells n).0 h.here.is_named;
          stored = ap is_some is;
          no_option = λ option has_option.
              let stored = has_option.stored in
              let same : has_option.bytes ≡ h.variable.1 = cc in
              h.here.no_option option (subst (λ (bytes : List ℕ). SpellsOption bytes option) same has_option.spelled);
        },
    λ u.
        let found = value_of (entry_of vars n) u.stored in
        record {
          variable = (entry_text n, found.0);
          among = contained vars (entry_text n) found.0 found.1;
          here = record {
            entry = record { is = All-contains IsEntryNumber u.order n (All-from_recursion IsEntryNumber u.order u.has_order.is.numbers) u.named; name = refl };
            is_named = (tells n).1 (subst (λ (a : List ℕ). Contains a n) (one u.order u.has_order) u.named);
            no_option = λ option spells. u.no_option option (record { bytes = found.0; stored = found.1; spelled = spells });
          };
        },
  )
