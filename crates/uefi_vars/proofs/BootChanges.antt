-- The changes from one set to another.
use Rattle.std.proofs.Common.{◌≡◌, ◌≢◌, ◌⊎◌, ◌↔◌, ℕ, ◌<◌, ◌^◌, true, false, cond, List, [], ◌∷◌, map, take, Option, Some, None, Contains}
use Rattle.std.proofs.Common.{inl, inr, refl, sym, ap, subst, ◌∙◌}
use Rattle.std.specs.Option.{option_map}
use Rattle.std.specs.List.{AllByRecursion, IsDistinct, list_any, slice_get}
use Rattle.std.specs.FinMap.{get}
use Rattle.std.proofs.lemmas.Bool.{or_left, or_right, cond-false, true≢false}
use Rattle.std.proofs.lemmas.List.{take-map}
use Rattle.std.proofs.lemmas.Option.{slice_get-map}
use Rattle.uefi_vars.specs.Name.{entry_text, order_text, next_text, timeout_text}
use Rattle.uefi_vars.specs.Vars.{Variables}
use Rattle.uefi_vars.specs.NameChanges.{after_each}
use Rattle.uefi_vars.specs.BootChange.{ChangeParts, same_name, is_boot_name, changed_names, change_under, changes_from, new_data, IsNeeded}
use Rattle.uefi_vars.specs.BootChange.{order_in, DanglesInOrder, DanglesAsNext}
use Rattle.uefi_vars.proofs.NameTests.{same_name-refl}
use Rattle.uefi_vars.proofs.Distinct.{before_apart}
use Rattle.uefi_vars.proofs.Afterwards.{get_after}
use Rattle.uefi_vars.proofs.Members.{left_alone, changed_is_boot, changed_differs}
use Rattle.uefi_vars.proofs.Fronts.{IsNoEntry, now_under, changed_distinct, order_alike, next_alike}

names_of_changes : (from to : Variables) (names : List (List ℕ)) → map (λ (change : ChangeParts). change.name) (map (change_under from to) names) ≡ names
names_of_changes from to [] = refl
names_of_changes from to (name ∷ names) = ap (λ (t : List (List ℕ)). name ∷ t) (names_of_changes from to names)

-- what is under a name once the first of the changes are made
after_some : (from to : Variables) (made : ℕ) (q : List ℕ) →
    get (after_each from (new_data (take made (changes_from from to)))) q ≡ now_under from to (take made (changed_names from to)) q
after_some from to made q =
    ap (λ (changes : List ChangeParts). get (after_each from (new_data changes)) q) (take-map (change_under from to) made (changed_names from to))
    ∙ get_after from to (take made (changed_names from to)) from q

-- ---- all of them

module _ (from to : Variables) where
  pub after_boot : (q : List ℕ) → is_boot_name q ≡ true → get (after_each from (new_data (changes_from from to))) q ≡ get to q
  after_boot q boot =
      get_after from to (changed_names from to) from q
      ∙ elim (list_any (same_name q) (changed_names from to)) as
      (λ b. list_any (same_name q) (changed_names from to) ≡ b → cond b (get to q) (get from q) ≡ get to q) [
        | true ↦ λ e. refl
        | false ↦ λ e. left_alone from to q e boot
      ] refl

  pub after_others : (q : List ℕ) → is_boot_name q ≡ false → get (after_each from (new_data (changes_from from to))) q ≡ get from q
  after_others q other =
      get_after from to (changed_names from to) from q
      ∙ elim (list_any (same_name q) (changed_names from to)) as
      (λ b. list_any (same_name q) (changed_names from to) ≡ b → cond b (get to q) (get from q) ≡ get from q) [
        | true ↦ λ e. absurd (true≢false (sym (changed_is_boot from to q e) ∙ other))
        | false ↦ λ e. refl
      ] refl

  needed : (names : List (List ℕ)) → ((q : List ℕ) → list_any (same_name q) names ≡ true → list_any (same_name q) (changed_names from to) ≡ true) →
      AllByRecursion (IsNeeded from to) (map (change_under from to) names)
  needed [] among = tt
  needed (name ∷ names) among =
      let here = among name (or_left _ (list_any (same_name name) names) (same_name-refl name)) in (
        record { boot = changed_is_boot from to name here; before = refl; after = refl; differ = changed_differs from to name here },
        needed names (λ q is. among q (or_right (same_name q name) _ is)),
      )

  pub each_needed : AllByRecursion (IsNeeded from to) (changes_from from to)
  each_needed = needed (changed_names from to) (λ q is. is)

  none_of : (names : List (List ℕ)) → ((q : List ℕ) → list_any (same_name q) names ≡ false) → names ≡ []
  none_of [] none = refl
  none_of (name ∷ names) none = absurd (true≢false (sym (or_left _ (list_any (same_name name) names) (same_name-refl name)) ∙ none name))

  no_names : (names : List (List ℕ)) → map (change_under from to) names ≡ [] → names ≡ []
  no_names [] e = refl
  no_names (name ∷ names) e = cc

  pub none_needed : (changes_from from to ≡ []) ↔ ((q : List ℕ) → is_boot_name q ≡ true → get from q ≡ get to q)
  none_needed = (
    (λ e q boot. left_alone from to q (ap (λ (names : List (List ℕ)). list_any (same_name q) names) (no_names (changed_names from to) e)) boot),
    (λ same. ap (map (change_under from to)) (none_of (changed_names from to) (λ q.
        elim (list_any (same_name q) (changed_names from to)) as (λ b. list_any (same_name q) (changed_names from to) ≡ b → b ≡ false) [
          | true ↦ λ e. absurd (changed_differs from to q e (same q (changed_is_boot from to q e)))
          | false ↦ λ e. refl
        ] refl))),
  )

-- ---- one after the other

module _ (from to : Variables) (no_order : IsNoEntry order_text) (no_next : IsNoEntry next_text) (differ : order_text ≢ next_text) where
  module _ (no_timeout : IsNoEntry timeout_text) where
    pub changes_distinct : IsDistinct same_name (map (λ (change : ChangeParts). change.name) (changes_from from to))
    changes_distinct =
        subst (IsDistinct same_name) (sym (names_of_changes from to (changed_names from to)))
        (changed_distinct from to no_order no_next differ no_timeout)

    found_name : (o : Option (List ℕ)) (change : ChangeParts) → option_map (change_under from to) o ≡ Some change →
        (name : List ℕ) × (o ≡ Some name) × (change ≡ change_under from to name)
    found_name None change e = cc
    found_name (Some name) change e = (name, refl, cc)

    pub replaces : (place : ℕ) (change : ChangeParts) → slice_get (changes_from from to) place ≡ Some change →
        get (after_each from (new_data (take place (changes_from from to)))) change.name ≡ change.before
    replaces place change at =
        let found = found_name (slice_get (changed_names from to) place) change (sym (slice_get-map (change_under from to) (changed_names from to) place) ∙ at) in
        let name = found.0 in
        let unseen = before_apart (changed_names from to) place name (changed_distinct from to no_order no_next differ no_timeout) found.1 in
        ap (λ (c : ChangeParts). get (after_each from (new_data (take place (changes_from from to)))) c.name) found.2
        ∙ after_some from to place name ∙ cond-false _ (get to name) (get from name) unseen ∙ ap (λ (c : ChangeParts). c.before) (sym found.2)

  module _ (made number : ℕ) (below : number < 2 ^ 16) where
    abbrev now : Variables
    now = after_each from (new_data (take made (changes_from from to)))

    pub order_dangles : DanglesInOrder now number → DanglesInOrder from number ⊎ DanglesInOrder to number
    order_dangles h =
        let order = after_some from to made order_text in
        elim (order_alike from to no_order no_next differ made number below (sym (after_some from to made (entry_text number)) ∙ h.1)) [
          | inl before ↦ inl (subst (λ (o : Option (List ℕ)). Contains (order_in o) number) (order ∙ before.0) h.0, before.1)
          | inr after ↦ inr (subst (λ (o : Option (List ℕ)). Contains (order_in o) number) (order ∙ after.0) h.0, after.1)
        ]

    pub next_dangles : DanglesAsNext now number → DanglesAsNext from number ⊎ DanglesAsNext to number
    next_dangles h =
        let next = after_some from to made next_text in
        elim (next_alike from to no_order no_next differ made number below (sym (after_some from to made (entry_text number)) ∙ h.3)) [
          | inl before ↦ inl (h.0, sym (next ∙ before.0) ∙ h.1, h.2, before.1)
          | inr after ↦ inr (h.0, sym (next ∙ after.0) ∙ h.1, h.2, after.1)
        ]
