-- What is kept of the numbers of an order that were met.
use Rattle.std.proofs.Common.{◌≡◌, inl, inr, ℕ, zero, suc, ◌+◌, ◌<◌, true, false, cond, eqb, List, [], ◌∷◌, ◌++◌, length, take, get_or, arith}
use Rattle.std.proofs.Common.{Option, Some, None, IfSome, sym, ap, subst, ◌∙◌}
use Rattle.std.specs.Prelude.{◌&&◌, ◌||◌, is_some}
use Rattle.std.proofs.lemmas.Bool.{cases_Bool, false≢true}
use Rattle.std.proofs.lemmas.Bool.Decides.{nat_tests}
use Rattle.std.proofs.lemmas.List.Folds.{list_any-append, list_any_more, list_any_at}
use Rattle.uefi_vars.specs.declared.by_number.ByNumber.{ByNumber}
use Rattle.uefi_vars.specs.ByNumber.{is_in, is_repeated, place_of, kept_in, kept_at, EachTells, HasMet}

-- one more number in a list
pub in_push : (numbers : List ℕ) (number other : ℕ) → is_in (numbers ++ number ∷ []) other ≡ (is_in numbers other || eqb number other)
in_push numbers number other = list_any-append (λ n. eqb n other) numbers (number ∷ []) ∙ grind arith

-- the last of a list repeats a number if it is there before
pub repeated_push : (numbers : List ℕ) (number other : ℕ) →
    is_repeated (numbers ++ number ∷ []) other ≡ (is_repeated numbers other || (eqb number other && is_in numbers other))
repeated_push [] number other = grind arith
repeated_push (first ∷ numbers) number other = grind (arith, in_push numbers number other, repeated_push numbers number other)

-- a number that is in front of its place is repeated
pub repeated_at : (order : List ℕ) (place : ℕ) → place < length order → is_in (take place order) (get_or order place 0) ≡ true →
    is_repeated order (get_or order place 0) ≡ true
repeated_at [] place within there = absurd (omega (arith, within))
repeated_at (first ∷ order) zero within there = absurd (false≢true there)
repeated_at (first ∷ order) (suc place) within there =
    let behind : place < length order = omega (arith, within) in
    let number = get_or order place 0 in
    let self : eqb number number ≡ true = grind (arith, nat_tests) in
    let is : is_in order number ≡ true = list_any_at (λ n. eqb n number) order place 0 behind self in
    elim (cases_Bool (is_in (take place order) number)) [
      | inl t ↦ let more = repeated_at order place behind t in grind (arith, is, more)
      | inr t ↦ grind (arith, is, there, t)
    ]

-- a number that comes again gets a place
pub placed_again : {T : Type 0} (numbers : List ℕ) (number other : ℕ) (old new : Option (Option T)) → is_in numbers number ≡ true →
    old ≡ cond (is_repeated numbers other) (Some None) None → new ≡ cond (eqb other number) (Some None) old →
    new ≡ cond (is_repeated (numbers ++ number ∷ []) other) (Some None) None
placed_again numbers number other old new there was is =
    let more = repeated_push numbers number other in
    elim (cases_Bool (eqb number other)) [
      | inl t ↦
          let same : number ≡ other = grind (arith, nat_tests, t) in
          let back : eqb other number ≡ true = grind (arith, nat_tests, t) in
          let there_too = subst (λ n. is_in numbers n ≡ true) same there in
          grind (arith, more, is, t, back, there_too)
      | inr t ↦ let back : eqb other number ≡ false = grind (arith, nat_tests, t) in grind (arith, more, is, was, t, back)
    ]

-- a number that is new gets none
pub placed_before : {T : Type 0} (numbers : List ℕ) (number other : ℕ) (old : Option (Option T)) → is_in numbers number ≡ false →
    old ≡ cond (is_repeated numbers other) (Some None) None → old ≡ cond (is_repeated (numbers ++ number ∷ []) other) (Some None) None
placed_before numbers number other old new was =
    let more = repeated_push numbers number other in
    elim (cases_Bool (eqb number other)) [
      | inl t ↦
          let same : number ≡ other = grind (arith, nat_tests, t) in
          let new_too = subst (λ n. is_in numbers n ≡ false) same new in
          grind (arith, more, was, new_too)
      | inr t ↦ grind (arith, more, was, t)
    ]

-- the value is kept of the number, if it has a place, and nothing else changes
abbrev pub IsKeptOf : {T : Type 0} → ByNumber T → ByNumber T → ℕ → T → Type 0
IsKeptOf old new number value = (other : ℕ) →
    place_of new other ≡ cond (eqb other number && is_some (place_of old other)) (Some (Some value)) (place_of old other)

module _ {T : Type 0} (order : List ℕ) (place : ℕ) where
  -- at the front of the order nothing is kept
  pub met_none : (table : ByNumber T) → ((number : ℕ) → place_of table number ≡ cond (is_repeated order number) (Some None) None) → HasMet order 0 table
  met_none table is = record {
    places = λ number. ap is_some (is number) ∙ grind arith;
    kept = λ number. ap (λ o. is_some (kept_in o)) (is number) ∙ grind arith;
  }

  -- of what nothing is kept, it comes here first
  pub comes_first : (table : ByNumber T) → place < length order → HasMet order place table → kept_at table (get_or order place 0) ≡ None →
      is_in (take place order) (get_or order place 0) ≡ false
  comes_first table within met none = elim (cases_Bool (is_in (take place order) (get_or order place 0))) [
    | inl t ↦
        let again = repeated_at order place within t in
        let kept = met.kept (get_or order place 0) in
        let no = ap is_some none in
        grind (arith, again, kept, no, t)
    | inr t ↦ t
  ]

  -- of what something is kept, nothing more has to be
  pub met_again : (table : ByNumber T) → place < length order → HasMet order place table → is_some (kept_at table (get_or order place 0)) ≡ true →
      HasMet order (place + 1) table
  met_again table within met some = record {
    places = met.places;
    kept = λ other.
        let more = list_any_more (λ n. eqb n other) order place 0 within in
        let kept = met.kept other in
        let here = met.kept (get_or order place 0) in
        elim (cases_Bool (eqb (get_or order place 0) other)) [
          | inl t ↦ let is : get_or order place 0 ≡ other = grind (arith, nat_tests, t) in
              let at = subst (λ n. is_some (kept_at table n) ≡ true) is some in
              grind (arith, more, kept, at, t)
          | inr t ↦ grind (arith, more, kept, t)
        ];
  }

  -- what is kept of the number here, if it has a place
  pub met_first : (old new : ByNumber T) (value : T) → place < length order → HasMet order place old → IsKeptOf old new (get_or order place 0) value →
      HasMet order (place + 1) new
  met_first old new value within met is = record {
    places = λ other. same_places other ∙ met.places other;
    kept = λ other.
        let number = get_or order place 0 in
        let more = list_any_more (λ n. eqb n other) order place 0 within in
        let places = met.places other in
        let kept = met.kept other in
        let new_kept = ap (λ o. is_some (kept_in o)) (is other) in
        elim (cases_Bool (eqb number other)) [
          | inl t ↦
              let back : eqb other number ≡ true = grind (arith, nat_tests, t) in
              elim (cases_Bool (is_some (place_of old other))) [
                | inl has ↦ grind (arith, more, places, new_kept, t, back, has)
                | inr has ↦ grind (arith, more, places, new_kept, kept, t, back, has)
              ]
          | inr t ↦ let back : eqb other number ≡ false = grind (arith, nat_tests, t) in grind (arith, more, kept, new_kept, t, back)
        ];
  }
    where
      same_places : (other : ℕ) → is_some (place_of new other) ≡ is_some (place_of old other)
      same_places other = ap is_some (is other) ∙ grind arith

-- what is newly kept tells of its entry, so all still do
pub still_tell : {T : Type 0} (Holds : ℕ → T → Type 0) (old new : ByNumber T) (number : ℕ) (value : T) → EachTells Holds old → Holds number value
    → IsKeptOf old new number value → EachTells Holds new
still_tell Holds old new number value each holds is = λ other.
    subst (λ o. IfSome (kept_in o) (Holds other)) (sym (is other)) (
    elim (cases_Bool (eqb other number && is_some (place_of old other))) [
      | inl t ↦
          let same : number ≡ other = grind (arith, nat_tests, t) in
          subst (λ b. IfSome (kept_in (cond b (Some (Some value)) (place_of old other))) (Holds other)) (sym t) (subst (λ n. Holds n value) same holds)
      | inr t ↦ subst (λ b. IfSome (kept_in (cond b (Some (Some value)) (place_of old other))) (Holds other)) (sym t) (each other)
    ])
