-- Going over rising numbers for the entries that are among them and not among others, and what a change of variables makes
-- of entries that neither BootOrder nor BootNext names.
use Rattle.std.proofs.Common.{◌≡◌, ℕ, ◌+◌, ◌<◌, ◌≤◌, ◌↔◌, List, [], ◌∷◌, ◌++◌, length, take, get_or}
use Rattle.std.proofs.Common.{Contains, Option, Some, None, Result, Ok, Err, IfSome, IsSome, IsTrue, is_some, is_ok, option_map, Bor}
use Rattle.std.proofs.Common.{nat_cmp, refl, sym, ap, subst, ◌∙◌, ⊎_elim, arith}
use Rattle.std.specs.Cmp.{nat_cmp_is}
use Rattle.std.specs.List.Sorted.{IsStrictlySortedBy, IsBinarySearchResult}
use Rattle.std.specs.declared.cmp.Ordering.TheVariants.{Less}
use Rattle.std.proofs.lemmas.Bool.{cases_lt, false≢true}
use Rattle.std.proofs.lemmas.List.{get_or-take, get_or_default, length-take-le, take_all, take_more}
use Rattle.std.proofs.lemmas.List.Elements.{recursion_from_All, Contains-append_left, Contains-get_or, Contains-push, Contains-push_cases}
use Rattle.std.proofs.lemmas.List.Sorted.{searched}
use Rattle.std.proofs.lemmas.Map.Keys.{below_from_sorted, non_decreasing_from_sorted}
use Rattle.uefi_vars.specs.declared.at_risk.AtRisk.{AtRisk}
use Rattle.uefi_vars.specs.Vars.{Variables, entry_of}
use Rattle.uefi_vars.specs.AtRisk.{AreThose}
use Rattle.uefi_vars.proofs.EntriesAtRisk.{those_along}
use Rattle.uefi_vars.proofs.Records.{none_rise, one_above}
use Rattle.uefi_vars.specs.NamingChange.{AreReadable, IsKnownUnnamed, BecomesUnnamed, BecomesNamed, IsEntryOnlyIn}

-- ---- whether a number is among rising ones

pub found_is_among : (numbers : List ℕ) (number : ℕ) (r : Result ℕ ℕ) → IsBinarySearchResult (λ n. nat_cmp n number) numbers r
    → IsStrictlySortedBy nat_cmp numbers → IsTrue (is_ok r) ↔ Contains numbers number
found_is_among numbers number (Ok i) search rising =
    let at = searched numbers number (Ok i) search (λ j k le within. non_decreasing_from_sorted numbers rising j k 0 le within) in
    (λ yes. subst (Contains numbers) at.1 (Contains-get_or numbers i 0 at.0), λ c. refl)
found_is_among numbers number (Err i) search rising =
    let at = searched numbers number (Err i) search (λ j k le within. non_decreasing_from_sorted numbers rising j k 0 le within) in (
      λ yes. absurd (false≢true yes),
      λ c.
          let same : get_or numbers c.0 0 ≡ number = get_or_default numbers c.0 0 number c.1 ∙ c.2 in
          absurd (⊎_elim
          (λ below. let less = at.1 c.0 below in omega (arith, same, less))
          (λ past. let more = at.2 c.0 past c.1 in omega (arith, same, more)) (cases_lt c.0 i)),
    )

-- what a lookup gives is there exactly if an entry is stored
pub is_stored : (vars : Variables) (number : ℕ) (found : Option (Bor (List ℕ))) → option_map (λ bytes. bytes.now) found ≡ entry_of vars number
    → is_some (entry_of vars number) ≡ is_some found
is_stored vars number None value = ap is_some (sym value)
is_stored vars number (Some bytes) value = ap is_some (sym value)

-- ---- one number after the other

in_none : (n : ℕ) → Contains [] n → ⊥
in_none n c = let within : c.0 < 0 = c.1 in omega arith

-- no number is one of them
pub none_of : (Is : ℕ → Type 0) → ((n : ℕ) → Is n → ⊥) → AreThose Is []
none_of Is none = record { rising = none_rise nat_cmp; are = λ n. (λ c. absurd (in_none n c), λ is. absurd (none n is)) }

-- the numbers are those of the entries that are among the first numbers and not among the others
abbrev pub AreOfFirst : Variables → List ℕ → List ℕ → ℕ → List ℕ → Type 0
AreOfFirst vars numbers others i found = AreThose (IsEntryOnlyIn vars (take i numbers) others) found

pub none_of_first : (vars : Variables) (numbers others : List ℕ) → AreOfFirst vars numbers others 0 []
none_of_first vars numbers others = none_of (IsEntryOnlyIn vars [] others) (λ n is. in_none n is.among)

module _ (vars : Variables) (numbers others found : List ℕ) (i number : ℕ)
    (within : i < length numbers) (at : number ≡ get_or numbers i number) (those : AreOfFirst vars numbers others i found) where
  one_more : take (i + 1) numbers ≡ take i numbers ++ number ∷ []
  one_more = take_more numbers i number within ∙ ap (λ (n : ℕ). take i numbers ++ n ∷ []) (sym at)

  of_more : (n : ℕ) → IsEntryOnlyIn vars (take i numbers) others n → IsEntryOnlyIn vars (take i numbers ++ number ∷ []) others n
  of_more n is = record { stored = is.stored; among = Contains-append_left (take i numbers) (number ∷ []) n is.among; not_among = is.not_among }

  -- an entry among the first numbers and this one is among the first, or is this one
  of_before : (n : ℕ) (R : Type 0) → (IsEntryOnlyIn vars (take i numbers) others n → R) → (number ≡ n → R)
      → IsEntryOnlyIn vars (take i numbers ++ number ∷ []) others n → R
  of_before n R before here is =
      ⊎_elim (λ among. before (record { stored = is.stored; among = among; not_among = is.not_among })) here
      (Contains-push_cases (take i numbers) number n is.among)

  -- the next number is none of them
  pub pass_it : (IsSome (entry_of vars number) → (Contains others number → ⊥) → ⊥) → AreOfFirst vars numbers others (i + 1) found
  pass_it none = subst (λ (ns : List ℕ). AreThose (IsEntryOnlyIn vars ns others) found) (sym one_more) (record {
    rising = those.rising;
    are = λ n. (
      λ c. of_more n ((those.are n).0 c),
      λ is. of_before n (Contains found n) (those.are n).1
          (λ e. absurd (none (subst (λ (m : ℕ). IsSome (entry_of vars m)) (sym e) is.stored) (λ c. is.not_among (subst (Contains others) e c)))) is,
    );
  })

  module _ (rising : IsStrictlySortedBy nat_cmp numbers) (stored : IsSome (entry_of vars number)) (not_among : Contains others number → ⊥) where
    lower : (n : ℕ) → Contains (take i numbers) n → nat_cmp n number ≡ Less
    lower n c =
        let before : c.0 < i = omega (arith, c.1, length-take-le i numbers (omega arith)) in
        let low = below_from_sorted numbers c.0 i n rising before within in
        let its = get_or-take i numbers c.0 n before in
        let mine = get_or_default numbers i n number within in
        let less : n < number = omega (arith, low, its, c.2, mine, at) in
        sym (nat_cmp_is n number Less less)

    it_is : IsEntryOnlyIn vars (take i numbers ++ number ∷ []) others number
    it_is = record { stored = stored; among = Contains-push (take i numbers) number; not_among = not_among }

    above : (k d : ℕ) → k < length found → nat_cmp (get_or found k d) number ≡ Less
    above k d in_found = lower (get_or found k d) ((those.are (get_or found k d)).0 (Contains-get_or found k d in_found)).among

    -- the next number is one of them
    pub add_it : AreOfFirst vars numbers others (i + 1) (found ++ number ∷ [])
    add_it = subst (λ (ns : List ℕ). AreThose (IsEntryOnlyIn vars ns others) (found ++ number ∷ [])) (sym one_more) (record {
      rising = one_above nat_cmp found number those.rising (recursion_from_All (λ (n : ℕ). nat_cmp n number ≡ Less) found above);
      are = λ n. (
        λ c. ⊎_elim (λ before. of_more n ((those.are n).0 before))
            (λ e. subst (IsEntryOnlyIn vars (take i numbers ++ number ∷ []) others) e it_is) (Contains-push_cases found number n c),
        λ is. of_before n (Contains (found ++ number ∷ []) n) (λ before. Contains-append_left found (number ∷ []) n ((those.are n).1 before))
            (λ e. subst (Contains (found ++ number ∷ [])) e (Contains-push found number)) is,
      );
    })

-- all numbers are gone over
pub all_those : (vars : Variables) (numbers others found : List ℕ) (i : ℕ) → length numbers ≤ i
    → AreOfFirst vars numbers others i found → AreThose (IsEntryOnlyIn vars numbers others) found
all_those vars numbers others found i past those =
    subst (λ (ns : List ℕ). AreThose (IsEntryOnlyIn vars ns others) found) (take_all i numbers past) those

-- ---- what a change makes

-- an option that is no Some is none
pub none_known : {X : Type 0} (o : Option X) → ((x : X) → o ≡ Some x → ⊥) → IsSome o → ⊥
none_known None none some = false≢true some
none_known (Some x) none some = none x refl

-- of variables that can be read, the numbers are told
pub those_known : (vars : Variables) (known : Option AtRisk) (at_risk : AtRisk) → known ≡ Some at_risk
    → IfSome known (λ risk. AreThose (IsKnownUnnamed vars) risk.unnamed.items) → AreThose (IsKnownUnnamed vars) at_risk.unnamed.items
those_known vars known at_risk is those =
    subst (λ (o : Option AtRisk). IfSome o (λ risk. AreThose (IsKnownUnnamed vars) risk.unnamed.items)) is those

module _ (from to : Variables) (before after : List ℕ) (was : AreThose (IsKnownUnnamed from) before) (is : AreThose (IsKnownUnnamed to) after)
    (found : List ℕ) where
  pub unnamed_are : AreThose (IsEntryOnlyIn to after before) found → AreThose (BecomesUnnamed from to) found
  unnamed_are = those_along (IsEntryOnlyIn to after before) (BecomesUnnamed from to) found (λ n. (
    λ h. record { after = (is.are n).0 h.among; not_before = λ known. h.not_among ((was.are n).1 known) },
    λ h. record { stored = h.after.unnamed.stored; among = (is.are n).1 h.after; not_among = λ c. h.not_before ((was.are n).0 c) },
  ))

  pub named_are : AreReadable to → AreThose (IsEntryOnlyIn to before after) found → AreThose (BecomesNamed from to) found
  named_are readable = those_along (IsEntryOnlyIn to before after) (BecomesNamed from to) found (λ n. (
    λ h. record {
      readable = readable;
      stored = h.stored;
      not_after = λ unnamed. h.not_among ((is.are n).1 (record { readable = readable; unnamed = unnamed }));
      before = (was.are n).0 h.among;
    },
    λ h. record { stored = h.stored; among = (was.are n).1 h.before; not_among = λ c. h.not_after ((is.are n).0 c).unnamed },
  ))
