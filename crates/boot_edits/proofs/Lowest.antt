-- Going over the variables for the entry of the lowest number that is the same load option.
use Rattle.std.proofs.Common.{◌≡◌, ℕ, cond, T, List, [], ◌∷◌, ◌++◌, Option, Some, None, IfSome, Contains, refl, sym, ap, subst, ◌∙◌, arith}
use Rattle.std.specs.List.{AllByRecursion}
use Rattle.std.specs.Ordering.{is_eq}
use Rattle.std.specs.declared.cmp.Ordering.{Ordering}
use Rattle.std.specs.declared.cmp.Ordering.TheVariants.{Less, Equal, Greater}
use Rattle.std.specs.FinMap.{entries, entries_sorted, get, get-entries}
use Rattle.std.specs.FinMap.Entries.{find, is_sorted}
use Rattle.std.proofs.lemmas.Cmp.{nat_list_cmp_total}
use Rattle.std.proofs.lemmas.List.Elements.{Contains-append_right}
use Rattle.uefi_option.specs.LoadOption.{OptionParts}
use Rattle.uefi_vars.specs.Name.{entry_text}
use Rattle.uefi_vars.specs.Order.{IsEntryNumber}
use Rattle.uefi_vars.specs.Vars.{Variables, name_cmp}
use Rattle.uefi_vars.proofs.Maps.{name_cmp-IsAntisymmetric, sorted_parts, find_below, get_contained}
use Rattle.uefi_vars.proofs.Names.{names_rise}
use Rattle.boot_edits.specs.Addition.{IsSameOption, IsSame, IsLowestSame}

pub if_some : (x : Option ℕ) (P Q : ℕ → Type 0) → ((n : ℕ) → P n → Q n) → IfSome x P → IfSome x Q
if_some None P Q h p = p
if_some (Some n) P Q h p = h n p

abbrev Pair : Type 0
Pair = List ℕ × List ℕ

-- the variable is no entry, or another option
abbrev pub IsOther : OptionParts → Pair → Type 0
IsOther option p = (number : ℕ) → IsEntryNumber number → p.0 ≡ entry_text number → IsSameOption option p.1 → ⊥

abbrev pub AreOthers : OptionParts → List Pair → Type 0
AreOthers option pairs = AllByRecursion (IsOther option) pairs

pub others-push : (option : OptionParts) (pairs : List Pair) (p : Pair) → AreOthers option pairs → IsOther option p → AreOthers option (pairs ++ p ∷ [])
others-push option [] p others other = (other, tt)
others-push option (q ∷ pairs) p others other = (others.0, others-push option pairs p others.1 other)

-- what is found among the others isn't the same
not_found : (option : OptionParts) (number : ℕ) (bytes : List ℕ) → IsEntryNumber number → IsSameOption option bytes → (pairs : List Pair) →
    AreOthers option pairs → find name_cmp (entry_text number) pairs ≡ Some bytes → ⊥
not_found option number bytes fits same [] others found = cc found
not_found option number bytes fits same (p ∷ pairs) others found =
    elim (name_cmp (entry_text number) p.0) as (λ (r : Ordering). name_cmp (entry_text number) p.0 ≡ r →
    cond (is_eq r) (Some p.1) (find name_cmp (entry_text number) pairs) ≡ Some bytes → ⊥) [
      | Less ↦ λ t is. not_found option number bytes fits same pairs others.1 is
      | Equal ↦ λ t is.
          let held : p.1 ≡ bytes = cc is in
          others.0 number fits (sym (name_cmp-IsAntisymmetric (entry_text number) p.0 t)) (subst (IsSameOption option) (sym held) same)
      | Greater ↦ λ t is. not_found option number bytes fits same pairs others.1 is
    ] refl found

-- what is below those behind is found in front
found_in_front : (name : List ℕ) (before after : List Pair) → AllByRecursion (λ q. name_cmp name q.0 ≡ Less) after →
    find name_cmp name (before ++ after) ≡ find name_cmp name before
found_in_front name [] after below = find_below name_cmp name after below
found_in_front name (p ∷ before) after below = ap (λ (rest : Option (List ℕ)). cond (is_eq (name_cmp name p.0)) (Some p.1) rest)
    (found_in_front name before after below)

sorted_behind : (before after : List Pair) → T (is_sorted name_cmp (before ++ after)) → T (is_sorted name_cmp after)
sorted_behind [] after rising = rising
sorted_behind (p ∷ before) after rising = sorted_behind before after (sorted_parts name_cmp p (before ++ after) rising).1

all_below : (name other : List ℕ) → name_cmp name other ≡ Less → (pairs : List Pair) →
    AllByRecursion (λ q. name_cmp other q.0 ≡ Less) pairs → AllByRecursion (λ q. name_cmp name q.0 ≡ Less) pairs
all_below name other less [] above = tt
all_below name other less (q ∷ pairs) above = (nat_list_cmp_total.trans name other q.0 less above.0, all_below name other less pairs above.1)

module _ (option : OptionParts) (vars : Variables) where
  -- once all are gone over, no entry is the same
  pub none_same : (before : List Pair) → entries vars ≡ before → AreOthers option before → (number : ℕ) → IsSame vars option number → ⊥
  none_same before all others number s =
      not_found option number s.bytes s.is s.same before others
      (ap (find name_cmp (entry_text number)) (sym all) ∙ sym (get-entries vars (entry_text number)) ∙ s.stored)

  module _ (before : List Pair) (p : Pair) (rest : List Pair) (all : entries vars ≡ before ++ p ∷ rest) (others : AreOthers option before) where
    -- the first one that is the same has the lowest number
    pub lowest_same : (number : ℕ) → IsEntryNumber number → p.0 ≡ entry_text number → IsSameOption option p.1 → IsLowestSame vars option number
    lowest_same number fits named same = record {
      here = record {
        is = fits;
        bytes = p.1;
        stored = ap (get vars) (sym named) ∙ get_contained vars p
            (subst (λ (es : List Pair). Contains es p) (sym all) (Contains-append_right before (p ∷ rest) p (0, omega arith, refl)));
        same = same;
      };
      first = λ lower below s.
          let less = names_rise lower number below fits in
          let sorted = sorted_behind before (p ∷ rest) (subst (λ (es : List Pair). T (is_sorted name_cmp es)) all (entries_sorted vars)) in
          let here : name_cmp (entry_text lower) p.0 ≡ Less = ap (name_cmp (entry_text lower)) named ∙ less in
          let behind = all_below (entry_text lower) p.0 here rest (sorted_parts name_cmp p rest sorted).0 in
          not_found option lower s.bytes s.is s.same before others
          (sym (found_in_front (entry_text lower) before (p ∷ rest) (here, behind))
          ∙ ap (find name_cmp (entry_text lower)) (sym all) ∙ sym (get-entries vars (entry_text lower)) ∙ s.stored);
    }
