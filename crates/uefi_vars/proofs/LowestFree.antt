-- Going over variables for the least number that is free.
use Rattle.std.proofs.Common.{◌≡◌, ◌≢◌, ℕ, ◌+◌, ◌<◌, ◌≤◌, ◌^◌, cond, List, [], ◌∷◌, length, get_or, take, slice_get, Some, None, IsSome}
use Rattle.std.proofs.Common.{is_some, option_map, refl, sym, ap, below_more, subst, ◌∙◌, arith}
use Rattle.std.specs.List.{All, AllByRecursion}
use Rattle.std.specs.Ordering.{is_eq}
use Rattle.std.specs.declared.cmp.Ordering.{Ordering}
use Rattle.std.specs.declared.cmp.Ordering.TheVariants.{Less, Equal, Greater}
use Rattle.std.specs.FinMap.{entries, entries_sorted, get-entries}
use Rattle.std.specs.FinMap.Entries.{find}
use Rattle.std.proofs.lemmas.Cmp.{tied_itself, nat_list_cmp_total}
use Rattle.std.proofs.lemmas.List.{take_all, length-map}
use Rattle.std.proofs.lemmas.List.Elements.{All-head, All-tail, All-more, All-weaker, All-from_recursion}
use Rattle.std.proofs.lemmas.Option.{slice_get-map, slice_get_read, slice_get_within, get_or_from_slice_get}
use Rattle.uefi_vars.specs.declared.named.Named.{Named}
use Rattle.uefi_vars.specs.Name.{entry_text}
use Rattle.uefi_vars.specs.Vars.{Variables, name_cmp, entry_of}
use Rattle.uefi_vars.specs.Records.{pair_of, pairs_of}
use Rattle.uefi_vars.proofs.Maps.{name_cmp-IsAntisymmetric}
use Rattle.uefi_vars.proofs.Names.{names_rise}
use Rattle.uefi_vars.proofs.Places.{find_at, sorted_below}
use Rattle.uefi_vars.proofs.Records.{Pair}

-- a variable has another name
abbrev pub HasOther : List ℕ → Pair → Type 0
HasOther name p = p.0 ≢ name

-- none of the first variables is the entry of this number
abbrev pub IsPassed : Variables → ℕ → ℕ → Type 0
IsPassed vars i number = All (HasOther (entry_text number)) (take i (entries vars))

-- a name below another isn't that one
below_differs : (a b : List ℕ) → name_cmp a b ≡ Less → a ≢ b
below_differs a b below same = cc (tied_itself nat_list_cmp_total b)

-- a name that none has isn't found
find_none : (name : List ℕ) (pairs : List Pair) → All (HasOther name) pairs → find name_cmp name pairs ≡ None
find_none name [] none = refl
find_none name (p ∷ pairs) none =
    let others = find_none name pairs (All-tail (HasOther name) p pairs none) in
    elim (name_cmp name p.0) as (λ (r : Ordering). name_cmp name p.0 ≡ r → cond (is_eq r) (Some p.1) (find name_cmp name pairs) ≡ None) [
      | Less ↦ λ t. others
      | Equal ↦ λ t. absurd (All-head (HasOther name) p pairs none (sym (name_cmp-IsAntisymmetric name p.0 t)))
      | Greater ↦ λ t. others
    ] refl

-- if all are passed, nothing is stored
pub none_stored : (vars : Variables) (variables : List (Named (List ℕ))) (i number : ℕ) → pairs_of variables ≡ entries vars →
    length variables ≤ i → IsPassed vars i number → entry_of vars number ≡ None
none_stored vars variables i number pairs past passed =
    let end : length (entries vars) ≤ i = omega (arith, ap length pairs, length-map variables pair_of) in
    get-entries vars (entry_text number) ∙ find_none (entry_text number) (entries vars)
    (subst (All (HasOther (entry_text number))) (take_all i (entries vars) end) passed)

-- the variable at a place
pub item_at : (vars : Variables) (variables : List (Named (List ℕ))) (i : ℕ) (variable : Named (List ℕ)) →
    pairs_of variables ≡ entries vars → i < length variables → variable ≡ get_or variables i variable →
    slice_get (entries vars) i ≡ Some (pair_of variable)
item_at vars variables i variable pairs within is =
    ap (λ (ps : List Pair). slice_get ps i) (sym pairs) ∙ slice_get-map pair_of variables i
    ∙ ap (option_map pair_of) (slice_get_read variables (length variables) i variable refl within is)

module _ (vars : Variables) (i : ℕ) (p : Pair) (at : slice_get (entries vars) i ≡ Some p) where
  -- it is passed
  pub pass : (number : ℕ) → IsPassed vars i number → p.0 ≢ entry_text number → IsPassed vars (i + 1) number
  pass number before here =
      All-more (HasOther (entry_text number)) (entries vars) i p (slice_get_within (entries vars) i p at) before
      (subst (HasOther (entry_text number)) (sym (get_or_from_slice_get (entries vars) i p p at)) here)

  module _ (number : ℕ) (named : p.0 ≡ entry_text number) where
    abbrev IsLower : Pair → Type 0
    IsLower q = name_cmp q.0 (entry_text number) ≡ Less

    -- those before it have lower names
    pub below : AllByRecursion IsLower (take i (entries vars))
    below = sorted_below name_cmp nat_list_cmp_total (entry_text number) (entries vars) i (entries_sorted vars) (rw at named)

    -- it is stored
    stored : IsSome (entry_of vars number)
    stored =
        let found = find_at name_cmp nat_list_cmp_total (entry_text number) (entries vars) i below (rw at named) in
        ap is_some (get-entries vars (entry_text number) ∙ found ∙ ap (option_map (λ (q : Pair). q.1)) at)

    -- so what is stored under each lower number is so up to this one
    pub taken_more : ((lower : ℕ) → lower < number → IsSome (entry_of vars lower)) → (lower : ℕ) → lower < number + 1 → IsSome (entry_of vars lower)
    taken_more before = below_more (λ n. IsSome (entry_of vars n)) number before stored

    -- as its name is below the next one's, the next entry isn't passed over with it
    pub pass_next : number + 1 < 2 ^ 16 → IsPassed vars (i + 1) (number + 1)
    pass_next fits =
        let next = names_rise number (number + 1) (omega arith) fits in
        let lower : All IsLower (take i (entries vars)) = All-from_recursion IsLower _ below in
        pass (number + 1) (All-weaker IsLower (HasOther (entry_text (number + 1)))
        (λ q less. below_differs q.0 _ (nat_list_cmp_total.trans q.0 (entry_text number) (entry_text (number + 1)) less
        next)) _ lower)
        (below_differs p.0 _ (rw named next))
