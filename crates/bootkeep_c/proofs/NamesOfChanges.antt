-- The variables of changes, and what is told of them one after the other.
use Rattle.std.proofs.Common.{◌≡◌, ◌⊎◌, ◌↔◌, ℕ, ◌+◌, ◌^◌, ◌<◌, Bool, true, false, List, [], ◌∷◌, ◌++◌, ◌||◌, length, map, take, get_or}
use Rattle.std.proofs.Common.{Option, Some, None, inl, inr, sym, refl, subst, ◌∙◌}
use Rattle.std.specs.List.{AllByRecursion}
use Rattle.std.proofs.lemmas.Bool.{or_cases, false≢true}
use Rattle.std.proofs.lemmas.List.{map_more}
use Rattle.uefi_text.specs.Bytes.{Each}
use Rattle.uefi_vars.specs.Name.{entry_text, order_text, next_text, timeout_text}
use Rattle.uefi_vars.specs.Vars.{Variables}
use Rattle.uefi_vars.specs.BootChange.{ChangeParts, same_name, is_entry_name, is_boot_name, changes_from, IsNeeded}
use Rattle.uefi_vars.proofs.NameTests.{same_name-is, entry_of_name}
use Rattle.uefi_vars.proofs.BootChanges.{each_needed}
use Rattle.bootkeep_c.specs.declared.change.ChangeNumbers.{ChangeNumbers}
use Rattle.bootkeep_c.specs.Changes.{StandsForName, variable_of, TellsChange, TellsIfBoot}

-- the name of a variable of the boot manager that is neither an entry nor BootOrder nor BootNext is that of Timeout
timeout_of : (name : List ℕ) → is_boot_name name ≡ true → ((number : ℕ) → number < 2 ^ 16 → name ≡ entry_text number → ⊥) →
    false ≡ same_name name order_text → false ≡ same_name name next_text → name ≡ timeout_text
timeout_of name boot none no_order no_next = elim (or_cases (is_entry_name name) _ boot) [
  | inl e ↦ let own = entry_of_name name e in absurd (none own.0 own.1 own.2)
  | inr e ↦ elim (or_cases (same_name name order_text) _ e) [
    | inl o ↦ absurd (false≢true (no_order ∙ o))
    | inr f ↦ elim (or_cases (same_name name next_text) (same_name name timeout_text) f) [
      | inl n ↦ absurd (false≢true (no_next ∙ n))
      | inr t ↦ same_name-is name timeout_text t
    ]
  ]
]

no_entry : (name : List ℕ) → ((number : ℕ) → (◌≡◌ {A = Option ℕ} None (Some number))
    ↔ ((number < 2 ^ 16) × (name ≡ entry_text number))) → (number : ℕ) → number < 2 ^ 16 → name ≡ entry_text number → ⊥
no_entry name reads number below is = let some = (reads number).1 (below, is) in cc

-- what stands for a variable of the boot manager
pub stands : (name : List ℕ) (entry : Option ℕ) (is_order is_next : Bool) → is_boot_name name ≡ true →
    ((number : ℕ) → (entry ≡ Some number) ↔ ((number < 2 ^ 16) × (name ≡ entry_text number)))
    → is_order ≡ same_name name order_text → is_next ≡ same_name name next_text → StandsForName (variable_of entry is_order is_next) name
stands name (Some number) is_order is_next boot reads order next = inl ((reads number).0 refl)
stands name None true is_next boot reads order next = inr (inl (refl, same_name-is name order_text (sym order)))
stands name None false true boot reads order next = inr (inr (inl (refl, same_name-is name next_text (sym next))))
stands name None false false boot reads order next =
    inr (inr (inr (refl, timeout_of name boot (no_entry name reads) order next)))

-- ---- lists of changes

-- one more on either side
pub each_more : {X Y : Type 0} (R : X → Y → Type 0) (xs : List X) (ys : List Y) (x : X) (y : Y) → Each R xs ys → R x y → Each R (xs ++ x ∷ []) (ys ++ y ∷ [])
each_more R [] [] x y h g = (g, tt)
each_more R [] (_ ∷ _) x y h g = absurd h
each_more R (_ ∷ _) [] x y h g = absurd h
each_more R (p ∷ xs) (q ∷ ys) x y h g = (h.0, each_more R xs ys x y h.1 g)

-- one more of what is made of a list, member by member
pub each_step : {X Y Z : Type 0} (f : X → Z) (R : Z → Y → Type 0) (xs : List X) (ys all : List Y) (i : ℕ) (d : X) (y : Y) →
    i < length xs → Each R (map f (take i xs)) ys → R (f (get_or xs i d)) y
    → all ≡ ys ++ y ∷ [] → Each R (map f (take (i + 1) xs)) all
each_step f R xs ys all i d y within each more is =
    rw (is, map_more f xs i d within) (each_more R (map f (take i xs)) ys (f (get_or xs i d)) y each more)

-- what is told of changes that are needed tells them
told_each : (from to : Variables) (changes : List ChangeParts) (told : List ChangeNumbers) →
    AllByRecursion (IsNeeded from to) changes → Each TellsIfBoot changes told → Each TellsChange changes told
told_each from to [] [] are each = tt
told_each from to [] (_ ∷ _) are each = absurd each
told_each from to (_ ∷ _) [] are each = absurd each
told_each from to (change ∷ changes) (one ∷ told) are each = (each.0 are.0.boot, told_each from to changes told are.1 each.1)

pub all_told : (from to : Variables) (changes : List ChangeParts) (told : List ChangeNumbers) → changes ≡ changes_from from to →
    Each TellsIfBoot changes told → Each TellsChange (changes_from from to) told
all_told from to changes told same each =
    told_each from to (changes_from from to) told (each_needed from to) (subst (λ (all : List ChangeParts). Each TellsIfBoot all told) same each)
