-- Whether two names are the same, and whether a name is that of an entry, or of a variable of the boot manager.
use Rattle.std.proofs.Common.{◌≡◌, ◌≢◌, ◌⊎◌, ℕ, zero, suc, ◌<◌, ◌^◌, true, ◌||◌, List, Option, Some, None, inl, inr, refl, sym, ap, subst, ◌∙◌, ⊎_elim, arith}
use Rattle.std.specs.Option.{is_some}
use Rattle.std.proofs.lemmas.Bool.{or_cases, or_left, or_right, false≢true, cases_eq, false_from_ne_true}
use Rattle.std.proofs.lemmas.Cmp.{nat_list_cmp_total, eq_by_cmp_equiv}
use Rattle.std.proofs.lemmas.Map.Lookups.{exact_bytes}
use Rattle.std.proofs.lemmas.Map.Views.{tells_apart}
use Rattle.uefi_vars.specs.Name.{IsName, entry_text, order_text, next_text, timeout_text}
use Rattle.uefi_vars.specs.BootChange.{same_name, is_entry_name_below, is_entry_name, is_boot_name}

pub same_name-is : (a b : List ℕ) → same_name a b ≡ true → a ≡ b
same_name-is a b e = tells_apart exact_bytes a b e

pub same_name-refl : (a : List ℕ) → same_name a a ≡ true
same_name-refl a = (eq_by_cmp_equiv nat_list_cmp_total).refl a

pub same_name-of : (a b : List ℕ) → a ≡ b → same_name a b ≡ true
same_name-of a b e = ap (same_name a) (sym e) ∙ same_name-refl a

entry_below : (limit : ℕ) (name : List ℕ) → is_entry_name_below limit name ≡ true → (number : ℕ) × (number < limit) × (name ≡ entry_text number)
unfolding is_entry_name_below
entry_below zero name e = absurd (false≢true e)
entry_below (suc limit) name e =
    ⊎_elim (λ same. (limit, omega arith, same_name-is name (entry_text limit) same))
    (λ below. let found = entry_below limit name below in (found.0, omega (arith, found.1), found.2))
    (or_cases (same_name name (entry_text limit)) (is_entry_name_below limit name) e)

below_entry : (limit number : ℕ) (name : List ℕ) → number < limit → name ≡ entry_text number → is_entry_name_below limit name ≡ true
unfolding is_entry_name_below
below_entry zero number name below e = absurd (omega (arith, below))
below_entry (suc limit) number name below e =
    ⊎_elim (λ same. or_left _ _ (same_name-of name (entry_text limit) (e ∙ ap entry_text same)))
    (λ other. or_right _ _ (below_entry limit number name (omega (arith, below, other)) e))
    (at_or_below number limit)
  where
    at_or_below : (m n : ℕ) → (m ≡ n) ⊎ (m ≢ n)
    at_or_below m n = cases_eq m n

pub entry_of_name : (name : List ℕ) → is_entry_name name ≡ true → (number : ℕ) × (number < 2 ^ 16) × (name ≡ entry_text number)
entry_of_name name e = entry_below (2 ^ 16) name e

pub name_of_entry : (number : ℕ) (name : List ℕ) → number < 2 ^ 16 → name ≡ entry_text number → is_entry_name name ≡ true
name_of_entry number name below e = below_entry (2 ^ 16) number name below e

-- the call that reads the number of an entry off its name tells which names are those of entries
pub tells_entry : (name : List ℕ) (found : Option ℕ) → ((number : ℕ) →
    (found ≡ Some number → (number < 2 ^ 16) × (name ≡ entry_text number))
    × ((number < 2 ^ 16) × (name ≡ entry_text number) → found ≡ Some number)) → is_some found ≡ is_entry_name name
tells_entry name None reads = sym (false_from_ne_true (is_entry_name name)
    (λ e. let entry = entry_of_name name e in let some = (reads entry.0).1 (entry.1, entry.2) in cc))
tells_entry name (Some number) reads = let entry = (reads number).0 refl in sym (name_of_entry number name entry.0 entry.1)

-- the names of the boot manager's variables are names, if those of entries and the other three are
pub boot_is_name : ((number : ℕ) → number < 2 ^ 16 → IsName (entry_text number)) → IsName order_text → IsName next_text →
    IsName timeout_text → (name : List ℕ) → is_boot_name name ≡ true → IsName name
boot_is_name entry order next timeout name boot = elim (or_cases (is_entry_name name) _ boot) [
  | inl e ↦ let own = entry_of_name name e in subst IsName (sym own.2) (entry own.0 own.1)
  | inr e ↦ elim (or_cases (same_name name order_text) _ e) [
    | inl o ↦ subst IsName (sym (same_name-is name order_text o)) order
    | inr f ↦ elim (or_cases (same_name name next_text) (same_name name timeout_text) f) [
      | inl n ↦ subst IsName (sym (same_name-is name next_text n)) next
      | inr t ↦ subst IsName (sym (same_name-is name timeout_text t)) timeout
    ]
  ]
]
