-- Changes that are made: what is under each name then, and what one more change makes of them.
use Rattle.std.proofs.Common.{◌≡◌, ℕ, Bool, true, false, cond, T, List, [], ◌∷◌, length, Option, Some, None, refl, sym, ap, ◌∙◌, arith}
use Rattle.std.specs.Ordering.{is_eq, eq_by_cmp}
use Rattle.std.specs.declared.cmp.Ordering.{Ordering}
use Rattle.std.specs.declared.cmp.Ordering.TheVariants.{Less, Equal, Greater}
use Rattle.std.specs.FinMap.{empty, entries, entries_sorted, entries-from_sorted, from_sorted, get, get-entries, get-from_sorted}
use Rattle.std.specs.FinMap.{get-empty, get-insert, get-remove, same_map, insert}
use Rattle.std.specs.FinMap.Entries.{find, put, is_sorted, is_sorted-put}
use Rattle.std.proofs.lemmas.Cmp.{nat_list_cmp_total}
use Rattle.uefi_vars.specs.declared.named.Named.{Named}
use Rattle.uefi_vars.specs.Vars.{Variables, name_cmp}
use Rattle.uefi_vars.specs.NameChanges.{NameChanges, or_before, with_data, after_each, with_changes, IsChange}
use Rattle.uefi_vars.specs.Records.{pairs_of}
use Rattle.uefi_vars.specs.ChangeRecords.{AreChanges, changes_of}
use Rattle.uefi_vars.proofs.Maps.{name_cmp-IsAntisymmetric, sorted_parts, find_below, put_each, from_sorted-put_any}

-- what is under a name after one change
get_with_data : (vars : Variables) (name : List ℕ) (d : Option (List ℕ)) (q : List ℕ) →
    get (with_data vars name d) q ≡ cond (eq_by_cmp name_cmp q name) d (get vars q)
get_with_data vars name None q = get-remove nat_list_cmp_total vars name q
get_with_data vars name (Some value) q = get-insert nat_list_cmp_total vars name value q

-- what is under a name after changes of names that rise
get_after_each : (changes : List (List ℕ × Option (List ℕ))) → T (is_sorted name_cmp changes) → (vars : Variables) (q : List ℕ) →
    get (after_each vars changes) q ≡ or_before (find name_cmp q changes) (get vars q)
get_after_each [] rising vars q = refl
get_after_each (c ∷ changes) rising vars q =
    let parts = sorted_parts name_cmp c changes rising in
    let found = find name_cmp q changes in
    get_after_each changes parts.1 (with_data vars c.0 c.1) q
    ∙ ap (or_before found) (get_with_data vars c.0 c.1 q)
    ∙ elim (name_cmp q c.0) as (λ (r : Ordering). name_cmp q c.0 ≡ r →
    or_before found (cond (is_eq r) c.1 (get vars q)) ≡ or_before (cond (is_eq r) (Some c.1) found) (get vars q)) [
      | Less ↦ λ t. refl
      | Equal ↦ λ t. ap (λ f. or_before f c.1) (ap (λ k. find name_cmp k changes) (name_cmp-IsAntisymmetric q c.0 t) ∙ find_below name_cmp c.0 changes parts.0)
      | Greater ↦ λ t. refl
    ] refl

pub get_with_changes : (vars : Variables) (changes : NameChanges) (q : List ℕ) → get (with_changes vars changes) q ≡ or_before (get changes q) (get vars q)
get_with_changes vars changes q = get_after_each (entries changes) (entries_sorted changes) vars q
    ∙ ap (λ f. or_before f (get vars q)) (sym (get-entries changes q))

-- no changes
pub with_changes-empty : (vars : Variables) → with_changes vars empty ≡ vars
with_changes-empty vars = same_map nat_list_cmp_total name_cmp-IsAntisymmetric _ _
    (λ q. get_with_changes vars empty q ∙ ap (λ f. or_before f (get vars q)) (get-empty name_cmp q))

chosen : (b : Bool) (d : Option (List ℕ)) (found : Option (Option (List ℕ))) (before : Option (List ℕ)) →
    or_before (cond b (Some d) found) before ≡ cond b d (or_before found before)
chosen true d found before = refl
chosen false d found before = refl

-- one more change is made after those that are there
pub with_changes-insert : (vars : Variables) (changes : NameChanges) (name : List ℕ) (d : Option (List ℕ)) →
    with_changes vars (insert changes name d) ≡ with_data (with_changes vars changes) name d
with_changes-insert vars changes name d = same_map nat_list_cmp_total name_cmp-IsAntisymmetric _ _ (λ q.
    get_with_changes vars (insert changes name d) q
    ∙ ap (λ f. or_before f (get vars q)) (get-insert nat_list_cmp_total changes name d q)
    ∙ chosen (eq_by_cmp name_cmp q name) d (get changes q) (get vars q)
    ∙ ap (cond (eq_by_cmp name_cmp q name) d) (sym (get_with_changes vars changes q))
    ∙ sym (get_with_data (with_changes vars changes) name d q))

-- ---- changes as they are held

module _ (changes : List (Named (Option (List ℕ)))) (held : AreChanges (pairs_of changes)) where
  pub entries-changes_of : entries (changes_of changes) ≡ pairs_of changes
  entries-changes_of = entries-from_sorted name_cmp (pairs_of changes) held.rising

  pub get-changes_of : (name : List ℕ) → get (changes_of changes) name ≡ find name_cmp name (pairs_of changes)
  get-changes_of name = get-from_sorted name_cmp (pairs_of changes) name held.rising

  -- the data then, if the name is changed
  pub get_changed : (vars : Variables) (name : List ℕ) (d : Option (List ℕ)) → find name_cmp name (pairs_of changes) ≡ Some d →
      get (with_changes vars (changes_of changes)) name ≡ d
  get_changed vars name d found = get_with_changes vars (changes_of changes) name ∙ ap (λ f. or_before f (get vars name)) (get-changes_of name ∙ found)

  -- and if it isn't
  pub get_unchanged : (vars : Variables) (name : List ℕ) → find name_cmp name (pairs_of changes) ≡ None →
      get (with_changes vars (changes_of changes)) name ≡ get vars name
  get_unchanged vars name found = get_with_changes vars (changes_of changes) name ∙ ap (λ f. or_before f (get vars name)) (get-changes_of name ∙ found)

pub none_of : {A : Type 0} (items : List A) → length items ≡ 0 → items ≡ []
none_of [] none = refl
none_of (item ∷ items) none = absurd (omega arith)

pub changes_of_none : changes_of [] ≡ empty
changes_of_none = same_map nat_list_cmp_total name_cmp-IsAntisymmetric _ _ (λ q. get-from_sorted name_cmp [] q tt ∙ sym (get-empty name_cmp q))

-- one more change among those that are held
module _ (pairs : List (List ℕ × Option (List ℕ))) (held : AreChanges pairs) (name : List ℕ) (d : Option (List ℕ)) where
  pub AreChanges-put : IsChange (name, d) → AreChanges (put name_cmp name d pairs)
  AreChanges-put is = record {
    rising = is_sorted-put name_cmp nat_list_cmp_total name d pairs held.rising;
    each = put_each name_cmp-IsAntisymmetric IsChange name d pairs is held.each;
  }

  pub with_changes-put : (vars : Variables) → with_changes vars (from_sorted (put name_cmp name d pairs))
      ≡ with_data (with_changes vars (from_sorted pairs)) name d
  with_changes-put vars = ap (with_changes vars) (from_sorted-put_any pairs held.rising name d) ∙ with_changes-insert vars (from_sorted pairs) name d
