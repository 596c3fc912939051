-- The variables after changes.
use Rattle.std.proofs.Common.{◌≡◌, ℕ, Bool, true, false, cond, ◌||◌, List, [], ◌∷◌, map, Option, Some, None, refl, sym, ap, ◌∙◌}
use Rattle.std.specs.List.{list_any}
use Rattle.std.specs.FinMap.{get, get-insert, get-remove}
use Rattle.std.proofs.lemmas.Cmp.{nat_list_cmp_total}
use Rattle.uefi_vars.specs.Vars.{Variables}
use Rattle.uefi_vars.specs.NameChanges.{with_data, after_each}
use Rattle.uefi_vars.specs.BootChange.{same_name, change_under, new_data}
use Rattle.uefi_vars.proofs.NameTests.{same_name-is}

get_with_data : (vars : Variables) (name : List ℕ) (new : Option (List ℕ)) (q : List ℕ) →
    get (with_data vars name new) q ≡ cond (same_name q name) new (get vars q)
get_with_data vars name None q = get-remove nat_list_cmp_total vars name q
get_with_data vars name (Some value) q = get-insert nat_list_cmp_total vars name value q

chosen : (here there : Bool) (a b : Option (List ℕ)) (x : Option (List ℕ)) → (here ≡ true → x ≡ a) → cond there a (cond here x b) ≡ cond (here || there) a b
chosen true true a b x same = refl
chosen true false a b x same = same refl
chosen false there a b x same = refl

-- what is under each name once those of these names are as in the other set
pub get_after : (from to : Variables) (names : List (List ℕ)) (vars : Variables) (q : List ℕ) →
    get (after_each vars (new_data (map (change_under from to) names))) q ≡ cond (list_any (same_name q) names) (get to q) (get vars q)
get_after from to [] vars q = refl
get_after from to (name ∷ names) vars q =
    get_after from to names (with_data vars name (get to name)) q
    ∙ ap (cond (list_any (same_name q) names) (get to q)) (get_with_data vars name (get to name) q)
    ∙ chosen (same_name q name) (list_any (same_name q) names) (get to q) (get vars q) (get to name) (λ same. ap (get to) (sym (same_name-is q name same)))
