-- Variables under a name that may be none.
use Rattle.std.proofs.Common.{◌≡◌, ℕ, List, [], inl, inr, refl, ap, sym, subst, ◌∙◌, Option, Some, None, IfSome, is_some}
use Rattle.std.specs.FinMap.{get, remove, contains_key}
use Rattle.std.proofs.lemmas.Cmp.{nat_list_cmp_total}
use Rattle.uefi_vars.specs.Name.{IsName}
use Rattle.uefi_vars.specs.Vars.{Variables, IsVariable, IsVars}
use Rattle.uefi_vars.proofs.MapChanges.{remove_absent}
use Rattle.uefi_vars.proofs.Maps.{name_cmp-IsAntisymmetric}
use Rattle.bootkeep_c.specs.Sets.{IsNameText}

no_value : (name : List ℕ) (found : Option (List ℕ)) → IfSome found (λ value. IsVariable (name, value)) → ¬ IsName name → found ≡ None
no_value name None is none = refl
no_value name (Some value) is none = absurd (none is.0)

-- nothing is under what is no name
get_none : (vars : Variables) (name : List ℕ) → IsVars vars → ¬ IsName name → get vars name ≡ None
get_none vars name are none = no_value name (get vars name) (are name) none

pub no_empty_name : ¬ IsName []
no_empty_name is = is.some refl

pub get_text : (vars : Variables) (name text : List ℕ) → IsVars vars → IsNameText name text → get vars text ≡ get vars name
get_text vars name text are (inl same) = ap (λ (n : List ℕ). get vars n) same
get_text vars name text are (inr none) =
    ap (λ (n : List ℕ). get vars n) none.1 ∙ get_none vars [] are no_empty_name ∙ sym (get_none vars name are none.0)

pub contains_text : (vars : Variables) (name text : List ℕ) → IsVars vars → IsNameText name text → contains_key vars text ≡ contains_key vars name
contains_text vars name text are is = ap is_some (get_text vars name text are is)

remove_none : (vars : Variables) (name : List ℕ) → IsVars vars → ¬ IsName name → remove vars name ≡ vars
remove_none vars name are none = remove_absent nat_list_cmp_total name_cmp-IsAntisymmetric vars name (get_none vars name are none)

pub remove_text : (vars : Variables) (name text : List ℕ) → IsVars vars → IsNameText name text → remove vars text ≡ remove vars name
remove_text vars name text are (inl same) = ap (λ (n : List ℕ). remove vars n) same
remove_text vars name text are (inr none) =
    ap (λ (n : List ℕ). remove vars n) none.1 ∙ remove_none vars [] are no_empty_name ∙ sym (remove_none vars name are none.0)

-- a text that is a name is the name
pub name_of_text : (name text : List ℕ) → IsNameText name text → IsName text → text ≡ name
name_of_text name text (inl same) is = same
name_of_text name text (inr none) is = absurd (no_empty_name (subst IsName none.1 is))

pub no_name_of_text : (name text : List ℕ) → IsNameText name text → ¬ IsName text → ¬ IsName name
no_name_of_text name text (inl same) none is = none (subst IsName (sym same) is)
no_name_of_text name text (inr other) none is = other.0 is
