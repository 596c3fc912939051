-- The boot manager's variables are left when the others are taken out one after the other.
use Rattle.std.proofs.Common.{◌≡◌, ℕ, Bool, true, false, cond, List, [], ◌∷◌, Some, None, refl, sym, ap, ◌∙◌}
use Rattle.std.specs.FinMap.{get, remove, entries, get-entries, get-remove}
use Rattle.std.specs.FinMap.Entries.{find}
use Rattle.std.proofs.lemmas.Bool.{true≢false}
use Rattle.std.proofs.lemmas.Cmp.{nat_list_cmp_total}
use Rattle.uefi_vars.specs.Vars.{Variables, name_cmp}
use Rattle.uefi_vars.specs.BootChange.{same_name, is_boot_name}
use Rattle.uefi_vars.proofs.NameTests.{same_name-is}
use Rattle.change_records.specs.BootPart.{IsBootPart, without_other}

abbrev Pairs : Type 0
Pairs = List (List ℕ × List ℕ)

-- Under the boot manager's names it has what these have there, and under others nothing but what is still to come.
pub record IsPartly (vars part : Variables) (left : Pairs) : Type 0 where
  pub boot : (name : List ℕ) → is_boot_name name ≡ true → get part name ≡ get vars name
  pub other : (name : List ℕ) → is_boot_name name ≡ false → find name_cmp name left ≡ None → get part name ≡ None

pub begins : (vars part : Variables) (left : Pairs) → part ≡ vars → left ≡ entries vars → IsPartly vars part left
begins vars part left same all = record {
  boot = λ name is. ap (λ (v : Variables). get v name) same;
  other = λ name is none. ap (λ (v : Variables). get v name) same ∙ get-entries vars name ∙ ap (find name_cmp name) (sym all) ∙ none;
}

pub ends : (vars part : Variables) (left : Pairs) → left ≡ [] → IsPartly vars part left → IsBootPart vars part
ends vars part left none on name = by (is_boot_name name) refl
  where
    by : (b : Bool) → is_boot_name name ≡ b → get part name ≡ cond b (get vars name) None
    by true is = on.boot name is
    by false is = on.other name is (ap (find name_cmp name) none)

-- names of which one is the boot manager's and the other isn't
unlike : (name other : List ℕ) → is_boot_name name ≡ true → is_boot_name other ≡ false → same_name name other ≡ true → ⊥
unlike name other boot not same = true≢false (sym boot ∙ ap is_boot_name (same_name-is name other same) ∙ not)

-- what is found when a name is taken out
removed : (vars : Variables) (name q : List ℕ) (b : Bool) → same_name q name ≡ b → get (remove vars name) q ≡ cond b None (get vars q)
removed vars name q b is = get-remove nat_list_cmp_total vars name q ∙ ap (λ (c : Bool). cond c None (get vars q)) is

keeps_boot : (part : Variables) (name q : List ℕ) (b : Bool) → is_boot_name name ≡ b → is_boot_name q ≡ true
    → get (cond b part (remove part name)) q ≡ get part q
keeps_boot part name q true is boot = refl
keeps_boot part name q false is boot = by (same_name q name) refl
  where
    by : (c : Bool) → same_name q name ≡ c → get (remove part name) q ≡ get part q
    by true same = absurd (unlike q name boot is same)
    by false differ = removed part name q false differ

takes_other : (part : Variables) (name value q : List ℕ) (rest : Pairs) (b : Bool) → is_boot_name name ≡ b → is_boot_name q ≡ false
    → (find name_cmp q ((name, value) ∷ rest) ≡ None → get part q ≡ None) → find name_cmp q rest ≡ None
    → get (cond b part (remove part name)) q ≡ None
takes_other part name value q rest b is other before none = by b is (same_name q name) refl
  where
    unseen : same_name q name ≡ false → find name_cmp q ((name, value) ∷ rest) ≡ None
    unseen differ = ap (λ (c : Bool). cond c (Some value) (find name_cmp q rest)) differ ∙ none

    by : (d : Bool) → is_boot_name name ≡ d → (c : Bool) → same_name q name ≡ c → get (cond d part (remove part name)) q ≡ None
    by true boot true same = absurd (true≢false (sym boot ∙ ap is_boot_name (sym (same_name-is q name same)) ∙ other))
    by true boot false differ = before (unseen differ)
    by false not true same = removed part name q true same
    by false not false differ = removed part name q false differ ∙ before (unseen differ)

pub goes_on : (vars part after : Variables) (name value : List ℕ) (left rest : Pairs) → left ≡ (name, value) ∷ rest → after ≡ without_other part name
    → IsPartly vars part left → IsPartly vars after rest
goes_on vars part after name value left rest steps is on = record {
  boot = λ q boot. ap (λ (v : Variables). get v q) is ∙ keeps_boot part name q (is_boot_name name) refl boot ∙ on.boot q boot;
  other = λ q other none. ap (λ (v : Variables). get v q) is
      ∙ takes_other part name value q rest (is_boot_name name) refl other
      (λ e. on.other q other (ap (find name_cmp q) steps ∙ e)) none;
}
