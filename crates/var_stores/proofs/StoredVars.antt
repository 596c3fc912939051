-- What a set has once a stored variable was put into it.
use Rattle.std.proofs.Common.{◌≡◌, ◌≢◌, ℕ, ◌<◌, Bool, true, false, cond, ◌&&◌, List, [], ◌∷◌, length, Option, Some, None, Result, Ok, Err}
use Rattle.std.proofs.Common.{OnOk, OnErr, IfOk, IfSome, ◌↔◌, ◌⊎◌, inl, inr, refl, sym, ap, subst, ◌∙◌, arith}
use Rattle.std.specs.FinMap.{get, insert, get-insert}
use Rattle.std.proofs.lemmas.Bool.{false_from_ne_true, false≢true}
use Rattle.std.proofs.lemmas.Cmp.{nat_list_cmp_total}
use Rattle.uefi_vars.specs.declared.fault.PutFault.{PutFault}
use Rattle.uefi_vars.specs.declared.fault.PutFault.TheVariants as fault
use Rattle.uefi_vars.specs.Name.{IsName}
use Rattle.uefi_vars.specs.Vars.{Variables, data_max, IsVars, IsData, IsVariable}
use Rattle.uefi_vars.proofs.Names.{get-insert_here}
use Rattle.uefi_vars.specs.BootChange.{same_name}
use Rattle.var_stores.specs.Present.{stored_name, name_in, is_set_value}
use Rattle.var_stores.specs.PresentMap.{PutsStored}
use Rattle.uefi_vars.proofs.NameTests.{same_name-is, same_name-of}
use Rattle.var_stores.proofs.StoredNames.{name_in-stored_name, stored_name-name_in, stored_name-same}

-- a name that isn't stored so keeps its data
module _ (old : Variables) (stored value name : List ℕ) where
  abbrev put_or_before : Bool → Option (List ℕ)
  put_or_before b = cond b (Some value) (get old name)

  pub other_name : same_name stored (stored_name name) ≡ false →
      get old name ≡ cond (same_name stored (stored_name name) && is_set_value value) (Some value) (get old name)
  other_name other = sym (ap (λ b. put_or_before (b && is_set_value value)) other)

  pub other_value : is_set_value value ≡ false → get old name ≡ cond (same_name stored (stored_name name) && is_set_value value) (Some value) (get old name)
  other_value other = sym (ap (λ b. put_or_before (same_name stored (stored_name name) && b)) other
      ∙ ap put_or_before (never (same_name stored (stored_name name))))
    where
      never : (b : Bool) → (b && false) ≡ false
      never true = refl
      never false = refl

-- nothing is put if no name is stored so
pub put_none : (vars : Variables) (stored value : List ℕ) → name_in stored ≡ None → PutsStored vars vars stored value
put_none vars stored value none name is =
    other_name vars stored value name (false_from_ne_true (same_name stored (stored_name name))
    (λ same. let some = name_in-stored_name name is.printing in let read = ap name_in (same_name-is stored (stored_name name) same) in cc))

-- the value is put under the name that is stored so
put_done : (old new : Variables) (stored value own : List ℕ) → name_in stored ≡ Some own → new ≡ insert old own value →
    is_set_value value ≡ true → PutsStored old new stored value
put_done old new stored value own read put fits name is =
    ap (λ (vars : Variables). get vars name) put ∙ get-insert nat_list_cmp_total old own value name
    ∙ ap (λ b. put_or_before old stored value name b) (same ∙ both (same_name stored (stored_name name)) (is_set_value value) fits)
  where
    both : (a b : Bool) → b ≡ true → a ≡ (a && b)
    both true b e = sym e
    both false b e = refl

    here : (b : Bool) → same_name name own ≡ b → b ≡ same_name stored (stored_name name)
    here true e = sym (same_name-of stored (stored_name name) (stored_name-name_in stored own read ∙ ap stored_name (sym (same_name-is name own e))))
    here false e = sym (false_from_ne_true (same_name stored (stored_name name))
        (λ again. let is' : name ≡ own = stored_name-same name own (sym (same_name-is stored (stored_name name) again) ∙ stored_name-name_in stored own read) in
        false≢true (sym e ∙ same_name-of name own is')))

    same : same_name name own ≡ same_name stored (stored_name name)
    same = here (same_name name own) refl

-- nothing is put of what a set can't hold
put_refused : (old new : Variables) (stored value own : List ℕ) → name_in stored ≡ Some own → new ≡ old →
    ((IsName own → ⊥) ⊎ (is_set_value value ≡ false)) → PutsStored old new stored value
put_refused old new stored value own read stays (inr unfit) name is = ap (λ (vars : Variables). get vars name) stays ∙ other_value old stored value name unfit
put_refused old new stored value own read stays (inl bad) name is =
    ap (λ (vars : Variables). get vars name) stays ∙ other_name old stored value name (false_from_ne_true (same_name stored (stored_name name))
    (λ same. bad (subst IsName (stored_name-same name own (sym (same_name-is stored (stored_name name) same) ∙ stored_name-name_in stored own read)) is)))

no_bytes : (value : List ℕ) → value ≡ [] → is_set_value value ≡ false
no_bytes value none = ap is_set_value none

many_bytes : (value : List ℕ) → data_max < length value → is_set_value value ≡ false
many_bytes value many = grind (arith, many)

fit_bytes : (value : List ℕ) → IsData value → is_set_value value ≡ true
fit_bytes [] held = absurd (held.some refl)
fit_bytes (byte ∷ value) held = let len = held.len in grind (arith, len)

-- what a call that puts the value answers
pub record PutAnswer (old new : Variables) (own value : List ℕ) (result : Result (Unit {0}) PutFault) : Type 0 where
  pub put : OnOk result (new ≡ insert old own value)
  pub unchanged : OnErr result (new ≡ old)
  pub bad_name : (result ≡ Err fault.BadName) ↔ (¬ IsName own)
  pub empty_data : (result ≡ Err fault.EmptyData) ↔ (IsName own × (value ≡ []))
  pub data_too_long : (result ≡ Err fault.DataTooLong) ↔ (IsName own × (data_max < length value))
  pub valid : IsVars new

pub put_gives : (old new : Variables) (stored value own : List ℕ) (result : Result (Unit {0}) PutFault) →
    name_in stored ≡ Some own → PutAnswer old new own value result → result ≢ Err fault.OutOfMemory →
    PutsStored old new stored value
put_gives old new stored value own (Ok u) read answer whole =
    put_done old new stored value own read answer.put (fit_bytes value
    (let held = answer.valid own in let here = ap (λ (vars : Variables). get vars own) answer.put
    ∙ get-insert_here old own value in (subst (λ (o : Option (List ℕ)). IfSome o (λ bytes. IsVariable (own, bytes))) here held).1))
put_gives old new stored value own (Err fault.BadName) read answer whole =
    put_refused old new stored value own read answer.unchanged (inl (answer.bad_name.0 refl))
put_gives old new stored value own (Err fault.EmptyData) read answer whole =
    put_refused old new stored value own read answer.unchanged (inr (no_bytes value (answer.empty_data.0 refl).1))
put_gives old new stored value own (Err fault.DataTooLong) read answer whole =
    put_refused old new stored value own read answer.unchanged (inr (many_bytes value (answer.data_too_long.0 refl).1))
put_gives old new stored value own (Err fault.OutOfMemory) read answer whole = absurd (whole refl)

pub on_ok : {A B P Q : Type 0} (result : Result A B) → OnOk result P → (P → Q) → OnOk result Q
on_ok (Ok value) h f = f h
on_ok (Err fault) h f = h

pub if_ok : {A B : Type 0} {P Q : A → Type 0} (result : Result A B) → IfOk result P → ((value : A) → P value → Q value) → IfOk result Q
if_ok (Ok value) h f = f value h
if_ok (Err fault) h f = h
