-- Which record is found under a key.
use Rattle.std.proofs.Common.{◌≡◌, ℕ, Bool, true, false, cond, ◌&&◌, not, List, [], ◌∷◌, ◌++◌, Option, Some, None, IfSome, refl, sym, ap, ◌∙◌}
use Rattle.std.specs.List.{AllByRecursion}
use Rattle.std.proofs.lemmas.Bool.{and_parts, or_left}
use Rattle.var_stores.specs.Record.{RecordParts}
use Rattle.var_stores.specs.Present.{key_of, is_of, is_added, is_alive, is_added_there, found_with, found_after, found}
use Rattle.uefi_vars.proofs.NameTests.{same_name-is}

pub found_after-append : (key : List ℕ) (before : Option RecordParts) (xs ys : List RecordParts) →
    found_after key before (xs ++ ys) ≡ found_after key (found_after key before xs) ys
found_after-append key before [] ys = refl
found_after-append key before (x ∷ xs) ys = found_after-append key (found_with key before x) xs ys

-- one that was added stays
pub found_after-added : (key : List ℕ) (r : RecordParts) (records : List RecordParts) → is_added r ≡ true → found_after key (Some r) records ≡ Some r
found_after-added key r [] e = refl
found_after-added key r (s ∷ records) e =
    ap (λ before. found_after key before records) (stays (is_alive s && is_of key s)) ∙ found_after-added key r records e
  where
    stays : (b : Bool) → cond (b && not (is_added r)) (Some s) (Some r) ≡ Some r
    stays true = ap (λ a. cond (not a) (Some s) (Some r)) e
    stays false = refl

-- ---- what is found is a record of its variable, among those that were looked at

abbrev pub IsFoundAs : List ℕ → RecordParts → Type 0
IsFoundAs key r = (key_of r ≡ key) × (is_alive r ≡ true)

with_found : (key : List ℕ) (P : RecordParts → Type 0) (before : Option RecordParts) (r : RecordParts) →
    (is_of key r ≡ true → is_alive r ≡ true → P r) → IfSome before P →
    IfSome (found_with key before r) P
with_found key P before r holds was = go (is_alive r && is_of key r) refl
  where
    go : (b : Bool) → (is_alive r && is_of key r) ≡ b → IfSome (cond (b && not (is_added_there before)) (Some r) before) P
    go false e = was
    go true e = elim (is_added_there before) as (λ a. IfSome (cond (not a) (Some r) before) P) [
      | true ↦ was
      | false ↦ let both = and_parts (is_alive r) (is_of key r) e in holds both.1 both.0
    ]

pub found_after-is : (key : List ℕ) (before : Option RecordParts) (records : List RecordParts) → IfSome before (IsFoundAs key) →
    IfSome (found_after key before records) (IsFoundAs key)
found_after-is key before [] was = was
found_after-is key before (r ∷ records) was =
    found_after-is key (found_with key before r) records (with_found key (IsFoundAs key) before r
    (λ same alive. (sym (same_name-is key (key_of r) same), alive)) was)

pub found_after-all : (key : List ℕ) (P : RecordParts → Type 0) (before : Option RecordParts) (records : List RecordParts) →
    AllByRecursion P records → IfSome before P →
    IfSome (found_after key before records) P
found_after-all key P before [] all was = was
found_after-all key P before (r ∷ records) all was = found_after-all key P (found_with key before r) records all.1
    (with_found key P before r (λ same alive. all.0) was)

-- ---- the first that was added, or else the last that is being replaced

-- none of these records is of the variable and was added
abbrev pub NoneAdded : List ℕ → List RecordParts → Type 0
NoneAdded key records = AllByRecursion (λ s. (is_of key s && is_added s) ≡ false) records

-- or is there in any way
abbrev pub NoneAlive : List ℕ → List RecordParts → Type 0
NoneAlive key records = AllByRecursion (λ s. (is_of key s && is_alive s) ≡ false) records

swapped : (a b : Bool) → (a && b) ≡ (b && a)
swapped true true = refl
swapped true false = refl
swapped false true = refl
swapped false false = refl

pub none_alive : (key : List ℕ) (before : Option RecordParts) (records : List RecordParts) → NoneAlive key records → found_after key before records ≡ before
none_alive key before [] none = refl
none_alive key before (r ∷ records) none =
    ap (λ b. found_after key (cond (b && not (is_added_there before)) (Some r) before) records)
    (swapped (is_alive r) (is_of key r) ∙ none.0) ∙ none_alive key before records none.1

-- what was found before isn't of a record that was added
none_added : (key : List ℕ) (before : Option RecordParts) (records : List RecordParts) → NoneAdded key records →
    is_added_there before ≡ false → is_added_there (found_after key before records) ≡ false
none_added key before [] none was = was
none_added key before (r ∷ records) none was = none_added key (found_with key before r) records none.1 (one (is_alive r) (is_of key r) refl)
  where
    one : (a b : Bool) → is_of key r ≡ b → is_added_there (cond ((a && b) && not (is_added_there before)) (Some r) before) ≡ false
    one false b e = was
    one true false e = was
    one true true e = ap (λ c. is_added_there (cond (not c) (Some r) before)) was ∙ sym (ap (λ c. c && is_added r) e) ∙ none.0

takes : (key : List ℕ) (before : Option RecordParts) (r : RecordParts) → (is_of key r && is_alive r) ≡ true →
    is_added_there before ≡ false → found_with key before r ≡ Some r
takes key before r is was =
    ap (λ b. cond (b && not (is_added_there before)) (Some r) before) (swapped (is_alive r) (is_of key r) ∙ is) ∙ ap (λ c. cond (not c) (Some r) before) was

pub first_added : (key : List ℕ) (before after : List RecordParts) (r : RecordParts) → NoneAdded key before →
    (is_of key r && is_added r) ≡ true → found key (before ++ (r ∷ after)) ≡ Some r
first_added key before after r none is =
    let both = and_parts (is_of key r) (is_added r) is in
    found_after-append key None before (r ∷ after)
    ∙ ap (λ o. found_after key o after) (takes key (found key before) r
    (ap (λ b. b && is_alive r) both.0 ∙ or_left (is_added r) _ both.1) (none_added key None before none refl))
    ∙ found_after-added key r after both.1

pub last_replaced : (key : List ℕ) (before after : List RecordParts) (r : RecordParts) → NoneAdded key before →
    (is_of key r && is_alive r) ≡ true → NoneAlive key after →
    found key (before ++ (r ∷ after)) ≡ Some r
last_replaced key before after r none is later =
    found_after-append key None before (r ∷ after) ∙ ap (λ o. found_after key o after)
    (takes key (found key before) r is (none_added key None before none refl)) ∙ none_alive key (Some r) after later
