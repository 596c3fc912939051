-- What is stored under names and numbers after an edit, and which names are apart.
use Rattle.std.proofs.Common.{◌≡◌, ◌≢◌, ◌⊎◌, ℕ, ◌/◌, ◌%◌, ◌<◌, true, false, List, length, Option, Some, None, IfSome, inl, inr, refl, sym, ap, subst, ◌∙◌}
use Rattle.std.proofs.Common.{⊎_elim, arith}
use Rattle.std.specs.declared.cmp.Ordering.{Ordering}
use Rattle.std.specs.Ordering.{eq_by_cmp}
use Rattle.std.specs.Cmp.{IsTotalOrder}
use Rattle.std.specs.FinMap.{FinMap, get, insert, remove, get-insert, get-remove, same_map}
use Rattle.std.proofs.lemmas.Bool.{cond-true, cond-false, false≢true, false_from_ne_true}
use Rattle.std.proofs.lemmas.Bool.Decides.{nat_tests}
use Rattle.std.proofs.lemmas.Cmp.{eq_by_cmp_equiv, nat_cmp_total, nat_list_cmp_total}
use Rattle.std.proofs.lemmas.Map.Lookups.{CmpEqualImpliesEq, exact_bytes, exact_unsigned}
use Rattle.std.proofs.lemmas.Map.Views.{tells_apart}
use Rattle.uefi_vars.specs.Name.{upper_digit, entry_text, order_text, next_text, keep_text}
use Rattle.uefi_vars.specs.Vars.{Variables, IsData, IsVariable}
use Rattle.uefi_vars.specs.Order.{IsEntryNumber}
use Rattle.uefi_vars.specs.NameChanges.{with_data}
use Rattle.uefi_vars.proofs.Maps.{name_cmp-IsAntisymmetric}
use Rattle.boot_requests.specs.declared.request.Request.{Request}
use Rattle.boot_requests.specs.State.{IsBootName}
use Rattle.boot_requests.specs.Window.{Requests}
use Rattle.boot_requests.specs.StateOf.{Entries, with_entry}
use Rattle.boot_requests.specs.Frame.{IsSent}

-- ---- what may be stored

-- what is stored under the number, if anything, is the data of an entry
abbrev pub IsEntryAt : ℕ → Option (List ℕ) → Type 0
IsEntryAt number stored = IfSome stored (λ bytes. IsEntryNumber number × IsData bytes)

-- what is stored under the name, if anything, is the data of a variable
abbrev pub IsVariableAt : List ℕ → Option (List ℕ) → Type 0
IsVariableAt name stored = IfSome stored (λ value. IsVariable (name, value))

-- and of one that is no part of a state
abbrev pub IsOtherAt : List ℕ → Option (List ℕ) → Type 0
IsOtherAt name stored = IfSome stored (λ bytes. IsVariable (name, bytes) × (¬ IsBootName name))

-- the request under the number, if there is one, was read off a frame
abbrev pub IsSentAt : ℕ → Option Request → Type 0
IsSentAt number found = IfSome found (IsSent number)

-- ---- maps

module _ {K : Type 0} {R : K → K → Ordering} (o : IsTotalOrder R) (exact : CmpEqualImpliesEq R) where
  unequal : (a b : K) → a ≢ b → eq_by_cmp R a b ≡ false
  unequal a b differ = false_from_ne_true _ (λ ties. differ (tells_apart exact a b ties))

  same_or_not : (a b : K) → (a ≡ b) ⊎ (a ≢ b)
  same_or_not a b =
      elim (eq_by_cmp R a b) as (λ t. eq_by_cmp R a b ≡ t → (a ≡ b) ⊎ (a ≢ b)) [
        | true ↦ λ e. inl (tells_apart exact a b e)
        | false ↦ λ e. inr (λ same. false≢true (sym e ∙ subst (λ x. eq_by_cmp R a x ≡ true) same ((eq_by_cmp_equiv o).refl a)))
      ] refl

  module _ {X : Type 0} (m : FinMap R X) where
    pub insert_here : (k : K) (v : X) → get (insert m k v) k ≡ Some v
    insert_here k v = get-insert o m k v k ∙ cond-true _ _ _ ((eq_by_cmp_equiv o).refl k)

    pub insert_apart : (k : K) (v : X) (q : K) → k ≢ q → get (insert m k v) q ≡ get m q
    insert_apart k v q differ = get-insert o m k v q ∙ cond-false _ _ _ (unequal q k (λ e. differ (sym e)))

    pub remove_here : (k : K) → get (remove m k) k ≡ None
    remove_here k = get-remove o m k k ∙ cond-true _ _ _ ((eq_by_cmp_equiv o).refl k)

    pub remove_apart : (k q : K) → k ≢ q → get (remove m k) q ≡ get m q
    remove_apart k q differ = get-remove o m k q ∙ cond-false _ _ _ (unequal q k (λ e. differ (sym e)))

pub same_name_or_not : (a b : List ℕ) → (a ≡ b) ⊎ (a ≢ b)
same_name_or_not = same_or_not nat_list_cmp_total exact_bytes

pub same_number_or_not : (a b : ℕ) → (a ≡ b) ⊎ (a ≢ b)
same_number_or_not = same_or_not nat_cmp_total exact_unsigned

-- ---- variables

pub stored_here : (vars : Variables) (name : List ℕ) (stored : Option (List ℕ)) → get (with_data vars name stored) name ≡ stored
stored_here vars name None = remove_here nat_list_cmp_total exact_bytes vars name
stored_here vars name (Some bytes) = insert_here nat_list_cmp_total exact_bytes vars name bytes

pub stored_apart : (vars : Variables) (name : List ℕ) (stored : Option (List ℕ)) (other : List ℕ) → name ≢ other →
    get (with_data vars name stored) other ≡ get vars other
stored_apart vars name None other differ = remove_apart nat_list_cmp_total exact_bytes vars name other differ
stored_apart vars name (Some bytes) other differ = insert_apart nat_list_cmp_total exact_bytes vars name bytes other differ

pub stored_beside : (vars : Variables) (name : List ℕ) (stored : Option (List ℕ)) (other : List ℕ) → other ≢ name →
    get (with_data vars name stored) other ≡ get vars other
stored_beside vars name stored other differ = stored_apart vars name stored other (λ e. differ (sym e))

-- what is stored already changes nothing
pub stored_again : (vars : Variables) (name : List ℕ) → with_data vars name (get vars name) ≡ vars
stored_again vars name = same_map nat_list_cmp_total name_cmp-IsAntisymmetric _ _ (λ other. ⊎_elim
    (λ same. subst (λ (n : List ℕ). get (with_data vars name (get vars name)) n ≡ get vars n) same (stored_here vars name (get vars name)))
    (λ differ. stored_apart vars name (get vars name) other differ)
    (same_name_or_not name other))

-- what isn't stored isn't after a removal
pub still_none : (vars : Variables) (name other : List ℕ) → get vars other ≡ None → get (with_data vars name None) other ≡ None
still_none vars name other none =
    ⊎_elim (λ same. subst (λ (k : List ℕ). get (with_data vars name None) k ≡ None) same (stored_here vars name None))
    (λ differ. stored_apart vars name None other differ ∙ none) (same_name_or_not name other)

-- ---- entries

pub entry_here : (entries : Entries) (number : ℕ) (stored : Option (List ℕ)) → get entries number ≡ None →
    get (with_entry entries number stored) number ≡ stored
entry_here entries number None none = none
entry_here entries number (Some bytes) none = insert_here nat_cmp_total exact_unsigned entries number bytes

pub entry_apart : (entries : Entries) (number : ℕ) (stored : Option (List ℕ)) (other : ℕ) → number ≢ other →
    get (with_entry entries number stored) other ≡ get entries other
entry_apart entries number None other differ = refl
entry_apart entries number (Some bytes) other differ = insert_apart nat_cmp_total exact_unsigned entries number bytes other differ

-- ---- requests

pub request_here : (requests : Requests) (number : ℕ) (r : Request) → get (insert requests number r) number ≡ Some r
request_here requests number r = insert_here nat_cmp_total exact_unsigned requests number r

pub request_gone : (requests : Requests) (number : ℕ) → get (remove requests number) number ≡ None
request_gone requests number = remove_here nat_cmp_total exact_unsigned requests number

pub request_gone_apart : (requests : Requests) (number other : ℕ) → number ≢ other → get (remove requests number) other ≡ get requests other
request_gone_apart requests number other differ = remove_apart nat_cmp_total exact_unsigned requests number other differ

pub request_apart : (requests : Requests) (number : ℕ) (r : Request) (other : ℕ) → number ≢ other → get (insert requests number r) other ≡ get requests other
request_apart requests number r other differ = insert_apart nat_cmp_total exact_unsigned requests number r other differ

-- ---- names that are apart

no_small_e : (a : ℕ) → a < 16 → upper_digit a ≡ 0x65 → ⊥
no_small_e a h e = grind (arith, nat_tests)

pub order_is_no_entry : (number : ℕ) → entry_text number ≢ order_text
order_is_no_entry number e = let len : length (entry_text number) ≡ length order_text = ap length e in omega (arith, len)

pub keep_is_no_entry : (number : ℕ) → entry_text number ≢ keep_text
keep_is_no_entry number e = let len : length (entry_text number) ≡ length keep_text = ap length e in omega (arith, len)

pub next_is_no_entry : (number : ℕ) → entry_text number ≢ next_text
next_is_no_entry number e = no_small_e (number / 0x100 % 0x10) (omega arith) (cc e)

pub order_is_not_next : order_text ≢ next_text
order_is_not_next e = let len : length order_text ≡ length next_text = ap length e in omega (arith, len)

pub order_is_not_keep : order_text ≢ keep_text
order_is_not_keep e = let len : length order_text ≡ length keep_text = ap length e in omega (arith, len)

pub next_is_not_keep : next_text ≢ keep_text
next_is_not_keep e = let len : length next_text ≡ length keep_text = ap length e in omega (arith, len)
