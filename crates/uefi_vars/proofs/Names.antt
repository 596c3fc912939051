-- The names of entries.
use Rattle.std.proofs.Common.{◌≡◌, ◌≢◌, ℕ, zero, suc, ◌+◌, ◌*◌, ◌/◌, ◌%◌, ◌<◌, ◌≤◌, ◌^◌, List, [], ◌∷◌, Some, None, sym, ◌∙◌, ⊎_elim, arith, false}
use Rattle.std.specs.Ordering.{nat_cmp, ordering_then, eq_by_cmp}
use Rattle.std.specs.declared.cmp.Ordering.{Ordering}
use Rattle.std.specs.declared.cmp.Ordering.TheVariants.{Less}
use Rattle.std.specs.FinMap.{get, insert, remove, get-insert, get-remove}
use Rattle.std.specs.List.{AllByRecursion}
use Rattle.std.specs.Str.{IsAscii, IsUtf8}
use Rattle.std.proofs.lemmas.Bool.{cases_lt, cond-true, cond-false, false_from_ne_true}
use Rattle.std.proofs.lemmas.Cmp.{eq_by_cmp_equiv, nat_list_cmp_total}
use Rattle.std.proofs.lemmas.Map.Lookups.{exact_bytes}
use Rattle.std.proofs.lemmas.Map.Views.{tells_apart}
use Rattle.std.proofs.lemmas.Bool.Decides.{nat_tests}
use Rattle.std.proofs.lemmas.Str.{IsUtf8-from_ascii}
use Rattle.uefi_vars.specs.Name.{IsNameByte, IsName, upper_digit, four_digits, entry_text}
use Rattle.uefi_vars.specs.Vars.{Variables, name_cmp}

-- ---- digits

digits_apart : (a b : ℕ) → upper_digit a ≡ upper_digit b → a ≡ b
digits_apart a b e = grind (arith, nat_tests)

-- ---- the order of names

below : (a b : ℕ) (after : Ordering) → a < b → ordering_then (nat_cmp (upper_digit a) (upper_digit b)) after ≡ Less
below a b after h = grind (arith, nat_tests)

tied : (a b : ℕ) (after : Ordering) → a ≡ b → ordering_then (nat_cmp (upper_digit a) (upper_digit b)) after ≡ after
tied a b after e = grind (arith, nat_tests)

-- a digit decides, or leaves it to those after it
by_digit : (a b : ℕ) (after : Ordering) → a ≤ b → (a ≡ b → after ≡ Less) → ordering_then (nat_cmp (upper_digit a) (upper_digit b)) after ≡ Less
by_digit a b after h behind = ⊎_elim (below a b after) (λ high. let same : a ≡ b = omega arith in tied a b after same ∙ behind same) (cases_lt a b)

pub names_rise : (m n : ℕ) → m < n → n < 2 ^ 16 → name_cmp (entry_text m) (entry_text n) ≡ Less
names_rise m n h fits =
    by_digit (m / 0x1000) (n / 0x1000) _ (omega arith) (λ a. by_digit (m / 0x100 % 0x10) (n / 0x100 % 0x10) _ (omega arith)
    (λ b. by_digit (m / 0x10 % 0x10) (n / 0x10 % 0x10) _ (omega arith) (λ c. by_digit (m % 0x10) (n % 0x10) _ (omega arith) (λ d. absurd (omega arith)))))

-- ---- the number of a name

pub names_apart : (m n : ℕ) → m < 2 ^ 16 → n < 2 ^ 16 → entry_text m ≡ entry_text n → m ≡ n
names_apart m n p q e =
    let a : m / 0x1000 ≡ n / 0x1000 = digits_apart _ _ (cc e) in
    let b : m / 0x100 % 0x10 ≡ n / 0x100 % 0x10 = digits_apart _ _ (cc e) in
    let c : m / 0x10 % 0x10 ≡ n / 0x10 % 0x10 = digits_apart _ _ (cc e) in
    let d : m % 0x10 ≡ n % 0x10 = digits_apart _ _ (cc e) in
    omega arith

-- ---- names as text

printing_is_ascii : (bytes : List ℕ) → AllByRecursion IsNameByte bytes → IsAscii bytes
printing_is_ascii [] h i = omega arith
printing_is_ascii (byte ∷ bytes) h zero = omega (arith, h.0.1)
printing_is_ascii (byte ∷ bytes) h (suc i) = printing_is_ascii bytes h.1 i

pub IsUtf8-name : (name : List ℕ) → IsName name → IsUtf8 name
IsUtf8-name name is = IsUtf8-from_ascii name (printing_is_ascii name is.printing)

-- ---- what is stored under names

-- names that differ aren't tied
apart : (a b : List ℕ) → a ≢ b → eq_by_cmp name_cmp a b ≡ false
apart a b differ = false_from_ne_true _ (λ ties. differ (tells_apart exact_bytes a b ties))

pub get-insert_here : (vars : Variables) (name value : List ℕ) → get (insert vars name value) name ≡ Some value
get-insert_here vars name value = get-insert nat_list_cmp_total vars name value name ∙ cond-true _ _ _ ((eq_by_cmp_equiv nat_list_cmp_total).refl name)

pub get-insert_apart : (vars : Variables) (name value other : List ℕ) → name ≢ other → get (insert vars name value) other ≡ get vars other
get-insert_apart vars name value other differ =
    get-insert nat_list_cmp_total vars name value other ∙ cond-false _ _ _ (apart other name (λ e. differ (sym e)))

pub get-remove_here : (vars : Variables) (name : List ℕ) → get (remove vars name) name ≡ None
get-remove_here vars name = get-remove nat_list_cmp_total vars name name ∙ cond-true _ _ _ ((eq_by_cmp_equiv nat_list_cmp_total).refl name)

pub get-remove_apart : (vars : Variables) (name other : List ℕ) → name ≢ other → get (remove vars name) other ≡ get vars other
get-remove_apart vars name other differ =
    get-remove nat_list_cmp_total vars name other ∙ cond-false _ _ _ (apart other name (λ e. differ (sym e)))
