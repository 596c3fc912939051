-- The nearest name: at least as many edits lead from a text to a name as their lengths differ by.
use Rattle.std.proofs.Common.{◌≡◌, ℕ, zero, suc, ◌+◌, ◌≤◌, false, List, [], ◌∷◌, length, nat_eq, nat_lt, arith, refl, ap, ◌∙◌}
use Rattle.std.proofs.lemmas.Int.{clamps}
use Rattle.std.specs.Int.{abs_diff}
use Rattle.strsim.specs.Edits.{cost_at, next_row, rows}
use Rattle.uefi_names.specs.declared.table.NodeTable.{NodeTable}
use Rattle.uefi_names.specs.Reading.{profile_names}
use Rattle.uefi_names.specs.Nearest.{lower, edits_between, Nearest, nearer, nearest_of, nearest_of_groups, none_near, nearest_name}

next_over : (c before : ℕ → ℕ) (n j : ℕ) → ((k : ℕ) → k ≤ before k + n) → j ≤ next_row c before (suc n) j + suc n
unfolding next_row
next_over c before n zero over = omega arith
next_over c before n (suc j) over =
    omega (arith, clamps, next_over c before n j over, over j, over (suc j))

next_under : (c before : ℕ → ℕ) (n j : ℕ) → ((k : ℕ) → n ≤ before k + k) → suc n ≤ next_row c before (suc n) j + j
unfolding next_row
next_under c before n zero under = omega arith
next_under c before n (suc j) under =
    omega (arith, clamps, next_under c before n j under, under j, under (suc j))

rows_over : (xs ys : List ℕ) (n : ℕ) (before : ℕ → ℕ) → ((k : ℕ) → k ≤ before k + n) → (k : ℕ)
    → k ≤ rows nat_eq xs ys n before k + (n + length xs)
unfolding rows
rows_over [] ys n before over k = omega (arith, over k)
rows_over (x ∷ xs) ys n before over k =
    omega (arith, rows_over xs ys (suc n) (next_row (cost_at nat_eq x ys) before (suc n)) (λ j. next_over (cost_at nat_eq x ys) before n j over) k)

rows_under : (xs ys : List ℕ) (n : ℕ) (before : ℕ → ℕ) → ((k : ℕ) → n ≤ before k + k) → (k : ℕ)
    → n + length xs ≤ rows nat_eq xs ys n before k + k
unfolding rows
rows_under [] ys n before under k = omega (arith, under k)
rows_under (x ∷ xs) ys n before under k =
    omega (arith, rows_under xs ys (suc n) (next_row (cost_at nat_eq x ys) before (suc n)) (λ j. next_under (cost_at nat_eq x ys) before n j under) k)

lower-length : (text : List ℕ) → length (lower text) ≡ length text
lower-length [] = refl
lower-length (x ∷ text) = omega (arith, lower-length text)

apart : (text name : List ℕ) → abs_diff (length text) (length name) ≤ edits_between text name
apart text name =
    let over = rows_over (lower text) (lower name) 0 (λ j. j) (λ j. omega arith) (length (lower name)) in
    let under = rows_under (lower text) (lower name) 0 (λ j. j) (λ j. omega arith) (length (lower name)) in
    omega (arith, clamps, lower-length text, lower-length name, over, under)

not_below : (m n : ℕ) → n ≤ m → nat_lt m n ≡ false
not_below m n least = grind (arith, least)

-- a name whose length differs by too much isn't nearer
pub far : (text : List ℕ) (near : Nearest) (name : List ℕ) → near.edits ≤ abs_diff (length text) (length name)
    → near ≡ nearer text near name
far text near name least = rw (not_below (edits_between text name) near.edits (omega (arith, least, apart text name))) refl

-- ---- the nearest of all names

pub nearest_is : (table : NodeTable) (text : List ℕ) (start exact near : Nearest) (names : List (List ℕ)) → start ≡ none_near text
    → names ≡ profile_names → exact ≡ nearest_of text start names → near ≡ nearest_of_groups text exact table.groups
    → near.name ≡ nearest_name table text
nearest_is table text start exact near names starts named first all =
    ap (λ (n : Nearest). n.name)
    (all
    ∙ ap (λ (n : Nearest). nearest_of_groups text n table.groups)
    (first ∙ (ap (λ (n : Nearest). nearest_of text n names) starts ∙ ap (nearest_of text (none_near text)) named)))
