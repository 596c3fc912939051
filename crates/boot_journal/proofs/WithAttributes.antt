-- Attributes of what a machine keeps, and the set of what it keeps: values that are rewritten under their names, one after the other as
-- the loops of `attributes.rt` do it, or all at once.
use Rattle.std.proofs.Common.{◌≡◌, ℕ, ◌≤◌, leb, Bool, true, false, cond, T, List, [], ◌∷◌, ◌++◌, map, length, take, drop, Option, Some, None, IfSome, is_some}
use Rattle.std.proofs.Common.{refl, sym, ap, subst, ◌∙◌, arith}
use Rattle.std.specs.Option.{option_map}
use Rattle.std.specs.List.{AllByRecursion}
use Rattle.std.specs.Cmp.{Equal-is}
use Rattle.std.specs.FinMap.{entries, entries_sorted, get, get-entries, get-from_entries, remove}
use Rattle.std.specs.FinMap.Entries.{find, is_sorted}
use Rattle.std.proofs.lemmas.Bool.{true≢false, leb-true, le-leb}
use Rattle.std.proofs.lemmas.Cmp.{nat_list_cmp_total}
use Rattle.std.proofs.lemmas.List.{take-append-drop, length-take, length-take-le}
use Rattle.std.proofs.Math.Seq.{drop-append_seam, take-append_seam}
use Rattle.uefi_vars.specs.Vars.{Variables, name_cmp, IsVariable, IsVars}
use Rattle.uefi_vars.specs.NameChanges.{with_data, after_each}
use Rattle.uefi_vars.proofs.Maps.{sorted_parts, find_below, entries-AllByRecursion}
use Rattle.uefi_vars.specs.BootChange.{same_name, is_boot_name}
use Rattle.uefi_vars.specs.Attributes.{attributes_len, boot_attributes}
use Rattle.boot_journal.specs.Attributes.{attributes_in, with_values, data_in, data_of, kept_with, with_attributes, KeepAttributes}
use Rattle.boot_journal.specs.Attributes.{HaveAttributes}
use Rattle.boot_journal.proofs.Making.{same_self}
use Rattle.boot_journal.proofs.Single.{Single, over, one_name, same_variables, get-with_data, get-each}

-- ---- other values under the same names

found_value : (value : List ℕ → List ℕ → List ℕ) (es : List (List ℕ × List ℕ)) (q : List ℕ) →
    find name_cmp q (map (λ (e : List ℕ × List ℕ). (e.0, value e.0 e.1)) es) ≡ option_map (value q) (find name_cmp q es)
found_value value [] q = refl
found_value value (e ∷ es) q = by (same_name q e.0) refl (found_value value es q)
  where
    by : (b : Bool)
        → same_name q e.0 ≡ b → find name_cmp q (map (λ (e : List ℕ × List ℕ). (e.0, value e.0 e.1)) es) ≡ option_map (value q) (find name_cmp q es)
        → cond b (Some (value e.0 e.1)) (find name_cmp q (map (λ (e : List ℕ × List ℕ). (e.0, value e.0 e.1)) es))
        ≡ option_map (value q) (cond b (Some e.1) (find name_cmp q es))
    by true is rest = ap (λ n. Some (value n e.1)) (sym (one_name q e.0 ((Equal-is _).0 is)))
    by false is rest = rest

pub get-with_values : (value : List ℕ → List ℕ → List ℕ) (vars : Variables) (q : List ℕ) → get (with_values value vars) q ≡ option_map (value q) (get vars q)
get-with_values value vars q =
    get-from_entries nat_list_cmp_total (map (λ (e : List ℕ × List ℕ). (e.0, value e.0 e.1)) (entries vars)) q
    ∙ found_value value (entries vars) q ∙ ap (option_map (value q)) (sym (get-entries vars q))

pub get-data_of : (vars : Variables) (q : List ℕ) → get (data_of vars) q ≡ option_map (data_in q) (get vars q)
get-data_of vars q = get-with_values data_in vars q

pub get-with_attributes : (there vars : Variables) (q : List ℕ) → get (with_attributes there vars) q ≡ option_map (kept_with there q) (get vars q)
get-with_attributes there vars q = get-with_values (kept_with there) vars q

-- ---- names that have no attributes

pub data_elsewhere : (name kept : List ℕ) → is_boot_name name ≡ false → data_in name kept ≡ kept
data_elsewhere name kept other = ap (λ b. cond b (drop attributes_len kept) kept) other

pub all_elsewhere : (name : List ℕ) (x : Option (List ℕ)) → is_boot_name name ≡ false → option_map (data_in name) x ≡ x
all_elsewhere name None other = refl
all_elsewhere name (Some kept) other = ap Some (data_elsewhere name kept other)

-- under another name the set has what is kept
pub get_elsewhere : (vars : Variables) (q : List ℕ) → is_boot_name q ≡ false → get (data_of vars) q ≡ get vars q
get_elsewhere vars q other = get-data_of vars q ∙ all_elsewhere q (get vars q) other

-- ---- how many bytes attributes have

first_four : (kept : List ℕ) (b : Bool) → leb attributes_len (length kept) ≡ b → length (cond b (take attributes_len kept) boot_attributes) ≡ 4
first_four kept true long = length-take-le attributes_len kept (leb-true attributes_len (length kept) long)
first_four kept false short = refl

pub four_bytes : (x : Option (List ℕ)) → length (attributes_in x) ≡ 4
four_bytes None = refl
four_bytes (Some kept) = first_four kept (leb attributes_len (length kept)) refl

-- what has four bytes or more begins with its attributes
has_attributes : (kept : List ℕ) → attributes_len ≤ length kept → attributes_in (Some kept) ≡ take attributes_len kept
has_attributes kept long = ap (λ b. cond b (take attributes_len kept) boot_attributes) (le-leb attributes_len (length kept) long)

-- so does what begins with those of something else
pub attributes_are : (kept : List ℕ) (x : Option (List ℕ)) → take attributes_len kept ≡ attributes_in x → attributes_in (Some kept) ≡ attributes_in x
attributes_are kept x is = has_attributes kept (omega (arith, length-take attributes_len kept, ap length is, four_bytes x)) ∙ is

-- ---- attributes on data, and off again

off_again : (x : Option (List ℕ)) (value : List ℕ) (b : Bool)
    → cond b (drop attributes_len (cond b (attributes_in x ++ value) value)) (cond b (attributes_in x ++ value) value) ≡ value
off_again x value true = subst (λ n. drop n (attributes_in x ++ value) ≡ value) (four_bytes x) (drop-append_seam (attributes_in x) value)
off_again x value false = refl

each_off : (there : Variables) (q : List ℕ) (x : Option (List ℕ)) → option_map (data_in q) (option_map (kept_with there q) x) ≡ x
each_off there q None = refl
each_off there q (Some value) = ap Some (off_again (get there q) value (is_boot_name q))

pub data_back : (there vars : Variables) → data_of (with_attributes there vars) ≡ vars
data_back there vars = same_variables _ _ (λ q.
    get-data_of (with_attributes there vars) q ∙ ap (option_map (data_in q)) (get-with_attributes there vars q) ∙ each_off there q (get vars q))

begins_so : (x : Option (List ℕ)) (value : List ℕ) → take attributes_len (attributes_in x ++ value) ≡ attributes_in x
begins_so x value = subst (λ n. take n (attributes_in x ++ value) ≡ attributes_in x) (four_bytes x) (take-append_seam (attributes_in x) value)

pub attributes_kept : (there vars : Variables) → KeepAttributes there (with_attributes there vars)
attributes_kept there vars name boot =
    subst (λ (x : Option (List ℕ)). IfSome x (λ kept. take attributes_len kept ≡ attributes_in (get there name))) (sym (get-with_attributes there vars name))
    (by (get vars name))
  where
    by : (x : Option (List ℕ)) → IfSome (option_map (kept_with there name) x) (λ kept. take attributes_len kept ≡ attributes_in (get there name))
    by None = tt
    by (Some value) = ap (λ b. take attributes_len (cond b (attributes_in (get there name) ++ value) value)) boot ∙ begins_so (get there name) value

pub on_again : (vars : Variables) → HaveAttributes vars → with_attributes vars (data_of vars) ≡ vars
on_again vars have = same_variables _ _ (λ q.
    get-with_attributes vars (data_of vars) q ∙ ap (option_map (kept_with vars q)) (get-data_of vars q) ∙ by q (get vars q) refl (have q))
  where
    at : (q kept : List ℕ) → get vars q ≡ Some kept → (is_boot_name q ≡ true → attributes_len ≤ length kept) → (b : Bool) → is_boot_name q ≡ b →
        cond b (attributes_in (get vars q) ++ cond b (drop attributes_len kept) kept) (cond b (drop attributes_len kept) kept) ≡ kept
    at q kept is long true boot =
        ap (λ (x : Option (List ℕ)). attributes_in x ++ drop attributes_len kept) is
        ∙ ap (λ (a : List ℕ). a ++ drop attributes_len kept) (has_attributes kept (long boot))
        ∙ take-append-drop attributes_len kept
    at q kept is long false other = refl

    by : (q : List ℕ) (x : Option (List ℕ)) → get vars q ≡ x → (is_boot_name q ≡ true → IfSome x (λ kept. attributes_len ≤ length kept)) →
        option_map (kept_with vars q) (option_map (data_in q) x) ≡ x
    by q None is long = refl
    by q (Some kept) is long = ap Some (at q kept is long (is_boot_name q) refl)

-- ---- changes of single variables

pub data_of-with_data : (vars : Variables) (name : List ℕ) (value : Option (List ℕ))
    → data_of (with_data vars name value) ≡ with_data (data_of vars) name (option_map (data_in name) value)
data_of-with_data vars name value = same_variables _ _ (λ q.
    get-data_of (with_data vars name value) q
    ∙ ap (option_map (data_in q)) (get-with_data vars name value q)
    ∙ at q (same_name q name) refl
    ∙ sym (get-with_data (data_of vars) name (option_map (data_in name) value) q
    ∙ ap (cond (same_name q name) (option_map (data_in name) value)) (get-data_of vars q)))
  where
    at : (q : List ℕ) (b : Bool) → same_name q name ≡ b
        → option_map (data_in q) (cond b value (get vars q)) ≡ cond b (option_map (data_in name) value) (option_map (data_in q) (get vars q))
    at q true is = ap (λ n. option_map (data_in n) value) (one_name q name ((Equal-is _).0 is))
    at q false is = refl

pub data_of-remove : (vars : Variables) (name : List ℕ) → data_of (remove vars name) ≡ remove (data_of vars) name
data_of-remove vars name = data_of-with_data vars name None

-- ---- going over the variables

-- what is still to be set of these variables, to have other values
abbrev pub rewritten : (List ℕ → List ℕ → List ℕ) → List (List ℕ × List ℕ) → List Single
rewritten value [] = []
rewritten value (e ∷ es) = cond (is_boot_name e.0) ((e.0, Some (value e.0 e.1)) ∷ rewritten value es) (rewritten value es)

-- these are variables of the set
abbrev pub AreIn : Variables → List (List ℕ × List ℕ) → Type 0
AreIn vars es = AllByRecursion (λ e. IsVariable e × (get vars e.0 ≡ Some e.1)) es

none_behind : (e : List ℕ × List ℕ) (es : List (List ℕ × List ℕ)) → T (is_sorted name_cmp (e ∷ es)) → (q : List ℕ) → same_name q e.0 ≡ true
    → find name_cmp q es ≡ None
none_behind e es rising q is =
    ap (λ n. find name_cmp n es) (one_name q e.0 ((Equal-is _).0 is)) ∙ find_below name_cmp e.0 es (sorted_parts name_cmp e es rising).0

module _ (vars : Variables) where
  each_in : (es : List (List ℕ × List ℕ))
      → T (is_sorted name_cmp es) → AllByRecursion IsVariable es → ((q v : List ℕ) → find name_cmp q es ≡ Some v → get vars q ≡ Some v)
      → AreIn vars es
  each_in [] rising valid here = tt
  each_in (e ∷ es) rising valid here = (
    (valid.0, here e.0 e.1 (ap (λ b. cond b (Some e.1) (find name_cmp e.0 es)) (same_self e.0))),
    each_in es (sorted_parts name_cmp e es rising).1 valid.1 (λ q v found. here q v (by q v found (same_name q e.0) refl)),
  )
    where
      by : (q v : List ℕ) → find name_cmp q es ≡ Some v → (b : Bool) → same_name q e.0 ≡ b → cond b (Some e.1) (find name_cmp q es) ≡ Some v
      by q v found true is = absurd (true≢false (ap is_some (sym found ∙ none_behind e es rising q is)))
      by q v found false is = found

  pub entries_in : IsVars vars → AreIn vars (entries vars)
  entries_in valid = each_in (entries vars) (entries_sorted vars) (entries-AllByRecursion vars valid) (λ q v found. get-entries vars q ∙ found)

module _ (value : List ℕ → List ℕ → List ℕ) (elsewhere : (name kept : List ℕ) → is_boot_name name ≡ false → value name kept ≡ kept) where
  -- what is under the name then, of what is found under it
  abbrev now_in : List ℕ → Option (List ℕ) → Option (List ℕ) → Option (List ℕ)
  now_in q None x = x
  now_in q (Some kept) x = cond (is_boot_name q) (Some (value q kept)) x

  over_rewritten : (es : List (List ℕ × List ℕ)) → T (is_sorted name_cmp es) → (q : List ℕ) (x : Option (List ℕ))
      → over (rewritten value es) q x ≡ now_in q (find name_cmp q es) x
  over_rewritten [] rising q x = refl
  over_rewritten (e ∷ es) rising q x = at (λ y. over_rewritten es (sorted_parts name_cmp e es rising).1 q y) (same_name q e.0) (is_boot_name e.0) refl refl
    where
      name_of : same_name q e.0 ≡ true → q ≡ e.0
      name_of is = one_name q e.0 ((Equal-is _).0 is)

      here : (b : Bool) → same_name q e.0 ≡ true → is_boot_name e.0 ≡ b → cond b (Some (value q e.1)) x ≡ now_in q (Some e.1) x
      here b is name = ap (λ c. cond c (Some (value q e.1)) x) (sym (ap is_boot_name (name_of is) ∙ name))

      at : ((y : Option (List ℕ)) → over (rewritten value es) q y ≡ now_in q (find name_cmp q es) y) →
          (same boot : Bool) → same_name q e.0 ≡ same → is_boot_name e.0 ≡ boot →
          over (cond boot ((e.0, Some (value e.0 e.1)) ∷ rewritten value es) (rewritten value es)) q x
          ≡ now_in q (cond same (Some e.1) (find name_cmp q es)) x
      at rest true true is name =
          ap (λ b. over (rewritten value es) q (cond b (Some (value e.0 e.1)) x)) is
          ∙ rest (Some (value e.0 e.1))
          ∙ ap (λ f. now_in q f (Some (value e.0 e.1))) (none_behind e es rising q is)
          ∙ ap (λ n. Some (value n e.1)) (sym (name_of is))
          ∙ here true is name
      at rest true false is name = rest x ∙ ap (λ f. now_in q f x) (none_behind e es rising q is) ∙ here false is name
      at rest false true is name = ap (λ b. over (rewritten value es) q (cond b (Some (value e.0 e.1)) x)) is ∙ rest x
      at rest false false is name = rest x

  all_of : (q : List ℕ) (x : Option (List ℕ)) → now_in q x x ≡ option_map (value q) x
  all_of q None = refl
  all_of q (Some kept) = by (is_boot_name q) refl
    where
      by : (b : Bool) → is_boot_name q ≡ b → cond b (Some (value q kept)) (Some kept) ≡ Some (value q kept)
      by true is = refl
      by false is = ap Some (sym (elsewhere q kept is))

  pub all_rewritten : (vars : Variables) → after_each vars (rewritten value (entries vars)) ≡ with_values value vars
  all_rewritten vars = same_variables _ _ (λ q.
      get-each (rewritten value (entries vars)) vars q
      ∙ over_rewritten (entries vars) (entries_sorted vars) q (get vars q)
      ∙ ap (λ f. now_in q f (get vars q)) (sym (get-entries vars q))
      ∙ all_of q (get vars q)
      ∙ sym (get-with_values value vars q))

pub kept_elsewhere : (there : Variables) (name value : List ℕ) → is_boot_name name ≡ false → kept_with there name value ≡ value
kept_elsewhere there name value other = ap (λ b. cond b (attributes_in (get there name) ++ value) value) other
