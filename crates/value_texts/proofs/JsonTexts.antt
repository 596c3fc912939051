-- Texts in JSON, as the code writes them.
use Rattle.std.proofs.Common.{◌≡◌, ◌&&◌, ℕ, Bool, true, false, List, [], ◌∷◌, ◌++◌, map, flat_map, length, append_assoc, append-nil, refl, ap, sym, ◌∙◌}
use Rattle.std.specs.Prelude.{Option, Some, None, if◌then◌else◌}
use Rattle.std.specs.Char.Utf16.{surrogate_pair_char, is_high_surrogate, is_low_surrogate}
use Rattle.std.proofs.lemmas.Grind.{flat_map-append}
use Rattle.std.proofs.lemmas.List.{nil_from_length}
use Rattle.uefi_names.specs.Shown.{pair_char}
use Rattle.value_texts.specs.Json.{character_json, lone_json, units_inside}

-- ---- characters

-- one more is written
pub one_more : (f : ℕ → List ℕ) (old now more done : List ℕ) (x : ℕ)
    → now ≡ old ++ flat_map f done → more ≡ now ++ f x → more ≡ old ++ flat_map f (done ++ x ∷ [])
one_more f old now more done x so_far new =
    let last : flat_map f done ++ f x ≡ flat_map f (done ++ x ∷ []) =
    ap (λ (them : List ℕ). flat_map f done ++ them) (sym (append-nil (f x))) ∙ sym (flat_map-append f done (x ∷ [])) in
    new ∙ ap (λ (them : List ℕ). them ++ f x) so_far ∙ append_assoc old (flat_map f done) (f x) ∙ ap (λ (them : List ℕ). old ++ them) last

map_same : (xs : List ℕ) → map (λ x. x) xs ≡ xs
map_same [] = refl
map_same (x ∷ xs) = ap (λ (them : List ℕ). x ∷ them) (map_same xs)

-- all are written
pub all_done : (f : ℕ → List ℕ) (old now done all : List ℕ)
    → now ≡ old ++ flat_map f done → map (λ x. x) done ≡ all → now ≡ old ++ flat_map f all
all_done f old now done all so_far ends =
    so_far ∙ ap (λ (them : List ℕ). old ++ flat_map f them) (sym (map_same done) ∙ ends)

-- all are taken
pub all_taken : (now done all : List ℕ) → now ≡ done → map (λ x. x) done ≡ all → now ≡ all
all_taken now done all so_far ends = so_far ∙ (sym (map_same done) ∙ ends)

-- ---- units

-- a unit at the end
pub last_unit : (high : ℕ) (units : List ℕ) → units ≡ [] → units_inside (high ∷ units) ≡ lone_json high ++ units_inside units
unfolding units_inside
last_unit high units none = rw none (sym (append-nil (lone_json high)))

abbrev by_test : Bool → ℕ → ℕ → List ℕ → List ℕ
by_test b high low units =
    if b then character_json (surrogate_pair_char high low) ++ units_inside units else lone_json high ++ units_inside (low ∷ units)

tested : (high low : ℕ) (units : List ℕ) → units_inside (high ∷ low ∷ units) ≡ by_test (is_high_surrogate high && is_low_surrogate low) high low units
unfolding units_inside
tested high low units = refl

-- a pair
pub pair_first : (high low c : ℕ) (units after : List ℕ) → units ≡ low ∷ after → ◌≡◌ {A = Option ℕ} (Some c) (pair_char high low)
    → units_inside (high ∷ units) ≡ character_json c ++ units_inside after
pair_first high low c units after begins is =
    ap (λ (them : List ℕ). units_inside (high ∷ them)) begins ∙ tested high low after ∙ go (is_high_surrogate high && is_low_surrogate low) is
  where
    go : (b : Bool) → ◌≡◌ {A = Option ℕ} (Some c) (if b then Some (surrogate_pair_char high low) else None)
        → by_test b high low after ≡ character_json c ++ units_inside after
    go true e = let same : c ≡ surrogate_pair_char high low = cc in ap (λ (n : ℕ). character_json n ++ units_inside after) (sym same)
    go false e = cc

-- a unit and another one
pub lone_first : (high low : ℕ) (units after : List ℕ) → units ≡ low ∷ after → ◌≡◌ {A = Option ℕ} None (pair_char high low)
    → units_inside (high ∷ units) ≡ lone_json high ++ units_inside units
lone_first high low units after begins is =
    ap (λ (them : List ℕ). units_inside (high ∷ them)) begins ∙ tested high low after ∙ go (is_high_surrogate high && is_low_surrogate low) is
    ∙ ap (λ (them : List ℕ). lone_json high ++ units_inside them) (sym begins)
  where
    go : (b : Bool) → ◌≡◌ {A = Option ℕ} None (if b then Some (surrogate_pair_char high low) else None)
        → by_test b high low after ≡ lone_json high ++ units_inside (low ∷ after)
    go true e = cc
    go false e = refl

-- no unit is left
pub all_written : (now rest all : List ℕ) → length rest ≡ 0 → now ++ units_inside rest ≡ all → now ≡ all
unfolding units_inside
all_written now rest all none e =
    sym (append-nil now) ∙ ap (λ (them : List ℕ). now ++ units_inside them) (sym (nil_from_length rest none)) ∙ e
