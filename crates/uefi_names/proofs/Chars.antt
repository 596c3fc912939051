-- Characters of UTF-16, and what is read of them.
use Rattle.std.proofs.Common.{◌≡◌, ◌<◌, ◌≤◌, ◌+◌, ◌&&◌, ℕ, Bool, true, false, List, [], ◌∷◌, ◌++◌, map, drop, length, get_or, refl, ap, sym, ◌∙◌}
use Rattle.std.proofs.lemmas.List.{at_drop_more, at_drop_all}
use Rattle.std.specs.Prelude.{Option, Some, None, unwrap_or, if◌then◌else◌}
use Rattle.std.specs.Char.Utf16.{utf16_chars, utf16_lossy_chars, lone_unit_char, surrogate_pair_char, is_high_surrogate, is_low_surrogate}
use Rattle.uefi_names.specs.declared.table.Encoding.{Encoding}
use Rattle.uefi_names.specs.Shown.{is_shown, pair_char}
use Rattle.uefi_names.specs.Spelled.{char_bytes, closing_bytes, chars_read}

-- ---- the first character

pub no_chars : (units : List ℕ) → units ≡ [] → utf16_lossy_chars units ≡ []
unfolding utf16_chars
no_chars units none = rw none refl

abbrev lone : ℕ → ℕ
lone unit = unwrap_or (lone_unit_char unit) 0xFFFD

-- a unit at the end
pub last_char : (high : ℕ) (units : List ℕ) → units ≡ [] → utf16_lossy_chars (high ∷ units) ≡ lone high ∷ utf16_lossy_chars units
unfolding utf16_chars
last_char high units none = rw none refl

abbrev by_test : Bool → ℕ → ℕ → List ℕ → List (Option ℕ)
by_test b high low units =
    if b then Some (surrogate_pair_char high low) ∷ utf16_chars units else lone_unit_char high ∷ utf16_chars (low ∷ units)

abbrev or_mark : List (Option ℕ) → List ℕ
or_mark found = map (λ o. unwrap_or o 0xFFFD) found

tested : (high low : ℕ) (units : List ℕ) → utf16_lossy_chars (high ∷ low ∷ units) ≡ or_mark (by_test (is_high_surrogate high && is_low_surrogate low) high low units)
unfolding utf16_chars
tested high low units = refl

-- a pair
pub pair_first : (high low c : ℕ) (units after : List ℕ) → units ≡ low ∷ after → ◌≡◌ {A = Option ℕ} (Some c) (pair_char high low)
    → utf16_lossy_chars (high ∷ units) ≡ c ∷ utf16_lossy_chars after
pair_first high low c units after begins is =
    ap (λ (them : List ℕ). utf16_lossy_chars (high ∷ them)) begins ∙ tested high low after ∙ go (is_high_surrogate high && is_low_surrogate low) is
  where
    go : (b : Bool) → ◌≡◌ {A = Option ℕ} (Some c) (if b then Some (surrogate_pair_char high low) else None)
        → or_mark (by_test b high low after) ≡ c ∷ utf16_lossy_chars after
    go true e = let same : c ≡ surrogate_pair_char high low = cc in ap (λ (n : ℕ). n ∷ utf16_lossy_chars after) (sym same)
    go false e = cc

-- a unit and another one
pub lone_first : (high low : ℕ) (units after : List ℕ) → units ≡ low ∷ after → ◌≡◌ {A = Option ℕ} None (pair_char high low)
    → utf16_lossy_chars (high ∷ units) ≡ lone high ∷ utf16_lossy_chars units
lone_first high low units after begins is =
    ap (λ (them : List ℕ). utf16_lossy_chars (high ∷ them)) begins ∙ tested high low after ∙ go (is_high_surrogate high && is_low_surrogate low) is
    ∙ ap (λ (them : List ℕ). lone high ∷ utf16_lossy_chars them) (sym begins)
  where
    go : (b : Bool) → ◌≡◌ {A = Option ℕ} None (if b then Some (surrogate_pair_char high low) else None)
        → or_mark (by_test b high low after) ≡ lone high ∷ utf16_lossy_chars (low ∷ after)
    go true e = cc
    go false e = refl

-- ---- what characters spell

-- the character that is next of those that are left
next_char : (encoding : Encoding) (done all : List ℕ) (n c : ℕ) → (n < length all) × (c ≡ get_or all n c)
    → chars_read encoding done (drop n all) ≡ chars_read encoding done (c ∷ drop (n + 1) all)
next_char encoding done all n c next =
    at_drop_more (chars_read encoding done) all n c next.0
    ∙ ap (λ (x : ℕ). chars_read encoding done (x ∷ drop (n + 1) all)) (sym next.1)

pub char_taken : (encoding : Encoding) (done more all : List ℕ) (n c : ℕ) → (n < length all) × (c ≡ get_or all n c)
    → is_shown encoding c ≡ true → more ≡ done ++ char_bytes encoding c
    → chars_read encoding more (drop (n + 1) all) ≡ chars_read encoding done (drop n all)
char_taken encoding done more all n c next shown is =
    let rest = drop (n + 1) all in
    ap (λ (them : List ℕ). chars_read encoding them rest) is
    ∙ ap (λ (b : Bool). if b then chars_read encoding (done ++ char_bytes encoding c) rest else None) (sym shown)
    ∙ sym (next_char encoding done all n c next)

pub char_refused : (encoding : Encoding) (done all : List ℕ) (n c : ℕ) → (n < length all) × (c ≡ get_or all n c)
    → is_shown encoding c ≡ false → chars_read encoding done (drop n all) ≡ None
char_refused encoding done all n c next hidden =
    let rest = drop (n + 1) all in
    next_char encoding done all n c next
    ∙ ap (λ (b : Bool). if b then chars_read encoding (done ++ char_bytes encoding c) rest else None) hidden

pub chars_done : (encoding : Encoding) (done more all : List ℕ) (n : ℕ) → length all ≤ n → more ≡ done ++ closing_bytes encoding
    → ◌≡◌ {A = Option (List ℕ)} (Some more) (chars_read encoding done (drop n all))
chars_done encoding done more all n past is =
    ap (λ (them : List ℕ). Some them) is ∙ sym (at_drop_all (chars_read encoding done) all n past)
