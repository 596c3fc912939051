-- The characters of units of UTF-16.
use Rattle.std.proofs.Common.{◌≡◌, ℕ, true, false, ◌==◌, List, [], ◌∷◌, length, ◌++◌, refl, ap, sym, ◌∙◌}
use Rattle.std.specs.Prelude.{Option, Some, None, is_some, if◌then◌else◌}
use Rattle.std.specs.Char.{encode_utf8}
use Rattle.uefi_names.specs.Shown.{pair_char}
use Rattle.efibootmgr_words.specs.Units.{has_pair, pair_text, lone_text, units_text}
use Rattle.std.proofs.lemmas.List.{append-nil}
use Rattle.std.proofs.lemmas.Bool.{ne_eqb}

is_other : (unit : ℕ) → (unit ≡ 0 → ⊥) → (unit == 0) ≡ false
is_other unit some = ne_eqb unit 0 some

-- a pair comes first
pub pair_first : (high low c : ℕ) (units after : List ℕ) → (high ≡ 0 → ⊥) → units ≡ low ∷ after
    → ◌≡◌ {A = Option ℕ} (pair_char high low) (Some c) → units_text (high ∷ units) ≡ encode_utf8 c ++ units_text after
unfolding units_text
pair_first high low c units after some begins is =
    ap (λ (them : List ℕ). units_text (high ∷ them)) begins
    ∙ ap (λ b. if b then [] else pair_text (pair_char high low) (units_text after) (lone_text high ++ units_text (low ∷ after))) (is_other high some)
    ∙ ap (λ o. pair_text o (units_text after) (lone_text high ++ units_text (low ∷ after))) is

-- a unit comes first that is in no pair
pub lone_first : (unit : ℕ) (units : List ℕ) → (unit ≡ 0 → ⊥) → has_pair unit units ≡ false
    → units_text (unit ∷ units) ≡ lone_text unit ++ units_text units
unfolding units_text
lone_first unit [] some none =
    ap (λ b. if b then [] else lone_text unit) (is_other unit some) ∙ sym (append-nil (lone_text unit))
lone_first unit (low ∷ units) some none =
    ap (λ b. if b then [] else pair_text (pair_char unit low) (units_text units) (lone_text unit ++ units_text (low ∷ units))) (is_other unit some)
    ∙ go (pair_char unit low) none
  where
    go : (o : Option ℕ) → is_some o ≡ false
        → pair_text o (units_text units) (lone_text unit ++ units_text (low ∷ units)) ≡ lone_text unit ++ units_text (low ∷ units)
    go (Some c) e = cc
    go None e = refl

pub no_units : (units : List ℕ) → length units ≡ 0 → units_text units ≡ []
unfolding units_text
no_units [] none = refl
no_units (unit ∷ units) none = cc

-- a zero unit comes first
zero_first : (units : List ℕ) → units_text (0 ∷ units) ≡ []
unfolding units_text
zero_first [] = refl
zero_first (low ∷ units) = refl

pub none_first : (unit : ℕ) (all units : List ℕ) → all ≡ unit ∷ units → unit ≡ 0 → units_text all ≡ []
none_first unit all units begins zero =
    ap units_text begins ∙ ap (λ (n : ℕ). units_text (n ∷ units)) zero ∙ zero_first units
