-- Names as they are stored.
use Rattle.std.proofs.Common.{◌≡◌, ℕ, suc, Bool, true, false, cond, ◌&&◌, ◌==◌, ◌≤◌, ◌<◌, ◌*◌, ◌+◌, List, [], ◌∷◌, ◌++◌, length, drop}
use Rattle.std.proofs.Common.{get_or, Option, Some, None, refl, sym, ap, ◌∙◌, append_assoc, arith}
use Rattle.std.specs.Option.{option_map}
use Rattle.std.specs.List.{AllByRecursion}
use Rattle.std.specs.Char.{is_ascii_graphic}
use Rattle.std.proofs.lemmas.Bool.{and_parts}
use Rattle.uefi_vars.specs.Name.{IsNameByte}
use Rattle.var_stores.specs.Present.{stored_name, name_in}

is_zero : (n : ℕ) → (n == 0) ≡ true → n ≡ 0
is_zero n e = grind (arith, e)

-- the name, if the first two bytes are a character or not
abbrev pub name_if : ℕ → ℕ → List ℕ → Bool → Option (List ℕ)
name_if low high stored b =
    cond b (option_map (λ name. low ∷ name) (name_in stored)) (cond (((low == 0) && (high == 0)) && (length stored == 0)) (Some []) None)

-- a character and its zero byte are read
read_byte : (low high : ℕ) (stored : List ℕ) → high ≡ 0 → is_ascii_graphic low ≡ true →
    name_in (low ∷ high ∷ stored) ≡ option_map (λ name. low ∷ name) (name_in stored)
read_byte low high stored zero graphic =
    ap (λ b. name_if low high stored (b && is_ascii_graphic low)) (ap (λ n. n == 0) zero) ∙ ap (name_if low high stored) graphic

graphic_byte : (byte : ℕ) → IsNameByte byte → is_ascii_graphic byte ≡ true
graphic_byte byte h = grind (arith, h.0, h.1)

pub graphic_below : (byte : ℕ) → is_ascii_graphic byte ≡ true → byte < 128
graphic_below byte e = grind (arith, e)

-- a name is read from what is stored for it
pub name_in-stored_name : (name : List ℕ) → AllByRecursion IsNameByte name → name_in (stored_name name) ≡ Some name
name_in-stored_name [] h = refl
name_in-stored_name (byte ∷ name) h = read_byte byte 0 (stored_name name) refl (graphic_byte byte h.0)
    ∙ ap (option_map (λ name. byte ∷ name)) (name_in-stored_name name h.1)

pub some_is : (a b : List ℕ) → Some a ≡ Some b → a ≡ b
some_is a b same = cc

-- what a name is read from is what is stored for it
pub stored_name-name_in : (stored name : List ℕ) → name_in stored ≡ Some name → stored ≡ stored_name name
stored_name-name_in [] name e = cc
stored_name-name_in (low ∷ []) name e = cc
stored_name-name_in (low ∷ high ∷ stored) name e = go (λ rest is. stored_name-name_in stored rest is) ((high == 0) && is_ascii_graphic low) refl
  where
    at_end : (b : Bool) → (((low == 0) && (high == 0)) && (length stored == 0)) ≡ b → cond b (Some []) None ≡ Some name → low ∷ high ∷ stored ≡ stored_name name
    at_end false is none = cc
    at_end true is some =
        let both = and_parts ((low == 0) && (high == 0)) (length stored == 0) is in
        let zeros = and_parts (low == 0) (high == 0) both.0 in
        ap (λ n. n ∷ high ∷ stored) (is_zero low zeros.0) ∙ ap (λ n. 0 ∷ n ∷ stored) (is_zero high zeros.1)
        ∙ ap (λ (s : List ℕ). 0 ∷ 0 ∷ s) (nothing stored (is_zero (length stored) both.1))
        ∙ ap stored_name (some_is [] name some)
      where
        nothing : (s : List ℕ) → length s ≡ 0 → s ≡ []
        nothing [] z = refl
        nothing (x ∷ s) z = absurd (omega (arith, z))

    with_more : ((rest : List ℕ) → name_in stored ≡ Some rest → stored ≡ stored_name rest) → (more : Option (List ℕ)) →
        name_in stored ≡ more → option_map (λ rest. low ∷ rest) more ≡ Some name → high ≡ 0 → low ∷ high ∷ stored ≡ stored_name name
    with_more again None is none zero = cc
    with_more again (Some rest) is some zero =
        ap (λ n. low ∷ n ∷ stored) zero ∙ ap (λ (s : List ℕ). low ∷ 0 ∷ s) (again rest is) ∙ ap stored_name (some_is (low ∷ rest) name some)

    go : ((rest : List ℕ) → name_in stored ≡ Some rest → stored ≡ stored_name rest) → (b : Bool) →
        ((high == 0) && is_ascii_graphic low) ≡ b → low ∷ high ∷ stored ≡ stored_name name
    go again true is =
        let both = and_parts (high == 0) (is_ascii_graphic low) is in
        with_more again (name_in stored) refl (sym (read_byte low high stored (is_zero high both.0) both.1) ∙ e) (is_zero high both.0)
    go again false is = at_end (((low == 0) && (high == 0)) && (length stored == 0)) refl (sym (ap (name_if low high stored) is) ∙ e)

pub stored_name-len : (name : List ℕ) → length (stored_name name) ≡ 2 * length name + 2
stored_name-len [] = refl
stored_name-len (byte ∷ name) = let len = stored_name-len name in omega (arith, len)

pub stored_name-same : (a b : List ℕ) → stored_name a ≡ stored_name b → a ≡ b
stored_name-same [] [] e = refl
stored_name-same [] (y ∷ b) e = let len : 2 ≡ suc (suc (length (stored_name b))) = ap length e in let more = stored_name-len b in
    absurd (omega (arith, len, more))
stored_name-same (x ∷ a) [] e = let len : suc (suc (length (stored_name a))) ≡ 2 = ap length e in let more = stored_name-len a in
    absurd (omega (arith, len, more))
stored_name-same (x ∷ a) (y ∷ b) e = let parts = apart x y (stored_name a) (stored_name b) e in
    ap (λ n. n ∷ a) parts.0 ∙ ap (λ (s : List ℕ). y ∷ s) (stored_name-same a b parts.1)
  where
    apart : (x y : ℕ) (s t : List ℕ) → x ∷ 0 ∷ s ≡ y ∷ 0 ∷ t → (x ≡ y) × (s ≡ t)
    apart x y s t same = (cc, cc)

-- ---- a character more is read

fuse : (bytes : List ℕ) (byte : ℕ) (more : Option (List ℕ)) →
    option_map (λ name. (bytes ++ (byte ∷ [])) ++ name) more ≡ option_map (λ name. bytes ++ name) (option_map (λ name. byte ∷ name) more)
fuse bytes byte None = refl
fuse bytes byte (Some name) = ap Some (append_assoc bytes (byte ∷ []) name)

pub read_on : (bytes rest after : List ℕ) (low high : ℕ) → 2 ≤ length rest → low ≡ get_or rest 0 0 → high ≡ get_or rest 1 0 →
    after ≡ drop 2 rest → high ≡ 0 → is_ascii_graphic low ≡ true →
    option_map (λ name. (bytes ++ (low ∷ [])) ++ name) (name_in after) ≡ option_map (λ name. bytes ++ name) (name_in rest)
read_on bytes [] after low high two a b c zero graphic = absurd (omega (arith, two))
read_on bytes (x ∷ []) after low high two a b c zero graphic = absurd (omega (arith, two))
read_on bytes (x ∷ y ∷ rest) after low high two a b c zero graphic =
    fuse bytes low (name_in after)
    ∙ ap (option_map (λ name. bytes ++ name)) (ap (λ more. option_map (λ name. low ∷ name) (name_in more)) c
    ∙ ap (λ byte. option_map (λ name. byte ∷ name) (name_in rest)) a
    ∙ sym (read_byte x y rest (sym b ∙ zero) (ap is_ascii_graphic (sym a) ∙ graphic)))
