-- The units of a name, character by character.
use Rattle.std.proofs.Common.{◌≡◌, ◌≢◌, ◌<◌, ◌+◌, ℕ, zero, suc, Bool, true, false, eqb, List, [], ◌∷◌, ◌++◌, length, get_or, refl, ap, sym}
use Rattle.std.proofs.Common.{◌∙◌, arith, append_assoc}
use Rattle.std.specs.Prelude.{Option, Some, None, map, encode_utf8, position}
use Rattle.std.specs.List.{AllByRecursion}
use Rattle.std.proofs.lemmas.Bool.{eqb-true}
use Rattle.std.proofs.lemmas.Bool.Decides.{nat_tests}
use Rattle.uefi_text.proofs.Read.Marks.{place_found}
use Rattle.std.specs.Option.{option_map}
use Rattle.std.specs.Str.{chars, IsUtf8}
use Rattle.std.proofs.lemmas.Str.{chars_past_char, IsUtf8-past_char, chars-nil}
use Rattle.std.proofs.lemmas.List.{append-nil}
use Rattle.partitions.specs.LoaderName.{is_name_character, unit_of, bad_place, units_of}

-- so much of a name is read: the rest begins at this offset
pub record IsRead (name rest units : List ℕ) (at : ℕ) : Type 0 where
  pub utf8 : IsUtf8 rest
  pub bad : bad_place (chars name) ≡ option_map (λ place. at + place) (bad_place (chars rest))
  pub units_are : units_of name ≡ units ++ units_of rest

map_zero : (o : Option ℕ) → o ≡ option_map (λ place. 0 + place) o
map_zero None = refl
map_zero (Some place) = let same : place ≡ 0 + place = omega arith in ap (λ (n : ℕ). Some n) same

map_more : (a b : ℕ) (o : Option ℕ) → option_map (λ place. a + place) (option_map (λ place. b + place) o) ≡ option_map (λ place. (a + b) + place) o
map_more a b None = refl
map_more a b (Some place) = let same : a + (b + place) ≡ (a + b) + place = omega arith in ap (λ (n : ℕ). Some n) same

pub read_none : (name : List ℕ) → IsUtf8 name → IsRead name name [] 0
read_none name utf8 = record { utf8 = utf8; bad = map_zero (bad_place (chars name)); units_are = refl }

bad_past : (character : ℕ) (rest : List ℕ) → is_name_character character ≡ true
    → bad_place (character ∷ rest) ≡ option_map (λ place. length (encode_utf8 character) + place) (bad_place rest)
bad_past character rest good = rw good refl

bad_here : (character : ℕ) (rest : List ℕ) → is_name_character character ≡ false → bad_place (character ∷ rest) ≡ Some 0
bad_here character rest bad = rw bad refl

-- a character that a name can have
pub read_more : (name rest others units : List ℕ) (at next character : ℕ) → IsRead name rest units at → rest ≡ encode_utf8 character ++ others
    → next ≡ at + length (encode_utf8 character) → is_name_character character ≡ true → IsRead name others (units ++ unit_of character ∷ []) next
read_more name rest others units at next character read is place good =
    let first : chars rest ≡ character ∷ chars others = chars_past_char rest others character read.utf8 is in
    record {
      utf8 = IsUtf8-past_char rest others character read.utf8 is;
      bad = read.bad ∙ ap (λ (cs : List ℕ). option_map (λ place. at + place) (bad_place cs)) first
          ∙ ap (λ (o : Option ℕ). option_map (λ place. at + place) o) (bad_past character (chars others) good)
          ∙ map_more at (length (encode_utf8 character)) (bad_place (chars others))
          ∙ ap (λ (n : ℕ). option_map (λ place. n + place) (bad_place (chars others))) (sym place);
      units_are = read.units_are ∙ ap (λ (cs : List ℕ). units ++ map unit_of cs) first ∙ sym (append_assoc units (unit_of character ∷ []) (units_of others));
    }

-- one that it can't have
pub read_bad : (name rest others units : List ℕ) (at character : ℕ) → IsRead name rest units at → rest ≡ encode_utf8 character ++ others
    → is_name_character character ≡ false → bad_place (chars name) ≡ Some at
read_bad name rest others units at character read is bad =
    let first : chars rest ≡ character ∷ chars others = chars_past_char rest others character read.utf8 is in
    let same : at + 0 ≡ at = omega arith in
    read.bad ∙ ap (λ (cs : List ℕ). option_map (λ place. at + place) (bad_place cs)) first
    ∙ ap (λ (o : Option ℕ). option_map (λ place. at + place) o) (bad_here character (chars others) bad) ∙ ap (λ (n : ℕ). Some n) same

-- the end
pub read_all : (name rest units : List ℕ) (at : ℕ) → IsRead name rest units at → length rest ≡ 0 → (bad_place (chars name) ≡ None) × (units_of name ≡ units)
read_all name [] units at read short = (
  read.bad ∙ ap (λ (cs : List ℕ). option_map (λ place. at + place) (bad_place cs)) chars-nil,
  read.units_are ∙ ap (λ (cs : List ℕ). units ++ map unit_of cs) chars-nil ∙ append-nil units,
)
read_all name (byte ∷ rest) units at read short = absurd (omega (arith, short))

pub false_from : (b : Bool) → (b ≡ true → ⊥) → b ≡ false
false_from true other = absurd (other refl)
false_from false other = refl

-- no unit of a name is zero
character_unit : (character : ℕ) → is_name_character character ≡ true → unit_of character ≢ 0
character_unit character good = grind (arith, nat_tests)

map_none : (n : ℕ) (o : Option ℕ) → option_map (λ place. n + place) o ≡ None → o ≡ None
map_none n None e = refl
map_none n (Some place) e = cc

good_first : (character : ℕ) (rest : List ℕ) (b : Bool) → is_name_character character ≡ b → bad_place (character ∷ rest) ≡ None
    → (b ≡ true) × (bad_place rest ≡ None)
good_first character rest false is none = let here = bad_here character rest is in let never : Some 0 ≡ None = sym here ∙ none in cc
good_first character rest true is none =
    (refl, map_none (length (encode_utf8 character)) (bad_place rest) (sym (bad_past character rest is) ∙ none))

no_zero : (characters : List ℕ) → bad_place characters ≡ None → AllByRecursion (λ unit. unit ≢ 0) (map unit_of characters)
no_zero [] none = tt
no_zero (character ∷ rest) none =
    let first = good_first character rest (is_name_character character) refl none in
    (character_unit character first.0, no_zero rest first.1)

each_at : (units : List ℕ) (i : ℕ) → AllByRecursion (λ unit. unit ≢ 0) units → i < length units → get_or units i 0 ≢ 0
each_at [] i all under = absurd (omega (arith, under))
each_at (unit ∷ units) zero all under = all.0
each_at (unit ∷ units) (suc i) all under = each_at units i all.1 (omega (arith, under))

pub no_zero_unit : (name : List ℕ) (at : ℕ) → bad_place (chars name) ≡ None → position (λ unit. eqb unit 0) (units_of name) ≡ Some at → ⊥
no_zero_unit name at none e =
    let place = place_found (λ unit. eqb unit 0) (units_of name) at e in
    each_at (units_of name) at (no_zero (chars name) none) place.within (eqb-true (get_or (units_of name) at 0) 0 place.at)
