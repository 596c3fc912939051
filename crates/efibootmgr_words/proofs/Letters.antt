-- Letters of options, and the value behind them.
use Rattle.std.proofs.Common.{◌≡◌, ◌≢◌, ◌<◌, ℕ, List, [], ◌∷◌, ◌++◌, length, refl, ap, sym, ◌∙◌, arith, append_assoc}
use Rattle.std.specs.Prelude.{Option, Some, None, map, encode_utf8}
use Rattle.std.specs.Str.{chars, IsUtf8, encode_utf8_all}
use Rattle.std.proofs.lemmas.Str.{chars_past_char, IsUtf8-past_char, chars-nil, encodes-chars}
use Rattle.std.proofs.lemmas.List.{append-nil, map-append}
use denote.Ref.{Bor}
use Rattle.efibootmgr_words.specs.Parts.{OptionParts, option_parts, UnknownLetter}
use Rattle.efibootmgr_words.specs.Words.{own_value, letters_parts, letter_parts, letter_by, row_of_letter, with_option, nothing_before}
use Rattle.efibootmgr_words.specs.Words.{value_parts, wrong, WordParts, IsAdded, Any}
use Rattle.efibootmgr_words.specs.declared.given_words.Behind.{Behind}
use Rattle.efibootmgr_words.specs.declared.given_words.Behind.TheVariants as behind
use Rattle.efibootmgr_words.specs.declared.fault.WordFault.TheVariants as fault
use Rattle.efibootmgr_words.specs.declared.given_words.Given.{Given}
use Rattle.efibootmgr_words.specs.declared.given_words.GivenOption.{GivenOption}
use Rattle.efibootmgr_words.specs.declared.option_table.Choice.{Choice}
use Rattle.efibootmgr_words.specs.declared.option_table.OptionRow.{OptionRow}
use Rattle.efibootmgr_words.specs.declared.option_table.Takes.{Takes}
use Rattle.efibootmgr_words.specs.declared.option_table.Takes.TheVariants as takes

-- ---- the value behind a letter

own_of : (letters text : List ℕ) → encode_utf8_all letters ≡ text → 0 < length text → own_value letters ≡ Some text
own_of [] text is some = let none : length text ≡ 0 = sym (ap (λ (t : List ℕ). length t) is) in absurd (omega (arith, none, some))
own_of (letter ∷ letters) text is some = ap (λ (t : List ℕ). Some t) is

pub own_some : (text : List ℕ) → IsUtf8 text → 0 < length text → own_value (chars text) ≡ Some text
own_some text utf8 some = own_of (chars text) text (encodes-chars text utf8) some

pub own_none : (text : List ℕ) → length text ≡ 0 → own_value (chars text) ≡ None
own_none [] none = ap own_value chars-nil
own_none (byte ∷ text) none = absurd (omega (arith, none))

-- ---- letters

-- so many of the letters are read that these are left
pub record IsReadTo (table : List OptionRow) (letters rest : List ℕ) (old given : Given) : Type 0 where
  pub utf8 : IsUtf8 rest
  pub left : (new : Given) (next : Behind) → IsAdded (letters_parts table (chars rest)) given new next →
      IsAdded (letters_parts table (chars letters)) old new next

pub read_none : (table : List OptionRow) (letters : List ℕ) (given : Given) → IsUtf8 letters → IsReadTo table letters letters given given
read_none table letters given utf8 = record { utf8 = utf8; left = λ new next added. added }

added_along : (first second : WordParts) (old new : Given) (next : Behind) → first ≡ second → IsAdded second old new next → IsAdded first old new next
added_along first second old new next same added = record {
  options = added.options ∙ ap (λ (w : WordParts). map option_parts old.options.items ++ w.options) (sym same);
  others = added.others ∙ ap (λ (w : WordParts). map (λ other. other.now) old.others.items ++ w.others) (sym same);
  behind = added.behind ∙ ap (λ (w : WordParts). w.behind) (sym same);
}

-- what the letters that are left give, if there is one more
pub letters_at : (table : List OptionRow) (rest others : List ℕ) (letter : ℕ) → IsUtf8 rest → rest ≡ encode_utf8 letter ++ others
    → letters_parts table (chars rest) ≡ letter_parts (row_of_letter table letter) letter (chars others) (letters_parts table (chars others))
letters_at table rest others letter utf8 is = ap (letters_parts table) (chars_past_char rest others letter utf8 is)

-- one letter more, and what is left is read so
pub read_last : (table : List OptionRow) (letters rest others : List ℕ) (old given new : Given) (next : Behind) (letter : ℕ)
    → IsReadTo table letters rest old given → rest ≡ encode_utf8 letter ++ others
    → IsAdded (letter_parts (row_of_letter table letter) letter (chars others) (letters_parts table (chars others))) given new next
    → IsAdded (letters_parts table (chars letters)) old new next
read_last table letters rest others old given new next letter read is added =
    read.left new next (added_along (letters_parts table (chars rest)) _ given new next (letters_at table rest others letter read.utf8 is) added)

-- the end
pub read_end : (table : List OptionRow) (letters rest : List ℕ) (old given : Given) → IsReadTo table letters rest old given → length rest ≡ 0
    → IsAdded (letters_parts table (chars letters)) old given behind.Any
read_end table letters [] old given read none =
    read.left given behind.Any (added_along (letters_parts table (chars [])) (nothing_before Any) given given behind.Any (ap (letters_parts table) chars-nil)
    (record {
      options = sym (append-nil (map option_parts given.options.items));
      others = sym (append-nil (map (λ other. other.now) given.others.items));
      behind = refl;
    }))
read_end table letters (byte ∷ rest) old given read none = absurd (omega (arith, none))

-- a letter of no option
pub read_unknown : (table : List OptionRow) (letters rest others : List ℕ) (old given : Given) (letter : ℕ)
    → IsReadTo table letters rest old given → rest ≡ encode_utf8 letter ++ others → None ≡ row_of_letter table letter
    → IsAdded (letters_parts table (chars letters)) old given (behind.Unread (fault.UnknownLetter letter))
read_unknown table letters rest others old given letter read is none =
    let more : WordParts = letters_parts table (chars others) in
    read_last table letters rest others old given given (behind.Unread (fault.UnknownLetter letter)) letter read is
    (added_along (letter_parts (row_of_letter table letter) letter (chars others) more) (wrong (UnknownLetter letter)) given given
    (behind.Unread (fault.UnknownLetter letter)) (sym (ap (λ (o : Option OptionRow). letter_parts o letter (chars others) more) none))
    (record {
      options = sym (append-nil (map option_parts given.options.items));
      others = sym (append-nil (map (λ other. other.now) given.others.items));
      behind = refl;
    }))

abbrev plain : Choice → GivenOption
plain choice = record { choice = choice; value = None }

-- a letter of an option that has no value
pub read_plain : (table : List OptionRow) (letters rest others : List ℕ) (old given new : Given) (letter : ℕ) (row : OptionRow)
    → IsReadTo table letters rest old given → rest ≡ encode_utf8 letter ++ others → Some row ≡ row_of_letter table letter → row.takes ≡ takes.Nothing
    → new.options.items ≡ given.options.items ++ plain row.choice ∷ [] → new.others.items ≡ given.others.items → IsReadTo table letters others old new
read_plain table letters rest others old given new letter row read is found kind options same =
    let more : WordParts = letters_parts table (chars others) in
    let gives : letter_parts (row_of_letter table letter) letter (chars others) more ≡ with_option row.choice None more =
    sym (ap (λ (o : Option OptionRow). letter_parts o letter (chars others) more) found) ∙ ap (λ (t : Takes). letter_by t row (chars others) more) kind in
    record {
      utf8 = IsUtf8-past_char rest others letter read.utf8 is;
      left = λ last next added.
          read_last table letters rest others old given last next letter read is
          (added_along (letter_parts (row_of_letter table letter) letter (chars others) more) (with_option row.choice None more) given last next gives
          (record {
            options = added.options
                ∙ ap (λ (items : List GivenOption). map option_parts items ++ more.options) options
                ∙ ap (λ (parts : List OptionParts). parts ++ more.options) (map-append option_parts given.options.items (plain row.choice ∷ []))
                ∙ append_assoc (map option_parts given.options.items) (option_parts (plain row.choice) ∷ []) more.options;
            others = added.others ∙ ap (λ (items : List (Bor (List ℕ))). map (λ other. other.now) items ++ more.others) same;
            behind = added.behind;
          }));
    }

valued_by : (kind : Takes) (row : OptionRow) (letters : List ℕ) (more : WordParts) → kind ≢ takes.Nothing →
    letter_by kind row letters more ≡ value_parts row (own_value letters)
valued_by takes.Nothing row letters more other = absurd (other refl)
valued_by takes.Value row letters more other = refl
valued_by takes.Perhaps row letters more other = refl

-- one of an option that has a value
pub read_valued : (table : List OptionRow) (letters rest others : List ℕ) (old given new : Given) (letter : ℕ) (row : OptionRow)
    (own : Option (List ℕ)) (next : Behind)
    → IsReadTo table letters rest old given → rest ≡ encode_utf8 letter ++ others → Some row ≡ row_of_letter table letter → row.takes ≢ takes.Nothing
    → own ≡ own_value (chars others) → IsAdded (value_parts row own) given new next → IsAdded (letters_parts table (chars letters)) old new next
read_valued table letters rest others old given new letter row own next read is found kind same added =
    let more : WordParts = letters_parts table (chars others) in
    let gives : letter_parts (row_of_letter table letter) letter (chars others) more ≡ value_parts row own =
    sym (ap (λ (o : Option OptionRow). letter_parts o letter (chars others) more) found) ∙ valued_by row.takes row (chars others) more kind
    ∙ ap (value_parts row) (sym same) in
    read_last table letters rest others old given new next letter read is
    (added_along (letter_parts (row_of_letter table letter) letter (chars others) more) (value_parts row own) given new next gives added)
