-- The words of a command line, as getopt_long reads them by a table of options.
use Rattle.std.specs.Prelude.{◌≡◌, ℕ, ◌==◌, List, [], ◌∷◌, ◌++◌, map, filter, Option, Some, None, Result, Ok, Err, if◌then◌else◌}
use Rattle.std.specs.List.{find, starts_with}
use Rattle.std.specs.Cmp.Lexicographic.{pointwise}
use Rattle.std.specs.Str.{chars, encode_utf8_all}
use Rattle.efibootmgr_words.specs.Cut.{before_mark, behind_mark, behind_hyphen}
use Rattle.efibootmgr_words.specs.Parts.{FaultParts, OptionParts, GivenParts, fault_parts, option_parts, UnknownLetter, UnknownName}
use Rattle.efibootmgr_words.specs.Parts.{Ambiguous, NoValue, ExtraValue}
use Rattle.efibootmgr_words.specs.declared.given_words.Behind.{Behind}
use Rattle.efibootmgr_words.specs.declared.given_words.Behind.TheVariants as behind
use Rattle.efibootmgr_words.specs.declared.given_words.Given.{Given}
use Rattle.efibootmgr_words.specs.declared.option_table.Choice.{Choice}
use Rattle.efibootmgr_words.specs.declared.option_table.OptionRow.{OptionRow}
use Rattle.efibootmgr_words.specs.declared.option_table.Takes.{Takes}
use Rattle.efibootmgr_words.specs.declared.option_table.Takes.TheVariants as takes

-- ---- what a word gives

-- what the words behind a word are: options and others; first the value of an option; others alone; or not read, since a word is
-- wrong
pub data BehindParts : Type 0 where
  Any : BehindParts
  ValueOf : OptionRow → BehindParts
  Others : BehindParts
  Unread : FaultParts → BehindParts

abbrev pub behind_parts : Behind → BehindParts
behind_parts behind.Any = Any
behind_parts (behind.ValueOf row) = ValueOf row
behind_parts behind.Others = Others
behind_parts (behind.Unread fault) = Unread (fault_parts fault)

-- the options and the others that a word gives, and what the words behind it are
pub record WordParts : Type 0 where
  pub options : List OptionParts
  pub others : List (List ℕ)
  pub behind : BehindParts

abbrev pub nothing_before : BehindParts → WordParts
nothing_before behind = record { options = []; others = []; behind = behind }

abbrev pub with_option : Choice → Option (List ℕ) → WordParts → WordParts
with_option choice value more =
    record more { options = record { choice = choice; value = value } ∷ more.options }

abbrev pub one_option : Choice → Option (List ℕ) → WordParts
one_option choice value = with_option choice value (nothing_before Any)

abbrev pub one_other : List ℕ → BehindParts → WordParts
one_other word behind = record { options = []; others = word ∷ []; behind = behind }

abbrev pub wrong : FaultParts → WordParts
wrong fault = nothing_before (Unread fault)

-- an option with the value that its word has, or else with the next word, if it needs a value
abbrev pub value_by : Takes → OptionRow → Option (List ℕ) → WordParts
value_by kind row (Some value) = one_option row.choice (Some value)
value_by takes.Nothing row None = one_option row.choice None
value_by takes.Perhaps row None = one_option row.choice None
value_by takes.Value row None = nothing_before (ValueOf row)

abbrev pub value_parts : OptionRow → Option (List ℕ) → WordParts
value_parts row own = value_by row.takes row own

-- ---- letters

-- the first row of a letter; a blank is no letter, and stands in the rows of options that have none
abbrev pub row_of_letter : List OptionRow → ℕ → Option OptionRow
row_of_letter table letter = if letter == 0x20 then None else find (λ row. row.letter == letter) table

-- the value that the letters behind one are, if there are some
abbrev pub own_value : List ℕ → Option (List ℕ)
own_value [] = None
own_value (letter ∷ letters) = Some (encode_utf8_all (letter ∷ letters))

-- a letter of an option that takes a value so, with these letters behind it, which give this
abbrev pub letter_by : Takes → OptionRow → List ℕ → WordParts → WordParts
letter_by takes.Nothing row letters more = with_option row.choice None more
letter_by takes.Value row letters more = value_parts row (own_value letters)
letter_by takes.Perhaps row letters more = value_parts row (own_value letters)

abbrev pub letter_parts : Option OptionRow → ℕ → List ℕ → WordParts → WordParts
letter_parts None letter letters more = wrong (UnknownLetter letter)
letter_parts (Some row) letter letters more = letter_by row.takes row letters more

-- letters of options, of which the last may have a value: the rest of its word, or the next one
abbrev pub letters_parts : List OptionRow → List ℕ → WordParts
letters_parts table [] = nothing_before Any
letters_parts table (letter ∷ letters) =
    letter_parts (row_of_letter table letter) letter letters (letters_parts table letters)

-- ---- names

-- the only row
abbrev pub only_row : List ℕ → List OptionRow → Result OptionRow FaultParts
only_row name [] = Err (UnknownName name)
only_row name (row ∷ []) = Ok row
only_row name (row ∷ other ∷ rows) = Err (Ambiguous name)

abbrev pub or_only : Option OptionRow → Result OptionRow FaultParts → Result OptionRow FaultParts
or_only None only = only
or_only (Some row) only = Ok row

-- the first row of a name, or else the only one whose name begins so
abbrev pub row_of_name : List OptionRow → List ℕ → Result OptionRow FaultParts
row_of_name table name =
    or_only (find (λ row. pointwise ◌==◌ row.name.now name) table)
    (only_row name (filter (λ row. starts_with ◌==◌ row.name.now name) table))

abbrev pub equals_sign : ℕ
equals_sign = 61

abbrev pub named_by : Takes → OptionRow → Option (List ℕ) → WordParts
named_by takes.Nothing row (Some value) = wrong (ExtraValue row.name.now)
named_by takes.Nothing row None = one_option row.choice None
named_by takes.Value row own = value_parts row own
named_by takes.Perhaps row own = value_parts row own

abbrev pub named_parts : Result OptionRow FaultParts → Option (List ℕ) → WordParts
named_parts (Err fault) own = wrong fault
named_parts (Ok row) own = named_by row.takes row own

-- the name of an option, and perhaps its value: what is behind `=`, or the next word
abbrev pub name_parts : List OptionRow → List ℕ → WordParts
name_parts table word = named_parts (row_of_name table (before_mark equals_sign word)) (behind_mark equals_sign word)

-- ---- words

-- what is behind one hyphen, with what is behind a second
abbrev pub hyphened_parts : List OptionRow → List ℕ → Option (List ℕ) → WordParts
hyphened_parts table letters None = letters_parts table (chars letters)
hyphened_parts table letters (Some []) = nothing_before Others
hyphened_parts table letters (Some (byte ∷ name)) = name_parts table (byte ∷ name)

-- a word with what is behind its hyphen: with none, or nothing behind it, it belongs to no option
abbrev pub free_by : List OptionRow → List ℕ → Option (List ℕ) → WordParts
free_by table word None = one_other word Any
free_by table word (Some []) = one_other word Any
free_by table word (Some (byte ∷ rest)) = hyphened_parts table (byte ∷ rest) (behind_hyphen (byte ∷ rest))

-- a word behind one that says what words behind it are
abbrev pub word_parts : List OptionRow → BehindParts → List ℕ → WordParts
word_parts table Any word = free_by table word (behind_hyphen word)
word_parts table (ValueOf row) word = one_option row.choice (Some word)
word_parts table Others word = one_other word Others
word_parts table (Unread fault) word = wrong fault

-- ---- what words give

-- what is wrong if no more words come
abbrev pub fault_at_end : BehindParts → Option FaultParts
fault_at_end Any = None
fault_at_end (ValueOf row) = Some (NoValue row.name.now)
fault_at_end Others = None
fault_at_end (Unread fault) = Some fault

abbrev pub with_word : WordParts → GivenParts → GivenParts
with_word word given =
    record { options = word.options ++ given.options; others = word.others ++ given.others; fault = given.fault }

abbrev pub given_after : List OptionRow → BehindParts → List (List ℕ) → GivenParts
given_after table behind [] = record { options = []; others = []; fault = fault_at_end behind }
given_after table behind (word ∷ words) =
    with_word (word_parts table behind word) (given_after table (word_parts table behind word).behind words)

abbrev pub given_of : List OptionRow → List (List ℕ) → GivenParts
given_of table words = given_after table Any words

-- ---- for the private functions that read a word

-- what the word gives is added to what was there
pub record IsAdded (word : WordParts) (old new : Given) (next : Behind) : Type 0 where
  pub options : map option_parts new.options.items ≡ map option_parts old.options.items ++ word.options
  pub others : map (λ other. other.now) new.others.items ≡ map (λ other. other.now) old.others.items ++ word.others
  pub behind : behind_parts next ≡ word.behind
