-- Words that are read one after another.
use Rattle.std.proofs.Common.{◌≡◌, ℕ, ◌+◌, ◌<◌, List, ◌∷◌, ◌++◌, length, get_or, drop, ap, sym, ◌∙◌, append_assoc}
use Rattle.std.specs.Prelude.{Option, map}
use Rattle.std.specs.String.{string_bytes}
use Rattle.std.specs.declared.string.String.{String}
use Rattle.std.proofs.lemmas.List.{drop_more}
use Rattle.efibootmgr_words.specs.Parts.{OptionParts, GivenParts, FaultParts, option_parts}
use Rattle.efibootmgr_words.specs.Words.{WordParts, BehindParts, IsAdded, behind_parts, with_word, word_parts, given_after, given_of}
use Rattle.efibootmgr_words.specs.declared.given_words.Behind.{Behind}
use Rattle.efibootmgr_words.specs.declared.given_words.Given.{Given}
use Rattle.efibootmgr_words.specs.declared.option_table.OptionRow.{OptionRow}

abbrev pub options_of : Given → List OptionParts
options_of given = map option_parts given.options.items

abbrev pub others_of : Given → List (List ℕ)
others_of given = map (λ other. other.now) given.others.items

abbrev parts : List OptionParts → List (List ℕ) → Option FaultParts → GivenParts
parts options others fault = record { options = options; others = others; fault = fault }

-- what was given, and then what is given by others
abbrev pub then_given : Given → GivenParts → GivenParts
then_given given more = parts (options_of given ++ more.options) (others_of given ++ more.others) more.fault

-- so many words are read, which gave this, and say what those behind them are
pub record IsReadSo {Z : Type 0} (table : List OptionRow) (words : List (String Z)) (at : ℕ) (behind : Behind) (given : Given) : Type 0 where
  pub rest : then_given given (given_after table (behind_parts behind) (map string_bytes (drop at words))) ≡ given_of table (map string_bytes words)

joined : (old new : Given) (options : List OptionParts) (others : List (List ℕ)) (more : GivenParts) → options_of new ≡ options_of old ++ options
    → others_of new ≡ others_of old ++ others
    → then_given old (parts (options ++ more.options) (others ++ more.others) more.fault) ≡ then_given new more
joined old new options others more first second =
    ap (λ (o : List OptionParts). parts o (others_of old ++ (others ++ more.others)) more.fault) (sym (append_assoc (options_of old) options more.options))
    ∙ ap (λ (t : List (List ℕ)). parts ((options_of old ++ options) ++ more.options) t more.fault) (sym (append_assoc (others_of old) others more.others))
    ∙ ap (λ (o : List OptionParts). parts (o ++ more.options) ((others_of old ++ others) ++ more.others) more.fault) (sym first)
    ∙ ap (λ (t : List (List ℕ)). parts (options_of new ++ more.options) (t ++ more.others) more.fault) (sym second)

-- one word more
pub read_more : {Z : Type 0} (table : List OptionRow) (words : List (String Z)) (at : ℕ) (item : String Z) (word : List ℕ)
    (behind next : Behind) (old new : Given)
    → at < length words → item ≡ get_or words at item → word ≡ string_bytes item → IsReadSo table words at behind old
    → IsAdded (word_parts table (behind_parts behind) word) old new next → IsReadSo table words (at + 1) next new
read_more {Z} table words at item word behind next old new under is text read added =
    let w : WordParts = word_parts table (behind_parts behind) word in
    let others : List (List ℕ) = map string_bytes (drop (at + 1) words) in
    let here : given_after table (behind_parts behind) (map string_bytes (drop at words)) ≡ with_word w (given_after table w.behind others) =
    ap (λ (left : List (String Z)). given_after table (behind_parts behind) (map string_bytes left)) (drop_more words at item under)
    ∙ ap (λ (one : String Z). given_after table (behind_parts behind) (string_bytes one ∷ others)) (sym is)
    ∙ ap (λ (one : List ℕ). given_after table (behind_parts behind) (one ∷ others)) (sym text) in
    record {
      rest = sym (joined old new w.options w.others (given_after table (behind_parts next) others) added.options added.others)
          ∙ ap (λ (b : BehindParts). then_given old (with_word w (given_after table b others))) added.behind
          ∙ sym (ap (then_given old) here) ∙ read.rest;
    }
