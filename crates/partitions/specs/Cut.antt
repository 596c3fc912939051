-- Where texts are cut.
use Rattle.std.specs.Prelude.{ℕ, ◌+◌, ◌==◌, List, take, drop, Option, position}
use Rattle.std.specs.List.{slice_split}
use Rattle.std.specs.Option.{option_map}

abbrev pub blank : ℕ
blank = 32

abbrev pub line_feed : ℕ
line_feed = 10

abbrev pub colon : ℕ
colon = 58

abbrev pub hyphen : ℕ
hyphen = 45

-- what is before the first mark, and what is after it, if there is one
unfoldable pub cut_of : ℕ → List ℕ → Option (List ℕ × List ℕ)
cut_of mark text = option_map (λ at. (take at text, drop (at + 1) text)) (position (λ byte. byte == mark) text)

-- the lines of a text: what line feeds part, so there is one line more than there are line feeds
abbrev pub lines_of : List ℕ → List (List ℕ)
lines_of text = slice_split (λ byte. byte == line_feed) text
