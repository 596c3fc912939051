-- Where a text is cut.
use Rattle.std.proofs.Common.{◌≡◌, ◌+◌, ℕ, eqb, List, [], ◌∷◌, take, drop, refl, ap, ◌∙◌}
use Rattle.std.specs.Prelude.{Option, Some, None, position}
use Rattle.std.specs.Option.{option_map}
use Rattle.uefi_text.specs.Within.{Lacks, IsAroundMark}
use Rattle.uefi_text.proofs.Read.Marks.{around_found, place_none, lacks_from, arguments_one, arguments_more}
use Rattle.partitions.specs.Cut.{cut_of, lines_of, line_feed}

abbrev at_place : List ℕ → ℕ → List ℕ × List ℕ
at_place text at = (take at text, drop (at + 1) text)

some_place : (mark : ℕ) (text : List ℕ) (parts : List ℕ × List ℕ) (o : Option ℕ) → position (λ x. eqb x mark) text ≡ o
    → Some parts ≡ option_map (at_place text) o → IsAroundMark mark text parts.0 parts.1
some_place mark text parts None is e = cc
some_place mark text parts (Some at) is e =
    let same : parts ≡ at_place text at = cc in
    around_found mark text at parts.0 parts.1 is (ap (λ (p : List ℕ × List ℕ). p.0) same) (ap (λ (p : List ℕ × List ℕ). p.1) same)

-- the parts of a text that is cut
pub cut_some : (mark : ℕ) (text : List ℕ) (parts : List ℕ × List ℕ) → Some parts ≡ cut_of mark text → IsAroundMark mark text parts.0 parts.1
unfolding cut_of
cut_some mark text parts e = some_place mark text parts (position (λ x. eqb x mark) text) refl e

no_place : (mark : ℕ) (text : List ℕ) (o : Option ℕ) → position (λ x. eqb x mark) text ≡ o
    → None ≡ option_map (at_place text) o → Lacks mark text
no_place mark text None is e = lacks_from mark text (place_none (λ x. eqb x mark) text is)
no_place mark text (Some at) is e = cc

-- a text that isn't cut has no mark
pub cut_none : (mark : ℕ) (text : List ℕ) → None ≡ cut_of mark text → Lacks mark text
unfolding cut_of
cut_none mark text e = no_place mark text (position (λ x. eqb x mark) text) refl e

-- the lines of a text that is cut at its first line feed, and of one that has none
pub more_lines : (text : List ℕ) (parts : List ℕ × List ℕ) → Some parts ≡ cut_of line_feed text → lines_of text ≡ parts.0 ∷ lines_of parts.1
more_lines text parts e =
    let around = cut_some line_feed text parts e in
    ap lines_of around.parts ∙ arguments_more line_feed parts.0 parts.1 around.lacks

pub one_line : (text : List ℕ) → None ≡ cut_of line_feed text → lines_of text ≡ text ∷ []
one_line text e = arguments_one line_feed text (cut_none line_feed text e)
