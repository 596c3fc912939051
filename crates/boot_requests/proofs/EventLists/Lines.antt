-- A text is cut at its first line feed.
use Rattle.std.proofs.Common.{◌≡◌, ◌<◌, ◌+◌, ℕ, Bool, true, false, eqb, ltb, List, [], ◌∷◌, length, take, drop, refl, ap, ◌∙◌, arith, length-drop}
use Rattle.std.specs.Prelude.{Some, None, position, if◌then◌else◌}
use Rattle.std.specs.List.{position_or_len, slice_split}
use Rattle.std.proofs.lemmas.Bool.{ltb-true, ltb-false}
use Rattle.std.proofs.lemmas.List.Splits.{slice_split_none, slice_split_first}
use Rattle.std.proofs.lemmas.List.Sums.{fails_before_first}
use Rattle.std.proofs.lemmas.List.Elements.{All-from_get_or}
use Rattle.boot_requests.specs.Script.{line_feed, lines_of}

no_place : (n : ℕ) (b : Bool) → (if b then Some n else None) ≡ None → b ≡ false
no_place n true e = cc
no_place n false e = refl

some_place : (n i : ℕ) (b : Bool) → (if b then Some n else None) ≡ Some i → (b ≡ true) × (n ≡ i)
some_place n i true e = (refl, cc)
some_place n i false e = cc

-- a text without a line feed is one line
pub last_line : (text : List ℕ) → position (λ byte. eqb byte line_feed) text ≡ None → lines_of text ≡ text ∷ []
last_line text e =
    let ends : ℕ → Bool = λ byte. eqb byte line_feed in
    let past = ltb-false (position_or_len ends text) (length text) (no_place _ (ltb (position_or_len ends text) (length text)) e) in
    slice_split_none ends text (All-from_get_or (λ x. ends x ≡ false) text 0 (λ k h. fails_before_first ends text k 0 (omega arith)))

-- what is before the first line feed is the first line, and the others are those of what is after it
pub first_line : (text : List ℕ) (len : ℕ) → position (λ byte. eqb byte line_feed) text ≡ Some len
    → (lines_of text ≡ take len text ∷ lines_of (drop (len + 1) text)) × (length (drop (len + 1) text) < length text)
first_line text len e =
    let ends : ℕ → Bool = λ byte. eqb byte line_feed in
    let place = some_place (position_or_len ends text) len (ltb (position_or_len ends text) (length text)) e in
    let within : position_or_len ends text < length text = ltb-true (position_or_len ends text) (length text) place.0 in (
      slice_split_first ends text 0 within ∙ ap (λ (i : ℕ). take i text ∷ slice_split ends (drop (i + 1) text)) place.1,
      omega (arith, length-drop (len + 1) text, place.1, within),
    )
