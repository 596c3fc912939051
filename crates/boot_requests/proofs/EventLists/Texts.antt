-- Each text is a script or has a first bad line.
use Rattle.std.proofs.Common.{◌≡◌, ◌≢◌, ◌+◌, ℕ, true, false, true≢false, List, [], ◌∷◌, ◌++◌, length, take, drop, Result, Ok, Err, refl}
use Rattle.std.proofs.Common.{ap, sym, ◌∙◌, inl, inr, arith, take-append-drop}
use Rattle.std.specs.Prelude.{◌⊎◌, codes}
use Rattle.std.specs.Bool.{Decides}
use Rattle.std.specs.List.{AllByRecursion}
use Rattle.std.specs.Str.{bytes_eq}
use Rattle.std.proofs.lemmas.Slice.Eq.{bytes_eq-Decides}
use Rattle.hex.specs.Hex.{decode_of}
use Rattle.hex.specs.declared.error.FromHexError.{FromHexError}
use Rattle.boot_requests.specs.declared.event.Event.{Event}
use Rattle.boot_requests.specs.declared.event.Event.TheVariants as event
use Rattle.boot_requests.specs.Script.{lines_of, Tells, TellOf, IsScript, IsScriptLine, IsFirstBadLine}
use Rattle.boot_requests.proofs.EventLists.Scripts.{no_event, no_line}

-- ---- what a line tells of is decided

is_or_not : (line word : List ℕ) → (line ≡ word) ⊎ (line ≢ word)
is_or_not line word =
    elim (bytes_eq line word) as (λ b. Decides b (line ≡ word) → (line ≡ word) ⊎ (line ≢ word)) [
      | true ↦ λ d. inl (d.0 refl)
      | false ↦ λ d. inr (λ e. true≢false (sym (d.1 e)))
    ] (bytes_eq-Decides line word)

digits_or_not : (digits : List ℕ) (r : Result (List ℕ) FromHexError) → decode_of digits ≡ r
    → ((bytes : List ℕ) × (decode_of digits ≡ Ok bytes)) ⊎ ((bytes : List ℕ) → decode_of digits ≡ Ok bytes → ⊥)
digits_or_not digits (Ok bytes) is = inl (bytes, is)
digits_or_not digits (Err e) is = inr (λ bytes other. cc)

-- after the word of a delivery
behind : (line digits : List ℕ) → line ≡ codes "deliver " ++ digits → drop 8 line ≡ digits
behind line digits is = ap (λ (l : List ℕ). drop 8 l) is

word_first : (line digits : List ℕ) → line ≡ codes "deliver " ++ digits → take 8 line ≡ codes "deliver "
word_first line digits is = ap (λ (l : List ℕ). take 8 l) is

delivers_or_not : (line : List ℕ) → ((bytes : List ℕ) × Tells line (event.Deliver bytes)) ⊎ ((bytes : List ℕ) → Tells line (event.Deliver bytes) → ⊥)
delivers_or_not line =
    elim (is_or_not (take 8 line) (codes "deliver ")) [
      | inl word ↦
          let whole : line ≡ codes "deliver " ++ drop 8 line = sym (take-append-drop 8 line) ∙ ap (λ (front : List ℕ). front ++ drop 8 line) word in
          elim (digits_or_not (drop 8 line) (decode_of (drop 8 line)) refl) [
            | inl found ↦ inl (found.0, (drop 8 line, whole, found.1))
            | inr none ↦ inr (λ bytes told. none bytes (ap decode_of (behind line told.0 told.1) ∙ told.2))
          ]
      | inr other ↦ inr (λ bytes told. other (word_first line told.0 told.1))
    ]

tells_or_not : (line : List ℕ) → ((event : Event) × Tells line event) ⊎ ((event : Event) → Tells line event → ⊥)
tells_or_not line =
    elim (is_or_not line (codes "prepare")) [
      | inl is ↦ inl (event.Prepare, is)
      | inr prepare ↦ elim (is_or_not line (codes "hand")) [
        | inl is ↦ inl (event.Hand, is)
        | inr hand ↦ elim (is_or_not line (codes "restart")) [
          | inl is ↦ inl (event.Restart, is)
          | inr restart ↦ elim (delivers_or_not line) [
            | inl found ↦ inl (event.Deliver found.0, found.1)
            | inr deliver ↦ inr (no_event line prepare hand restart deliver)
          ]
        ]
      ]
    ]

-- ---- lines

-- the first of the lines that can't be in a script
record HasBad (lines : List (List ℕ)) : Type 0 where
  before : List (List ℕ)
  bad : List ℕ
  after : List (List ℕ)
  parts : lines ≡ before ++ bad ∷ after
  good : AllByRecursion IsScriptLine before
  is_bad : ¬ IsScriptLine bad

bad_later : (line : List ℕ) (lines : List (List ℕ)) → IsScriptLine line → HasBad lines → HasBad (line ∷ lines)
bad_later line lines good h = record {
  before = line ∷ h.before;
  bad = h.bad;
  after = h.after;
  parts = ap (λ (ls : List (List ℕ)). line ∷ ls) h.parts;
  good = (good, h.good);
  is_bad = h.is_bad;
}

lines_or_bad : (lines : List (List ℕ)) → ((events : List Event) × TellOf lines events) ⊎ HasBad lines
lines_or_bad [] = inl ([], refl)
lines_or_bad ([] ∷ lines) =
    elim (lines_or_bad lines) [
      | inl told ↦ inl (told.0, told.1)
      | inr h ↦ inr (bad_later [] lines (inl refl) h)
    ]
lines_or_bad ((c ∷ line) ∷ lines) =
    elim (tells_or_not (c ∷ line)) [
      | inl first ↦ elim (lines_or_bad lines) [
        | inl told ↦ inl (first.0 ∷ told.0, (first.1, told.1))
        | inr h ↦ inr (bad_later (c ∷ line) lines (inr first) h)
      ]
      | inr none ↦ inr (record {
        before = [];
        bad = c ∷ line;
        after = lines;
        parts = refl;
        good = tt;
        is_bad = no_line (c ∷ line) (λ none_at_all. omega arith) none;
      })
    ]

pub script_or_bad : (text : List ℕ) → ((events : List Event) × IsScript text events) ⊎ ((number : ℕ) × IsFirstBadLine text number)
script_or_bad text =
    elim (lines_or_bad (lines_of text)) [
      | inl told ↦ inl (told.0, told.1)
      | inr h ↦ inr (
        length h.before + 1,
        record {
          before = h.before;
          bad = h.bad;
          after = h.after;
          lines = h.parts;
          good = h.good;
          is_bad = h.is_bad;
          at = refl;
        },
      )
    ]
