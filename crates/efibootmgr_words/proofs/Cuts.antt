-- Texts that are cut.
use Rattle.std.proofs.Common.{◌≡◌, ◌≢◌, ◌<◌, ◌≤◌, ◌+◌, ◌-◌, ℕ, Bool, true, false, eqb, ltb, cond, List, [], ◌∷◌, length, refl, ap, sym, ◌∙◌, arith, length-drop}
use Rattle.std.specs.Prelude.{Option, Some, None, MatchOption}
use Rattle.std.specs.Option.{option_map}
use Rattle.std.specs.List.{slice_split, after_first, position_or_len, onto_first}
use Rattle.std.proofs.lemmas.Bool.{eqb-true, ltb-true, ltb-false}
use Rattle.std.proofs.lemmas.List.Splits.{slice_split_first, slice_split-cons_no}
use Rattle.std.proofs.lemmas.List.{take_all}
use denote.Ref.{Bor}
use Rattle.efibootmgr_words.specs.Cut.{before_mark, behind_mark, behind_hyphen}

-- ---- a hyphen

no_hyphen_at : (byte : ℕ) (rest : List ℕ) (b : Bool) → eqb byte 45 ≡ b → ((more : List ℕ) → byte ∷ rest ≢ 45 ∷ more) → behind_hyphen (byte ∷ rest) ≡ None
no_hyphen_at byte rest true is none = absurd (none rest (ap (λ (first : ℕ). first ∷ rest) (eqb-true byte 45 is)))
no_hyphen_at byte rest false is none = rw is refl

no_hyphen : (text : List ℕ) → ((rest : List ℕ) → text ≢ 45 ∷ rest) → behind_hyphen text ≡ None
no_hyphen [] none = refl
no_hyphen (byte ∷ rest) none = no_hyphen_at byte rest (eqb byte 45) refl none

pub hyphen_stripped : (text : List ℕ) (r : Option (Bor (List ℕ))) → MatchOption r ((rest : List ℕ) → text ≢ 45 ∷ rest) (λ x. text ≡ 45 ∷ x.now)
    → option_map (λ rest. rest.now) r ≡ behind_hyphen text
hyphen_stripped text None none = sym (no_hyphen text none)
hyphen_stripped text (Some x) is = sym (ap behind_hyphen is)

-- ---- a mark

abbrev pub parts_at : ℕ → List ℕ → List (List ℕ)
parts_at mark text = slice_split (λ byte. eqb byte mark) text

one_at : (mark byte : ℕ) (text : List ℕ) (b : Bool) → eqb byte mark ≡ b
    → length (byte ∷ text) ≤ cond b 0 (1 + position_or_len (λ x. eqb x mark) text)
    → (length text ≤ position_or_len (λ x. eqb x mark) text → parts_at mark text ≡ text ∷ [])
    → parts_at mark (byte ∷ text) ≡ (byte ∷ text) ∷ []
one_at mark byte text true is long others = absurd (omega (arith, long))
one_at mark byte text false is long others =
    slice_split-cons_no (λ x. eqb x mark) byte text is ∙ ap (onto_first byte) (others (omega (arith, long)))

not_test : (mark byte : ℕ) (text : List ℕ) (b : Bool) → eqb byte mark ≡ b
    → position_or_len (λ x. eqb x mark) (byte ∷ text) ≡ cond b 0 (1 + position_or_len (λ x. eqb x mark) text)
not_test mark byte text true is = rw is refl
not_test mark byte text false is = rw is refl

-- a text without the mark is one part
one_part : (mark : ℕ) (text : List ℕ) → length text ≤ position_or_len (λ x. eqb x mark) text → parts_at mark text ≡ text ∷ []
one_part mark [] long = refl
one_part mark (byte ∷ text) long =
    let same = not_test mark byte text (eqb byte mark) refl in
    one_at mark byte text (eqb byte mark) refl (omega (arith, long, same)) (one_part mark text)

more_at : (mark : ℕ) (text rest : List ℕ) (b : Bool) → ltb (position_or_len (λ x. eqb x mark) text) (length text) ≡ b
    → Some rest ≡ cond b (Some (after_first (λ x. eqb x mark) text)) None
    → (parts_at mark text ≡ before_mark mark text ∷ parts_at mark rest) × (length rest < length text)
more_at mark text rest false is e = cc
more_at mark text rest true is e =
    let under : position_or_len (λ x. eqb x mark) text < length text = ltb-true _ _ is in
    let same : rest ≡ after_first (λ x. eqb x mark) text = cc in
    let shorter : length (after_first (λ x. eqb x mark) text) ≡ length text - (position_or_len (λ x. eqb x mark) text + 1) =
    length-drop (position_or_len (λ x. eqb x mark) text + 1) text in
    let long : length rest ≡ length (after_first (λ x. eqb x mark) text) = ap (λ (t : List ℕ). length t) same in (
      slice_split_first (λ x. eqb x mark) text 0 under ∙ ap (λ (t : List ℕ). before_mark mark text ∷ parts_at mark t) (sym same),
      omega (arith, under, shorter, long),
    )

-- the parts of a text with the mark, and that what is behind it is shorter
pub more_parts : (mark : ℕ) (text rest : List ℕ) → Some rest ≡ behind_mark mark text
    → (parts_at mark text ≡ before_mark mark text ∷ parts_at mark rest) × (length rest < length text)
more_parts mark text rest e = more_at mark text rest (ltb (position_or_len (λ x. eqb x mark) text) (length text)) refl e

last_at : (mark : ℕ) (text : List ℕ) (b : Bool) → ltb (position_or_len (λ x. eqb x mark) text) (length text) ≡ b
    → None ≡ cond b (Some (after_first (λ x. eqb x mark) text)) None → length text ≤ position_or_len (λ x. eqb x mark) text
last_at mark text true is e = cc
last_at mark text false is e = ltb-false _ _ is

-- those of a text without it
pub last_part : (mark : ℕ) (text : List ℕ) → None ≡ behind_mark mark text → parts_at mark text ≡ before_mark mark text ∷ []
last_part mark text e =
    let long = last_at mark text (ltb (position_or_len (λ x. eqb x mark) text) (length text)) refl e in
    one_part mark text long ∙ ap (λ (t : List ℕ). t ∷ []) (sym (take_all (position_or_len (λ x. eqb x mark) text) text long))
