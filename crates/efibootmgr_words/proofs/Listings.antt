-- The lines of entries, one variable after the other.
use Rattle.std.proofs.Common.{◌≡◌, ◌<◌, ◌^◌, ◌≢◌, ◌⊎◌, inl, inr, ℕ, List, [], ◌∷◌, ◌++◌, append_assoc, append-nil, refl, subst, ap, sym, ◌∙◌}
use Rattle.std.specs.Prelude.{Option, Some, None, Result, Ok, Err, OnOk, is_ok, if◌then◌else◌}
use Rattle.std.specs.String.{string_bytes}
use Rattle.uefi_option.specs.LoadOption.{OptionParts, SpellsOption}
use Rattle.uefi_vars.specs.Name.{entry_text}
use Rattle.efibootmgr_words.specs.declared.lines.ListForm.{ListForm}
use Rattle.efibootmgr_words.specs.declared.lines.Listing.{Listing}
use Rattle.efibootmgr_words.specs.Listing.{IsEntry, IsVariable, AreEntries, Appends, AppendsVariable, AppendsEntries, IsOptionText, front_text}

-- one more variable is done, and whatever is still to come is as it was
pub goes_on : (form : ListForm) (variable : List ℕ × List ℕ) (left after : List (List ℕ × List ℕ)) (before now : Listing) (lines bad : List ℕ)
    → left ≡ variable ∷ after → AppendsVariable form variable before now → AreEntries form after lines bad
    → (more : List ℕ) × (others : List ℕ) × AreEntries form left more others
    × (string_bytes before.text ++ more ≡ string_bytes now.text ++ lines) × (before.faulty.items ++ others ≡ now.faulty.items ++ bad)
goes_on form variable left after before now lines bad begins done rest =
    let line = done.0 in
    let own = done.1 in (
      line ++ lines,
      own ++ bad,
      subst (λ all. AreEntries form all (line ++ lines) (own ++ bad)) (sym begins) (line, own, lines, bad, done.2, rest, refl, refl),
      sym (append_assoc (string_bytes before.text) line lines) ∙ ap (λ (front : List ℕ). front ++ lines) (sym done.3.0),
      sym (append_assoc before.faulty.items own bad) ∙ ap (λ (front : List ℕ). front ++ bad) (sym done.3.1),
    )

-- none is still to come
pub ends : (form : ListForm) (left : List (List ℕ × List ℕ)) → left ≡ [] → AreEntries form left [] []
ends form left none = subst (λ all. AreEntries form all [] []) (sym none) (refl, refl)

-- the variable is an entry
pub an_entry : (form : ListForm) (name bytes : List ℕ) (number : ℕ) (before now : Listing) → number < 2 ^ 16 → name ≡ entry_text number
    → ((line : List ℕ) × (bad : List ℕ) × IsEntry form number bytes line bad × Appends line bad before now)
    → AppendsVariable form (name, bytes) before now
an_entry form name bytes number before now few is done = (done.0, done.1, inl (number, few, is, done.2), done.3)

-- the line of an entry has its front, what follows it, and a line feed
pub line_ends : (form : ListForm) (number : ℕ) (bytes : List ℕ) (before front between after : List ℕ) (more bad : List ℕ)
    → IsOptionText form.verbose number bytes more bad → front ≡ before ++ front_text form.family number bytes → between ≡ front ++ more
    → after ≡ between ++ 10 ∷ [] → (line : List ℕ) × IsEntry form number bytes line bad × (after ≡ before ++ line)
line_ends form number bytes before front between after more bad is a b c =
    let text = front_text form.family number bytes in (
      text ++ (more ++ 10 ∷ []),
      (more, is, refl),
      c ∙ ap (λ (them : List ℕ). them ++ 10 ∷ []) b ∙ append_assoc front more (10 ∷ [])
          ∙ ap (λ (them : List ℕ). them ++ (more ++ 10 ∷ [])) a ∙ append_assoc before text (more ++ 10 ∷ []),
    )

pub none_is_found : (o : Option ℕ) (number : ℕ) → o ≡ None → ◌≡◌ {A = Option ℕ} o (Some number) → ⊥
none_is_found o number none some = cc

-- what is pushed is there if it was
pub if_pushed : {T E : Type 0} (r : Result T E) (now before more : List ℕ) → now ≡ (if is_ok r then before ++ more else before)
    → OnOk r (now ≡ before ++ more)
if_pushed (Ok x) now before more is = is
if_pushed (Err e) now before more is = tt
