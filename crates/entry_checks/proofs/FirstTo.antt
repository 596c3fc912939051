-- The first entry that leads to a place, among entries and one more.
use Rattle.std.proofs.Common.{◌≡◌, ℕ, ◌+◌, ◌<◌, Bool, true, false, cond, List, [], ◌∷◌, ◌++◌, length, take, drop, get_or, Option, Some}
use Rattle.std.proofs.Common.{None, refl, sym, ap, append_assoc, ◌∙◌}
use Rattle.std.specs.Borrow.{Bor}
use Rattle.std.specs.Global.{Vec}
use Rattle.std.specs.Option.{option_copied}
use Rattle.std.specs.BTreeMap.{BTreeMap, get_by, UpdatesBy}
use Rattle.std.specs.Map.{KeepsOthers}
use Rattle.std.specs.Ordering.{nat_cmp}
use Rattle.std.specs.Cmp.Lexicographic.{slice_cmp}
use Rattle.std.proofs.lemmas.Cmp.{nat_list_cmp_total, eq_by_cmp_equiv}
use Rattle.std.proofs.lemmas.List.{at_drop_more, take_more}
use Rattle.std.proofs.lemmas.Map.Lookups.{exact_bytes}
use Rattle.std.proofs.lemmas.Map.Views.{tells_apart}
use Rattle.entry_checks.specs.declared.same_files.Known.{Known}
use Rattle.entry_checks.specs.Twins.{is_same_place, is_there, first_to, twin_among, twins_from, twins_of, Finds}

same_is : (a b : List ℕ) → is_same_place a b ≡ true → a ≡ b
same_is a b e = tells_apart exact_bytes a b e

-- by whether two places are the same
same_or : (a b : List ℕ) (P : Bool → Type 0) → (is_same_place a b ≡ true → P true) → (is_same_place a b ≡ false → P false) → P (is_same_place a b)
same_or a b P same other = go (is_same_place a b) refl
  where
    go : (c : Bool) → is_same_place a b ≡ c → P c
    go true e = same e
    go false e = other e

-- ---- one more entry

module _ (place : List ℕ) (entry : Known) where
  abbrev step : Known → Option ℕ → Option ℕ
  step head found = cond (is_there place head.destination) (Some head.number) found

  -- which leads elsewhere
  pub more_elsewhere : (before : List Known) → is_there place entry.destination ≡ false → first_to place (before ++ entry ∷ []) ≡ first_to place before
  more_elsewhere [] out = ap (λ b. cond b (Some entry.number) None) out
  more_elsewhere (head ∷ before) out = ap (step head) (more_elsewhere before out)

  -- behind one that leads there already
  pub more_behind : (before : List Known) (first : ℕ) → first_to place before ≡ Some first → first_to place (before ++ entry ∷ []) ≡ first_to place before
  more_behind [] first e = cc
  more_behind (head ∷ before) first e = go (is_there place head.destination) (more_behind before first) e
    where
      go : (b : Bool) → (first_to place before ≡ Some first → first_to place (before ++ entry ∷ []) ≡ first_to place before)
          → cond b (Some head.number) (first_to place before) ≡ Some first
          → cond b (Some head.number) (first_to place (before ++ entry ∷ [])) ≡ cond b (Some head.number) (first_to place before)
      go true again e = refl
      go false again e = again e

  -- which is the first that leads there
  pub more_first : (before : List Known) → first_to place before ≡ None → is_there place entry.destination ≡ true →
      first_to place (before ++ entry ∷ []) ≡ Some entry.number
  more_first [] none there = ap (λ b. cond b (Some entry.number) None) there
  more_first (head ∷ before) none there = go (is_there place head.destination) (λ e. more_first before e there) none
    where
      go : (b : Bool) → (first_to place before ≡ None → first_to place (before ++ entry ∷ []) ≡ Some entry.number)
          → cond b (Some head.number) (first_to place before) ≡ None
          → cond b (Some head.number) (first_to place (before ++ entry ∷ [])) ≡ Some entry.number
      go true again e = cc
      go false again e = again e

-- ---- what the map finds then

-- what a look-up under a place gives
pub looked_up : (met : BTreeMap (Vec ℕ) ℕ) (before : List Known) (slice own : List ℕ) (got : Option (Bor ℕ)) → Finds met before
    → option_copied got ≡ get_by (λ k. slice_cmp nat_cmp slice k.items) met → slice ≡ own → first_to own before ≡ option_copied got
looked_up met before slice own got finds value is =
    sym (value ∙ ap (λ (p : List ℕ). get_by (λ k. slice_cmp nat_cmp p k.items) met) is ∙ finds own)

-- an entry that leads to no file
pub finds_none : (met : BTreeMap (Vec ℕ) ℕ) (before : List Known) (entry : Known) → entry.destination ≡ None → Finds met before →
    Finds met (before ++ entry ∷ [])
finds_none met before entry none finds place = finds place ∙ sym (more_elsewhere place entry before (ap (is_there place) none))

module _ (before : List Known) (entry : Known) (own : Vec ℕ) (leads : entry.destination ≡ Some own) where
  elsewhere : (place : List ℕ) → is_same_place place own.items ≡ false → is_there place entry.destination ≡ false
  elsewhere place other = ap (is_there place) leads ∙ other

  -- an entry that leads to where one before it does
  pub finds_twin : (met : BTreeMap (Vec ℕ) ℕ) (first : ℕ) → first_to own.items before ≡ Some first → Finds met before → Finds met (before ++ entry ∷ [])
  finds_twin met first there finds place =
      finds place
      ∙ sym (same_or place own.items (λ b. first_to place (before ++ entry ∷ []) ≡ first_to place before)
      (λ same. more_behind place entry before first (ap (λ (p : List ℕ). first_to p before) (same_is place own.items same) ∙ there))
      (λ other. more_elsewhere place entry before (elsewhere place other)))

  module _ (old new : BTreeMap (Vec ℕ) ℕ) (k : Vec ℕ)
      (updates : UpdatesBy (λ x y. slice_cmp nat_cmp x.items y.items) (λ x. slice_cmp nat_cmp k.items x.items) old new (Some entry.number))
      (same_key : k.items ≡ own.items) where
    others_stay : (place : List ℕ) → is_same_place place own.items ≡ false →
        get_by (λ x. slice_cmp nat_cmp place x.items) new ≡ get_by (λ x. slice_cmp nat_cmp place x.items) old
    unfolding KeepsOthers
    others_stay place other = updates.3 (λ x. is_same_place place x.items) (λ x y. (eq_by_cmp_equiv nat_list_cmp_total).congr place x.items y.items) apart
      where
        apart : (x : Vec ℕ) → is_same_place k.items x.items ≡ true → is_same_place place x.items ≡ false
        apart x same = ap (is_same_place place) (sym (same_is k.items x.items same) ∙ same_key) ∙ other

    -- the first entry that leads where it leads
    pub finds_new : first_to own.items before ≡ None → Finds old before → Finds new (before ++ entry ∷ [])
    finds_new none finds place = same_or place own.items (λ b. get_by (λ x. slice_cmp nat_cmp place x.items) new ≡ first_to place (before ++ entry ∷ []))
        (λ same.
        let is : place ≡ own.items = same_is place own.items same in
        ap (λ (p : List ℕ). get_by (λ x. slice_cmp nat_cmp p x.items) new) (is ∙ sym same_key) ∙ updates.1
        ∙ sym (more_first place entry before (ap (λ (p : List ℕ). first_to p before) is ∙ none) (ap (is_there place) leads ∙ same)))
        (λ other. others_stay place other ∙ finds place ∙ sym (more_elsewhere place entry before (elsewhere place other)))

-- ---- one entry after the other

module _ (entries : List Known) (i : ℕ) (entry : Known) (within : i < length entries) (at : entry ≡ get_or entries i entry) where
  taken : take (i + 1) entries ≡ take i entries ++ entry ∷ []
  taken = take_more entries i entry within ∙ ap (λ (e : Known). take i entries ++ e ∷ []) (sym at)

  left : twins_from (take i entries) (drop i entries) ≡ twin_among (take i entries) entry.destination ∷ twins_from (take (i + 1) entries) (drop (i + 1) entries)
  left =
      at_drop_more (twins_from (take i entries)) entries i entry within
      ∙ ap (λ (e : Known). twin_among (take i entries) e.destination ∷ twins_from (take i entries ++ e ∷ []) (drop (i + 1) entries)) (sym at)
      ∙ ap (λ (before : List Known). twin_among (take i entries) entry.destination ∷ twins_from before (drop (i + 1) entries)) (sym taken)

pub one_more : (entries : List Known) (i : ℕ) (entry : Known) (twins : List (Option ℕ)) → i < length entries → entry ≡ get_or entries i entry
    → twins ++ twins_from (take i entries) (drop i entries) ≡ twins_of entries
    → (twins ++ twin_among (take i entries) entry.destination ∷ []) ++ twins_from (take (i + 1) entries) (drop (i + 1) entries) ≡ twins_of entries
one_more entries i entry twins within at is =
    append_assoc twins (twin_among (take i entries) entry.destination ∷ []) (twins_from (take (i + 1) entries) (drop (i + 1) entries))
    ∙ ap (λ (rest : List (Option ℕ)). twins ++ rest) (sym (left entries i entry within at)) ∙ is

pub finds_more : (entries : List Known) (i : ℕ) (entry : Known) (met : BTreeMap (Vec ℕ) ℕ) → i < length entries → entry ≡ get_or entries i entry
    → Finds met (take i entries ++ entry ∷ []) → Finds met (take (i + 1) entries)
finds_more entries i entry met within at finds place = finds place ∙ ap (first_to place) (sym (taken entries i entry within at))
