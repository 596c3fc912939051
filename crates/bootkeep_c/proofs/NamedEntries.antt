-- What is told of the numbers that BootNext and BootOrder name, and what is kept of their entries.
use Rattle.std.proofs.Common.{◌≡◌, ℕ, ◌+◌, ◌<◌, ◌≤◌, List, [], ◌∷◌, ◌++◌, length, map, set, take, replicate, get_or, Option, Some, None}
use Rattle.std.proofs.Common.{inl, inr, refl, sym, ap, subst, ◌∙◌, append_assoc}
use Rattle.std.proofs.lemmas.Bool.{cases_eq, cases_lt}
use Rattle.std.proofs.lemmas.List.{map_more, get_or-set_other, get_or-replicate, get_or_past, length-replicate}
use Rattle.std.proofs.lemmas.Grind.{get_or-set_at}
use Rattle.uefi_text.specs.Bytes.{Each}
use Rattle.bootkeep_c.specs.declared.entry.EntryState.{EntryState}
use Rattle.bootkeep_c.specs.Entries.{IsEntryState}
use Rattle.bootkeep_c.specs.Named.{AreKnown}
use Rattle.bootkeep_c.proofs.NamesOfChanges.{each_more}

-- one more of what is made of a list, member by member, after others
pub each_after : {X Y Z : Type 0} (f : X → Z) (R : Z → Y → Type 0) (front : List Z) (xs : List X) (ys all : List Y) (i : ℕ) (d : X) (y : Y) → i < length xs
    → Each R (front ++ map f (take i xs)) ys → R (f (get_or xs i d)) y → all ≡ ys ++ y ∷ [] → Each R (front ++ map f (take (i + 1) xs)) all
each_after {X} {Y} {Z} f R front xs ys all i d y within each more is =
    let made = map f (take i xs) in
    let one = f (get_or xs i d) ∷ [] in
    let same : (front ++ made) ++ one ≡ front ++ map f (take (i + 1) xs) =
    append_assoc front made one ∙ ap (λ (zs : List Z). front ++ zs) (sym (map_more f xs i d within)) in
    rw (is) (subst (λ (zs : List Z). Each R zs (ys ++ y ∷ [])) same (each_more R (front ++ made) ys (f (get_or xs i d)) y each more))

-- ---- what is kept

nothing : (count number : ℕ) (is : EntryState) → get_or (replicate count None) number None ≡ Some is → ⊥
nothing count number is told =
    let d : Option EntryState = None in
    let reads : get_or (replicate count d) number d ≡ d = elim (cases_lt number count) [
      | inl below ↦ get_or-replicate count number d d below
      | inr past ↦ get_or_past (replicate count d) number d (subst (λ (n : ℕ). n ≤ number) (sym (length-replicate count d)) past)
    ] in
    let wrong : d ≡ Some is = sym reads ∙ told in cc

-- of nothing that is kept, nothing is said
pub none_known : (entries : ℕ → Option (List ℕ)) (known : List (Option EntryState)) (count : ℕ) → known ≡ replicate count None → AreKnown entries known
none_known entries known count is = λ number state told. absurd
    (nothing count number state (subst (λ (all : List (Option EntryState)). get_or all number None ≡ Some state) is told))

-- what is no clone of an entry's state is one of nothing
pub only_none : (IsClone : Option EntryState → Type 0) → ((state : EntryState) → IsClone (Some state) → ⊥) →
    (kept : Option EntryState) → IsClone kept → kept ≡ None
only_none IsClone no_state None is = refl
only_none IsClone no_state (Some state) is = absurd (no_state state is)

module _ (entries : ℕ → Option (List ℕ)) (known : List (Option EntryState)) (number : ℕ) (is : EntryState)
    (within : number < length known) (each : AreKnown entries known)
    (so : IsEntryState entries number is) where
  -- what is newly kept is what its entry is, so all still are
  pub still_known : AreKnown entries (set known number (Some is))
  still_known = λ other state told. elim (cases_eq other number) [
    | inl same ↦
        let kept : get_or (set known number (Some is)) other None ≡ Some is = get_or-set_at known number other (Some is) None same within in
        let one : is ≡ state = cc (kept, told) in
        subst (λ (n : ℕ). IsEntryState entries n state) (sym same) (subst (λ (s : EntryState). IsEntryState entries number s) one so)
    | inr differs ↦ each other state (sym (get_or-set_other known number other (Some is) None differs) ∙ told)
  ]
