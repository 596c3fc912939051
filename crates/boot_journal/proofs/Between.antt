-- The variables between two moves of an update, and of the settlings after it, are those after the first of its changes, also without
-- BootNext once the machine was started. A property of variables that due changes keep holds throughout (`Keeps`), and this is one.
use Rattle.std.proofs.Common.{◌≡◌, ℕ, zero, suc, ◌||◌, Bool, true, false, cond, List, [], ◌∷◌, map, take, Option, Some, None, refl, sym, ap, subst, ◌∙◌}
use Rattle.std.specs.List.{AllByRecursion, IsDistinct}
use Rattle.std.specs.FinMap.{get, remove, get-remove}
use Rattle.std.proofs.lemmas.List.{take-map}
use Rattle.std.proofs.lemmas.Cmp.{nat_list_cmp_total, eq_by_cmp_equiv}
use Rattle.uefi_vars.specs.Name.{next_text}
use Rattle.uefi_vars.specs.Vars.{Variables}
use Rattle.uefi_vars.specs.NameChanges.{after_each}
use Rattle.uefi_vars.specs.BootChange.{ChangeParts, same_name, new_data}
use Rattle.boot_journal.specs.Changes.{made, taken_back, spent, TellWhatIsThere, IsFront, is_of_next}
use Rattle.boot_journal.specs.Journal.{JournalParts, PendingParts, Makes, TakesBack, begun, due, due_by, turned, turned_by}
use Rattle.boot_journal.specs.Store.{Store}
use Rattle.boot_journal.specs.Moves.{cut_carrying, cut_settling, cut_undoing, cut_failing}
use Rattle.boot_journal.specs.Events.{Event, Settles, Undoes, Updates, Fails, Starts, Firmware, World, happens, all_happen, AreSettlings}
use Rattle.boot_journal.specs.Events.{AreSettlingsOrStarts, without_next}
use Rattle.boot_journal.proofs.Single.{Single, same_variables}
use Rattle.boot_journal.proofs.Fronts.{IsNotIn, AreApart, IsFrontOf, again_front, back_fronts}
use Rattle.boot_journal.proofs.Parts.{new-back, none_again, start_due}
use Rattle.boot_journal.proofs.Making.{own_due}
use Rattle.boot_journal.proofs.Throughout.{Holds, settling_holds, carrying_holds, undoing_holds}

-- ---- what a property of variables needs to hold throughout

-- the journal's changes are these, begun under this identity
abbrev pub IsOf : List ChangeParts → List ℕ → Option PendingParts → Type 0
IsOf cs began None = Unit {0}
IsOf cs began (Some (Makes former changes boot)) = (changes ≡ cs) × (boot ≡ began)
IsOf cs began (Some (TakesBack changes boot)) = (changes ≡ cs) × (boot ≡ began)

-- this holds of the variables, and what is to be done is of these changes
abbrev pub Keeps : List ChangeParts → List ℕ → (Variables → Type 0) → Store → Type 0
Keeps cs began P s = Holds P (IsOf cs began) s

turned_is : (cs : List ChangeParts) (began : List ℕ) (state : Option (List ℕ)) (p : Option PendingParts) → IsOf cs began p
    → IsOf cs began (turned_by state p).pending
turned_is cs began state None is = is
turned_is cs began state (Some (Makes former changes boot)) is = is
turned_is cs began state (Some (TakesBack changes boot)) is = is

module _ (cs : List ChangeParts) (began boot : List ℕ) (P : Variables → Type 0)
    (onwards : (m : Variables) (j : ℕ) → P m → P (made (take j (due_by boot began cs)) m))
    (backwards : (m : Variables) (j : ℕ) → P m → P (made (take j (due_by boot began (taken_back cs))) m)) where
  due_keeps : (p : Option PendingParts) → IsOf cs began p → (m : Variables) (j : ℕ) → P m → P (made (take j (due boot p)) m)
  due_keeps None is m j here = none j here
    where
      none : (j : ℕ) → P m → P (made (take j []) m)
      none zero here = here
      none (suc j) here = here
  due_keeps (Some (Makes former changes boot')) is m j here =
      subst (λ (l : List ChangeParts). P (made (take j l) m)) (sym (λ i. due_by boot (is.1 i) (is.0 i))) (onwards m j here)
  due_keeps (Some (TakesBack changes boot')) is m j here =
      subst (λ (l : List ChangeParts). P (made (take j l) m)) (sym (λ i. due_by boot (is.1 i) (taken_back (is.0 i)))) (backwards m j here)

  pub settling_keeps : (k : ℕ) (s : Store) → Keeps cs began P s → Keeps cs began P (cut_settling boot k s)
  settling_keeps k s keeps = settling_holds boot P (IsOf cs began) tt (turned_is cs began) due_keeps k s keeps

  pub carrying_keeps : (journal : JournalParts) (k : ℕ) (s : Store) → IsOf cs began journal.pending → Keeps cs began P s
      → Keeps cs began P (cut_carrying boot journal k s)
  carrying_keeps journal k s is keeps = carrying_holds boot P (IsOf cs began) tt (turned_is cs began) due_keeps journal k s is keeps

  pub undoing_keeps : (k undone : ℕ) (s : Store) → Keeps cs began P s → Keeps cs began P (cut_undoing boot k undone s)
  undoing_keeps k undone s keeps = undoing_holds boot P (IsOf cs began) tt (turned_is cs began) due_keeps k undone s keeps

  pub settlings_keep : (w : World) (events : List Event) → w.boot ≡ boot → AreSettlings events → Keeps cs began P w.store
      → Keeps cs began P (all_happen w events).store
  settlings_keep w [] is settle keeps = keeps
  settlings_keep w (Settles k ∷ events) is settle keeps =
      settlings_keep (happens w (Settles k)) events is settle
      (subst (λ (b : List ℕ). Keeps cs began P (cut_settling b k w.store)) (sym is) (settling_keeps k w.store keeps))
  settlings_keep w (Undoes k undone ∷ events) is settle keeps =
      settlings_keep (happens w (Undoes k undone)) events is settle
      (subst (λ (b : List ℕ). Keeps cs began P (cut_undoing b k undone w.store)) (sym is) (undoing_keeps k undone w.store keeps))
  settlings_keep w (Updates to k ∷ events) is settle keeps = elim settle [ ]
  settlings_keep w (Fails to k undone ∷ events) is settle keeps = elim settle [ ]
  settlings_keep w (Starts boot' deletes ∷ events) is settle keeps = elim settle [ ]
  settlings_keep w (Firmware changes ∷ events) is settle keeps = elim settle [ ]

-- ---- fronts

remove_twice : (m : Variables) → remove (remove m next_text) next_text ≡ remove m next_text
remove_twice m = same_variables _ _ (λ q.
    get-remove nat_list_cmp_total (remove m next_text) next_text q
    ∙ ap (cond (same_name q next_text) None) (get-remove nat_list_cmp_total m next_text q)
    ∙ none_again (same_name q next_text) (get m q)
    ∙ sym (get-remove nat_list_cmp_total m next_text q))

front_of : (cs : List ChangeParts) (m n : Variables) → IsFront cs m n → IsFrontOf (new_data cs) m n
front_of cs m n front = (front.0, front.1 ∙ ap (after_each m) (sym (take-map _ front.0 cs)))

front_from : (cs : List ChangeParts) (m n : Variables) → IsFrontOf (new_data cs) m n → IsFront cs m n
front_from cs m n front = (front.0, front.1 ∙ ap (after_each m) (take-map _ front.0 cs))

not_in : (name : List ℕ) (cs : List ChangeParts) → AllByRecursion (λ y. same_name name y ≡ false) (map (λ (c : ChangeParts). c.name) cs)
    → IsNotIn name (new_data cs)
not_in name [] out = tt
not_in name (c ∷ cs) out = ((eq_by_cmp_equiv nat_list_cmp_total).symm c.name name ∙ out.0, not_in name cs out.1)

pub apart : (cs : List ChangeParts) → IsDistinct same_name (map (λ (c : ChangeParts). c.name) cs) → AreApart (new_data cs)
unfolding IsDistinct
apart [] distinct = tt
apart (c ∷ cs) distinct = (not_in c.name cs distinct.0, apart cs distinct.1)

module _ (cs : List ChangeParts) (m : Variables) (distinct : AreApart (new_data cs)) (told : TellWhatIsThere m cs) where
  made_front : (n : Variables) (j : ℕ) → IsFront cs m n → IsFront cs m (made (take j cs) n)
  made_front n j front =
      front_from cs m (made (take j cs) n)
      (subst (IsFrontOf (new_data cs) m) (ap (after_each n) (take-map _ j cs)) (again_front (new_data cs) m n j distinct (front_of cs m n front)))

  back_front : (n : Variables) (j : ℕ) → IsFront cs m n → IsFront cs m (made (take j (taken_back cs)) n)
  back_front n j front =
      front_from cs m (made (take j (taken_back cs)) n)
      (subst (IsFrontOf (new_data cs) m)
      (ap (λ (l : List Single). after_each n (take j l)) (sym (new-back m cs told)) ∙ ap (after_each n) (take-map _ j (taken_back cs)))
      (back_fronts (new_data cs) m n j distinct (front_of cs m n front)))

  -- under the identity under which they were begun
  pub own_onwards : (boot : List ℕ) (n : Variables) (j : ℕ) → IsFront cs m n → IsFront cs m (made (take j (due_by boot boot cs)) n)
  own_onwards boot n j front = subst (λ (l : List ChangeParts). IsFront cs m (made (take j l) n)) (sym (own_due boot cs)) (made_front n j front)

  pub own_backwards : (boot : List ℕ) (n : Variables) (j : ℕ) → IsFront cs m n → IsFront cs m (made (take j (due_by boot boot (taken_back cs))) n)
  own_backwards boot n j front =
      subst (λ (l : List ChangeParts). IsFront cs m (made (take j l) n)) (sym (own_due boot (taken_back cs))) (back_front n j front)

  -- and under another: BootNext may be gone
  abbrev pub IsFrontOrWithoutNext : Variables → Type 0
  IsFrontOrWithoutNext n = (front : Variables) × (gone : Bool) × IsFront cs m front × (n ≡ without_next gone front)

  spent_makes : (ds : List ChangeParts) (front : Variables) (gone : Bool) (j : ℕ) →
      made (take j (map spent ds)) (without_next gone front) ≡ without_next (gone || is_of_next (take j ds)) (made (take j ds) front)
  spent_makes ds front gone j =
      ap (λ (l : List ChangeParts). made l (without_next gone front)) (take-map spent j ds) ∙ start_due true (take j ds) gone front

  pub other_onwards : (began boot : List ℕ) → same_name boot began ≡ false → (n : Variables) (j : ℕ) → IsFrontOrWithoutNext n
      → IsFrontOrWithoutNext (made (take j (due_by boot began cs)) n)
  other_onwards began boot other n j is = (
    made (take j cs) is.0,
    is.1 || is_of_next (take j cs),
    made_front is.0 j is.2,
    (λ i. made (take j (cond (other i) cs (map spent cs))) (is.3 i)) ∙ spent_makes cs is.0 is.1 j,
  )

  pub other_backwards : (began boot : List ℕ) → same_name boot began ≡ false → (n : Variables) (j : ℕ) → IsFrontOrWithoutNext n
      → IsFrontOrWithoutNext (made (take j (due_by boot began (taken_back cs))) n)
  other_backwards began boot other n j is = (
    made (take j (taken_back cs)) is.0,
    is.1 || is_of_next (take j (taken_back cs)),
    back_front is.0 j is.2,
    (λ i. made (take j (cond (other i) (taken_back cs) (map spent (taken_back cs)))) (is.3 i)) ∙ spent_makes (taken_back cs) is.0 is.1 j,
  )

  -- ---- an update, and what comes after it

  pub updating_keeps : (boot : List ℕ) (former state : Option (List ℕ)) (s : Store) (k undone : ℕ) → Keeps cs boot (IsFront cs m) s →
      Keeps cs boot (IsFront cs m) (cut_failing boot (begun state former cs boot) k undone s)
  updating_keeps boot former state s k undone keeps =
      carrying_keeps cs boot boot (IsFront cs m) (own_onwards boot) (own_backwards boot) (turned (begun state former cs boot)) undone
      (cut_carrying boot (begun state former cs boot) k s) (refl, refl)
      (carrying_keeps cs boot boot (IsFront cs m) (own_onwards boot) (own_backwards boot) (begun state former cs boot) k s (refl, refl) keeps)

  -- settlings and starts, once the machine was started
  pub starts_keep : (began : List ℕ) (w : World) (events : List Event) → same_name w.boot began ≡ false → AreSettlingsOrStarts began events →
      Keeps cs began IsFrontOrWithoutNext w.store → Keeps cs began IsFrontOrWithoutNext (all_happen w events).store
  starts_keep began w [] other settle keeps = keeps
  starts_keep began w (Settles k ∷ events) other settle keeps =
      starts_keep began (happens w (Settles k)) events other settle
      (settling_keeps cs began w.boot IsFrontOrWithoutNext (other_onwards began w.boot other) (other_backwards began w.boot other) k w.store keeps)
  starts_keep began w (Undoes k undone ∷ events) other settle keeps =
      starts_keep began (happens w (Undoes k undone)) events other settle
      (undoing_keeps cs began w.boot IsFrontOrWithoutNext (other_onwards began w.boot other) (other_backwards began w.boot other) k undone w.store keeps)
  starts_keep began w (Starts boot deletes ∷ events) other settle keeps =
      starts_keep began (happens w (Starts boot deletes)) events settle.0 settle.1 (record {
        variables = (
          keeps.variables.0,
          deletes || keeps.variables.1,
          keeps.variables.2,
          ap (without_next deletes) keeps.variables.3
              ∙ twice deletes keeps.variables.1 keeps.variables.0,
        );
        journal = keeps.journal;
      })
    where
      twice : (a b : Bool) (front : Variables) → without_next a (without_next b front) ≡ without_next (a || b) front
      twice true true front = remove_twice front
      twice true false front = refl
      twice false b front = refl
  starts_keep began w (Updates to k ∷ events) other settle keeps = elim settle [ ]
  starts_keep began w (Fails to k undone ∷ events) other settle keeps = elim settle [ ]
  starts_keep began w (Firmware changes ∷ events) other settle keeps = elim settle [ ]
