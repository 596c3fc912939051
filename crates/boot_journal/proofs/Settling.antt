-- Settlings, whole or cut off, whether they fail or not: whatever is cut off when, what is left stands for what was there, or for
-- what that falls back to (`settling_either`). The calls that settle move so (`going_is_settling`).
use Rattle.std.proofs.Common.{◌≡◌, inl, inr, ⊎_elim, ℕ, zero, suc, Bool, true, false, if◌then◌else◌, List, take, length, Option, Some, None, refl, sym, ap}
use Rattle.std.proofs.Common.{subst, ◌∙◌}
use Rattle.std.proofs.Math.Seq.{take-length}
use Rattle.uefi_vars.specs.Vars.{Variables}
use Rattle.uefi_vars.specs.BootChange.{ChangeParts}
use Rattle.boot_journal.specs.Changes.{made}
use Rattle.boot_journal.specs.Journal.{JournalParts, PendingParts, Makes, TakesBack, idle, due, turned, turned_by, is_making}
use Rattle.boot_journal.specs.Store.{Store, with_made, with_journal, with_state, IsIdle, stands_for, falls_back_to, IsSettledOrTakenBack}
use Rattle.boot_journal.specs.Moves.{cut_making, cut_carrying, cut_carrying_by, cut_settling, cut_settling_by, cut_undoing, cut_undoing_by, IsMaking}
use Rattle.boot_journal.specs.Moves.{IsCarrying, IsSettling}
use Rattle.boot_journal.specs.declared.work.Work.{Work}
use Rattle.boot_journal.specs.Working.{IsWork, cut_going_on, IsGoingOn, IsTakenBack}
use Rattle.boot_journal.proofs.Making.{making_is, settling_stands, carrying_after, falls_back_after}

-- not turned yet, it is a settling
unturned_by : (boot : List ℕ) (k : ℕ) (s : Store) (p : Option PendingParts) → p ≡ s.journal.pending → cut_undoing_by p boot k zero s ≡ cut_settling boot k s
unturned_by boot k s None is = ap (λ (p : Option PendingParts). cut_settling_by p boot k s) is
unturned_by boot k s (Some (Makes former changes began)) is = refl
unturned_by boot k s (Some (TakesBack changes began)) is = refl

pub unturned : (boot : List ℕ) (k : ℕ) (s : Store) → cut_undoing boot k zero s ≡ cut_settling boot k s
unturned boot k s = unturned_by boot k s s.journal.pending refl

-- the journal that takes back isn't making
pub turned_not_making : (state : Option (List ℕ)) (p : Option PendingParts) → is_making (turned_by state p).pending ≡ false
turned_not_making state None = refl
turned_not_making state (Some (Makes former changes began)) = refl
turned_not_making state (Some (TakesBack changes began)) = refl

pub carried_not_making : (boot : List ℕ) (journal : JournalParts) (k : ℕ) (s : Store) → is_making journal.pending ≡ false
    → is_making (cut_carrying boot journal (suc k) s).journal.pending ≡ false
carried_not_making boot journal k s not = ⊎_elim
    (λ amid. ap (λ (c : Store). is_making c.journal.pending) amid ∙ not)
    (λ done. ap (λ (c : Store). is_making c.journal.pending) done)
    (making_is k (due boot journal.pending) (idle journal.state) (with_journal journal s))

-- variables of a cut settling
pub settling_variables_by : (boot : List ℕ) (k : ℕ) (s : Store) (p : Option PendingParts) → p ≡ s.journal.pending →
    (j : ℕ) × ((cut_settling_by p boot k s).variables ≡ made (take j (due boot s.journal.pending)) s.variables)
settling_variables_by boot k s None is = (0, refl)
settling_variables_by boot k s (Some pending) is = ⊎_elim
    (λ amid. (k, (λ i. (amid i).variables) ∙ ap (λ (p : Option PendingParts). made (take k (due boot p)) s.variables) is))
    (λ done. (
      length (due boot s.journal.pending),
      (λ i. (done i).variables) ∙ ap (λ (p : Option PendingParts). made (due boot p) s.variables) is
          ∙ ap (λ (l : List ChangeParts). made l s.variables) (sym (take-length (due boot s.journal.pending))),
    ))
    (making_is k (due boot (Some pending)) (idle s.journal.state) s)

pub undone_stands : (boot : List ℕ) (k back : ℕ) (s : Store) → is_making s.journal.pending ≡ true →
    stands_for boot (cut_carrying boot (turned s.journal) (suc back) (cut_settling boot k s)) ≡ falls_back_to boot s
undone_stands boot k back s making =
    let some = settling_variables_by boot k s s.journal.pending refl in
    carrying_after boot (turned s.journal) back (cut_settling boot k s)
    ∙ ap (λ (m : Variables). with_state (turned s.journal).state (made (due boot (turned s.journal).pending) m)) some.1
    ∙ falls_back_after boot some.0 s making

-- ---- what a settling leaves stands for what was there, or for what that falls back to

either_by : (boot : List ℕ) (k undone : ℕ) (s : Store) (p : Option PendingParts) → p ≡ s.journal.pending
    → IsSettledOrTakenBack boot s (cut_undoing_by p boot k undone s)
either_by boot k undone s None is = inl refl
either_by boot k zero s (Some (Makes former changes began)) is = inl (settling_stands boot k s)
either_by boot k (suc undone) s (Some (Makes former changes began)) is = inr (undone_stands boot k undone s (sym (ap is_making is)))
either_by boot k undone s (Some (TakesBack changes began)) is = inl (settling_stands boot k s)

pub settling_either : (boot : List ℕ) (s c : Store) → IsSettling boot s c → IsSettledOrTakenBack boot s c
settling_either boot s c at = subst (IsSettledOrTakenBack boot s) (sym at.2) (either_by boot at.0 at.1 s s.journal.pending refl)

-- ---- the calls

same_cond : {A : Type 0} (b : Bool) (x : A) → (if b then x else x) ≡ x
same_cond true x = refl
same_cond false x = refl

-- the changes, as a function that makes them has them, and where a cut comes as they are made
pub making_going : {due : List ChangeParts} (work back : Work) (s c : Store) → due ≡ work.due.items → IsMaking due work.last s c → IsGoingOn work back s c
making_going work back s c are making = (
  making.0,
  0,
  making.1 ∙ ap (λ (l : List ChangeParts). cut_making making.0 l work.last s) are
      ∙ sym (same_cond (is_making work.journal.pending) (cut_making making.0 work.due.items work.last s)),
)

-- or as they are taken back
pub carrying_going : {due : List ChangeParts} (work back : Work) (s mid c : Store) → is_making work.journal.pending ≡ true → due ≡ work.due.items
    → IsMaking due work.last s mid → IsCarrying back.journal back.due.items back.last mid c → IsGoingOn work back s c
carrying_going work back s mid c making are at carrying =
    let take_back = cut_carrying_by back.journal back.due.items back.last carrying.0 in
    let cut = cut_making at.0 work.due.items work.last s in (
      at.0,
      carrying.0,
      carrying.1 ∙ ap take_back (at.1 ∙ ap (λ (l : List ChangeParts). cut_making at.0 l work.last s) are)
          ∙ ap (λ b. if b then take_back cut else cut) (sym making),
    )

-- the work of a journal, and the work of the one by which it is taken back
pub record AreWork (boot : List ℕ) (s : Store) (work back : Work) : Type 0 where
  pub forward : IsWork boot s.journal work
  pub backward : IsWork boot (turned s.journal) back

-- where a cut comes in going on with what is to be done
abbrev going_on : Option PendingParts → List ℕ → ℕ → ℕ → Store → Store
going_on p boot k undone s =
    let cut = cut_making k (due boot p) (idle s.journal.state) s in if is_making p then cut_carrying boot (turned s.journal) undone cut else cut

work_goes_on : (boot : List ℕ) (work back : Work) (k undone : ℕ) (s : Store) → AreWork boot s work back
    → cut_going_on work back k undone s ≡ going_on s.journal.pending boot k undone s
work_goes_on boot work back k undone s are = λ i.
    let cut = cut_making k (are.forward.due_is i) (are.forward.last_is i) s in
    if is_making (are.forward.journal_is i).pending
    then cut_carrying_by (are.backward.journal_is i) (are.backward.due_is i) (are.backward.last_is i) undone cut else cut

going_settles : (boot : List ℕ) (k undone : ℕ) (s : Store) (p : Option PendingParts) → p ≡ s.journal.pending → (p ≡ None → ⊥)
    → going_on p boot k undone s ≡ cut_undoing_by p boot k undone s
going_settles boot k undone s None is some = absurd (some refl)
going_settles boot k undone s (Some (Makes former changes began)) is some =
    ap (λ (p : Option PendingParts). cut_carrying boot (turned s.journal) undone (cut_settling_by p boot k s)) is
going_settles boot k undone s (Some (TakesBack changes began)) is some = ap (λ (p : Option PendingParts). cut_settling_by p boot k s) is

pub going_is_settling : (boot : List ℕ) (work back : Work) (s c : Store) → AreWork boot s work back → (s.journal.pending ≡ None → ⊥)
    → IsGoingOn work back s c → IsSettling boot s c
going_is_settling boot work back s c are some at = (
  at.0,
  at.1,
  at.2 ∙ work_goes_on boot work back at.0 at.1 s are ∙ going_settles boot at.0 at.1 s s.journal.pending refl some,
)

-- what is taken back is what the store falls back to
pub taken_back_stands : (boot : List ℕ) (work back : Work) (s c : Store) → AreWork boot s work back → IsTakenBack work back s c →
    IsIdle c × (stands_for boot c ≡ falls_back_to boot s)
taken_back_stands boot work back s c are at =
    let making : is_making s.journal.pending ≡ true = sym (ap (λ (j : JournalParts). is_making j.pending) are.forward.journal_is) ∙ at.0 in
    let is : c
    ≡ with_journal (idle (turned s.journal).state)
    (with_made (due boot (turned s.journal).pending) (cut_making at.1 (due boot s.journal.pending) (idle s.journal.state) s)) =
    at.2
    ∙ (λ i. with_journal (are.backward.last_is i)
    (with_made (are.backward.due_is i) (cut_making at.1 (are.forward.due_is i) (are.forward.last_is i) s))) in
    let some = making_variables at.1 (due boot s.journal.pending) (idle s.journal.state) s in (
      ap (λ (c : Store). c.journal.pending) is,
      ap (stands_for boot) is
          ∙ ap (λ (m : Variables). with_state (turned s.journal).state (made (due boot (turned s.journal).pending) m)) some.1
          ∙ falls_back_after boot some.0 s making,
    )
  where
    making_variables : (k : ℕ) (cs : List ChangeParts) (last : JournalParts) (s : Store)
        → (j : ℕ) × ((cut_making k cs last s).variables ≡ made (take j cs) s.variables)
    making_variables k cs last s = ⊎_elim
        (λ amid. (k, λ i. (amid i).variables))
        (λ done. (length cs, (λ i. (done i).variables) ∙ ap (λ (l : List ChangeParts). made l s.variables) (sym (take-length cs))))
        (making_is k cs last s)

-- no move
still_by : (boot : List ℕ) (s : Store) (p : Option PendingParts) → p ≡ s.journal.pending → s ≡ cut_undoing_by p boot 0 0 s
still_by boot s None is = refl
still_by boot s (Some (Makes former changes began)) is = sym (ap (λ (p : Option PendingParts). cut_settling_by p boot 0 s) (sym is))
still_by boot s (Some (TakesBack changes began)) is = sym (ap (λ (p : Option PendingParts). cut_settling_by p boot 0 s) (sym is))

pub still_settling : (boot : List ℕ) (s : Store) → IsSettling boot s s
still_settling boot s = (0, 0, still_by boot s s.journal.pending refl)
