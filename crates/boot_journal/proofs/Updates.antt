-- Updates, whole or cut off, whether they fail or not: whatever is cut off when, what is left stands for what was there, or for what the
-- update leads to (`updating_either`). The calls that update move so (`undertaking_is_updating`).
use Rattle.std.proofs.Common.{◌≡◌, inl, inr, ⊎_elim, ℕ, zero, suc, true, false, List, [], ◌∷◌, take, Option, refl, sym, ap, subst, ◌∙◌, if◌then◌else◌, ◌⊎◌}
use Rattle.std.specs.List.{AllByRecursion}
use Rattle.std.specs.FinMap.{get}
use Rattle.std.proofs.lemmas.Bool.{true≢false}
use Rattle.uefi_vars.specs.Vars.{Variables}
use Rattle.uefi_vars.specs.BootChange.{ChangeParts, is_boot_name, changes_from, IsNeeded}
use Rattle.uefi_vars.specs.Name.{keep_text}
use Rattle.boot_journal.specs.Changes.{made, taken_back, TellWhatIsThere}
use Rattle.boot_journal.specs.Journal.{JournalParts, idle, begun, due, due_by, turned, is_making}
use Rattle.boot_journal.specs.Store.{Store, with_made, with_journal, with_state, seen, stands_for, falls_back_to, brought, journal_to, updated, IsIdle}
use Rattle.boot_journal.specs.Store.{IsBeforeOrAfter}
use Rattle.boot_journal.specs.Moves.{cut_making, cut_carrying, cut_carrying_by, IsCarrying, IsUpdating}
use Rattle.boot_journal.specs.Events.{updating, failing}
use Rattle.boot_journal.specs.declared.work.Work.{Work}
use Rattle.boot_journal.specs.Working.{IsWork, IsGoingOn, IsTakenBack, IsUndertaking, IsGivenUp}
use Rattle.boot_journal.proofs.Moves.{carrying_begun}
use Rattle.boot_journal.proofs.Making.{making_is, idle_stands, carrying_after, own_due, carrying_variables, back_again, beside_state, not_keep, state_of_seen}
use Rattle.boot_journal.proofs.Making.{state_over}

-- the work of an update, and the work of taking it back
pub record AreWorkTo (boot : List ℕ) (to : Variables) (s : Store) (work back : Work) : Type 0 where
  pub forward : IsWork boot (journal_to boot s to) work
  pub backward : IsWork boot (turned (journal_to boot s to)) back

pub journal_is : (boot : List ℕ) (to : Variables) (s : Store) (from : Variables) (journal : JournalParts) → from ≡ seen s →
    journal ≡ begun (get to keep_text) (get from keep_text) (changes_from from to) boot → journal ≡ journal_to boot s to
journal_is boot to s from journal reads is =
    is ∙ ap (λ (m : Variables). begun (get to keep_text) (get m keep_text) (changes_from m to) boot) reads
    ∙ ap (λ (x : Option (List ℕ)). begun (get to keep_text) x (changes_from (seen s) to) boot) (state_of_seen s.journal.state s.variables)

pub undertaking_is_updating : (boot : List ℕ) (to : Variables) (s c : Store) (work back : Work) → AreWorkTo boot to s work back → IsUndertaking work back s c
    → IsUpdating boot to s c
undertaking_is_updating boot to s c work back are at = (
  at.0,
  at.1,
  at.2
      ∙ (λ i. cut_carrying_by (are.backward.journal_is i) (are.backward.due_is i) (are.backward.last_is i) at.1
      (cut_carrying_by (are.forward.journal_is i) (are.forward.due_is i) (are.forward.last_is i) at.0 s)),
)

-- the journal is replaced, or isn't
pub begun_undertakes : (work back : Work) (s c : Store) → (c ≡ s) ⊎ (c ≡ with_journal work.journal s) → IsUndertaking work back s c
begun_undertakes work back s c begun = ⊎_elim (λ same. (0, 0, same)) (λ replaced. (1, 0, replaced)) begun

-- and is taken back then
pub taking_undertakes : (work back : Work) (s mid c : Store) → (mid ≡ s) ⊎ (mid ≡ with_journal work.journal s)
    → IsCarrying back.journal back.due.items back.last mid c → IsUndertaking work back s c
taking_undertakes work back s mid c begun taking =
    let at = carrying_begun work.journal work.due.items work.last s mid begun in
    (at.0, taking.0, taking.1 ∙ ap (cut_carrying_by back.journal back.due.items back.last taking.0) at.1)

-- what goes on after the journal was replaced
pub going_undertakes : (work back : Work) (s mid c : Store)
    → is_making work.journal.pending ≡ true → mid ≡ with_journal work.journal s → IsGoingOn work back mid c
    → IsUndertaking work back s c
going_undertakes work back s mid c making begun at = (
  suc at.0,
  at.1,
  at.2
      ∙ ap (λ b. let cut = cut_making at.0 work.due.items work.last mid in
      if b then cut_carrying_by back.journal back.due.items back.last at.1 cut else cut) making
      ∙ ap (λ (t : Store). cut_carrying_by back.journal back.due.items back.last at.1 (cut_making at.0 work.due.items work.last t)) begun,
)

pub taken_gives_up : (work back : Work) (s mid c : Store) → mid ≡ with_journal work.journal s → IsTakenBack work back mid c → (c ≡ s)
    ⊎ IsGivenUp work back s c
taken_gives_up work back s mid c begun at =
    inr (suc at.1, at.2 ∙ ap (λ (t : Store). with_journal back.last (with_made back.due.items (cut_making at.1 work.due.items work.last t))) begun)

module _ (needed : (from to : Variables) → AllByRecursion (IsNeeded from to) (changes_from from to)) (no_keep : is_boot_name keep_text ≡ false) where
  tells : (from to : Variables) (state : Option (List ℕ)) (m : Variables) (cs : List ChangeParts)
      → from ≡ with_state state m → AllByRecursion (IsNeeded from to) cs → TellWhatIsThere m cs
  tells from to state m [] is all = tt
  tells from to state m (c ∷ cs) is all = (
    all.0.before ∙ ap (λ v. get v c.name) is ∙ beside_state state m c.name (not_keep no_keep c.name all.0.boot),
    tells from to state m cs is all.1,
  )

  pub tells_there : (s : Store) (to : Variables) → TellWhatIsThere s.variables (changes_from (seen s) to)
  tells_there s to = tells (seen s) to s.journal.state s.variables (changes_from (seen s) to) refl (needed (seen s) to)

  -- an update that has begun stands for what it leads to
  pub updating_stands : (boot : List ℕ) (to : Variables) (k : ℕ) (s : Store) → stands_for boot (updating boot to (suc k) s) ≡ brought (seen s) to
  updating_stands boot to k s =
      carrying_after boot (journal_to boot s to) k s
      ∙ ap (λ (l : List ChangeParts). with_state (get to keep_text) (made l s.variables)) (own_due boot (changes_from (seen s) to))
      ∙ sym (state_over (get to keep_text) s.journal.state (changes_from (seen s) to) s.variables)

  -- and falls back to what was read
  pub updating_falls_back : (boot : List ℕ) (to : Variables) (k : ℕ) (s : Store) → is_making (updating boot to (suc k) s).journal.pending ≡ true
      → falls_back_to boot (updating boot to (suc k) s) ≡ seen s
  updating_falls_back boot to k s making =
      let cs = changes_from (seen s) to in
      ⊎_elim
      (λ amid. ap (falls_back_to boot) amid
      ∙ ap (λ (l : List ChangeParts). with_state s.journal.state (made l (made (take k (due_by boot boot cs)) s.variables))) (own_due boot (taken_back cs))
      ∙ ap (λ (l : List ChangeParts). with_state s.journal.state (made (taken_back cs) (made (take k l) s.variables))) (own_due boot cs)
      ∙ ap (with_state s.journal.state) (back_again cs s.variables k (tells_there s to)))
      (λ done. absurd (true≢false (sym making ∙ ap (λ (c : Store). is_making c.journal.pending) done)))
      (making_is k (due boot (journal_to boot s to).pending) (idle (get to keep_text)) (with_journal (journal_to boot s to) s))

  -- an update that is being taken back stands for what was read
  pub failing_stands : (boot : List ℕ) (to : Variables) (k back : ℕ) (s : Store) → stands_for boot (failing boot to k (suc back) s) ≡ seen s
  failing_stands boot to k back s =
      let cs = changes_from (seen s) to in
      let some = carrying_variables boot (journal_to boot s to) k s in
      carrying_after boot (turned (journal_to boot s to)) back (cut_carrying boot (journal_to boot s to) k s)
      ∙ ap (λ (m : Variables). with_state s.journal.state (made (due_by boot boot (taken_back cs)) m)) some.1
      ∙ ap (λ (l : List ChangeParts). with_state s.journal.state (made l (made (take some.0 (due_by boot boot cs)) s.variables)))
      (own_due boot (taken_back cs))
      ∙ ap (λ (l : List ChangeParts). with_state s.journal.state (made (taken_back cs) (made (take some.0 l) s.variables))) (own_due boot cs)
      ∙ ap (with_state s.journal.state) (back_again cs s.variables some.0 (tells_there s to))

  -- ---- what an update leaves stands for what was there before it, or for what it leads to

  cut_either : (boot : List ℕ) (to : Variables) (s : Store) (k undone : ℕ) → IsIdle s → IsBeforeOrAfter boot to s (failing boot to k undone s)
  cut_either boot to s zero zero none = inl refl
  cut_either boot to s (suc k) zero none = inr (updating_stands boot to k s ∙ ap (λ (m : Variables). brought m to) (sym (idle_stands boot s none)))
  cut_either boot to s zero (suc undone) none = inl (failing_stands boot to zero undone s ∙ sym (idle_stands boot s none))
  cut_either boot to s (suc k) (suc undone) none = inl (failing_stands boot to (suc k) undone s ∙ sym (idle_stands boot s none))

  pub updating_either : (boot : List ℕ) (to : Variables) (s c : Store) → IsIdle s → IsUpdating boot to s c → IsBeforeOrAfter boot to s c
  updating_either boot to s c none at = subst (IsBeforeOrAfter boot to s) (sym at.2) (cut_either boot to s at.0 at.1 none)

  -- ---- the calls

  pub given_up_same : (boot : List ℕ) (to : Variables) (s c : Store) (work back : Work) → IsIdle s → AreWorkTo boot to s work back → IsGivenUp work back s c
      → c ≡ s
  given_up_same boot to s c work back none are at =
      let J = journal_to boot s to in
      let cs = changes_from (seen s) to in
      let is : c ≡ with_journal (idle s.journal.state) (with_made (due_by boot boot (taken_back cs)) (cut_carrying boot J at.0 s)) =
      at.1
      ∙ (λ i. with_journal (are.backward.last_is i)
      (with_made (are.backward.due_is i) (cut_carrying_by (are.forward.journal_is i) (are.forward.due_is i) (are.forward.last_is i) at.0 s))) in
      let some = carrying_variables boot J at.0 s in
      let same : made (due_by boot boot (taken_back cs)) (cut_carrying boot J at.0 s).variables ≡ s.variables =
      ap (made (due_by boot boot (taken_back cs))) some.1
      ∙ ap (λ (l : List ChangeParts). made l (made (take some.0 (due_by boot boot cs)) s.variables)) (own_due boot (taken_back cs))
      ∙ ap (λ (l : List ChangeParts). made (taken_back cs) (made (take some.0 l) s.variables)) (own_due boot cs)
      ∙ back_again cs s.variables some.0 (tells_there s to) in
      is ∙ (λ i. record { variables = same i; journal = record { state = s.journal.state; pending = sym none i } })

  pub undertaken_is : (boot : List ℕ) (to : Variables) (s c : Store) (work back : Work) → AreWorkTo boot to s work back →
      c ≡ with_journal work.last (with_made work.due.items s) → c ≡ updated s to
  undertaken_is boot to s c work back are is =
      is ∙ (λ i. with_journal (are.forward.last_is i) (with_made (are.forward.due_is i) s))
      ∙ ap (λ (l : List ChangeParts). with_journal (idle (get to keep_text)) (with_made l s)) (own_due boot (changes_from (seen s) to))
