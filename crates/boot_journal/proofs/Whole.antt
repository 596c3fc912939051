-- Whatever is cut off when, a machine stands for the whole turns that happened: by induction over the events, with an account of these
-- turns and of those that it would fall back to (`Fits`).
use Rattle.std.proofs.Common.{◌≡◌, ⊎_elim, ℕ, zero, suc, ◌||◌, ◌&&◌, if◌then◌else◌, Bool, true, false, cond, List, [], ◌∷◌, map, Option, Some, None, refl}
use Rattle.std.proofs.Common.{sym, ap, subst, ◌∙◌}
use Rattle.std.specs.List.{AllByRecursion}
use Rattle.std.specs.FinMap.{get}
use Rattle.std.specs.Cmp.{Equal-is}
use Rattle.std.proofs.lemmas.Bool.{true≢false, or_right}
use Rattle.uefi_vars.specs.Name.{next_text, keep_text}
use Rattle.uefi_vars.specs.Vars.{Variables}
use Rattle.uefi_vars.specs.NameChanges.{after_each}
use Rattle.uefi_vars.specs.BootChange.{ChangeParts, same_name, new_data, is_boot_name, changes_from, IsNeeded}
use Rattle.boot_journal.specs.Changes.{made, taken_back, spent, is_of_next}
use Rattle.boot_journal.specs.Journal.{JournalParts, PendingParts, Makes, TakesBack, idle, due, due_by, turned, turned_by, is_making, changes_of}
use Rattle.boot_journal.specs.Journal.{BeganUnderAnother}
use Rattle.boot_journal.specs.Store.{Store, with_journal, with_state, seen, stands_for, falls_back_to, brought, journal_to}
use Rattle.boot_journal.specs.Moves.{cut_making, cut_carrying, cut_settling, cut_settling_by, cut_undoing, cut_undoing_by, settled}
use Rattle.boot_journal.specs.Events.{Event, Settles, Undoes, Updates, Fails, Starts, Firmware, World, world, happens, all_happen, without_next}
use Rattle.boot_journal.specs.Events.{with_variables, updating, failing}
use Rattle.boot_journal.specs.Turns.{Brings, Meddles, that_stay, after_turn, after_turns, Account, account, accounts, happened, is_known, IsBegunKnown}
use Rattle.boot_journal.specs.Turns.{IsKnown, StartsAreNew}
use Rattle.boot_journal.proofs.Single.{Single, over, one_name, unlike, same_variables, get-each}
use Rattle.boot_journal.proofs.Firmware.{stays_over}
use Rattle.boot_journal.proofs.Boot.{get-without_next, not_deleted}
use Rattle.boot_journal.proofs.Parts.{start_due}
use Rattle.boot_journal.proofs.Own.{turned_changes, back_in}
use Rattle.boot_journal.proofs.Throughout.{turned_new, settling_holds, carrying_holds, undoing_holds}
use Rattle.boot_journal.proofs.Updates.{updating_stands, updating_falls_back, failing_stands}
use Rattle.boot_journal.proofs.Settling.{unturned, turned_not_making, carried_not_making, undone_stands}
use Rattle.boot_journal.proofs.Making.{same_self, making_is, settling_stands, settled_stands, settled_idle, idle_stands, falls_back_after, get-state}
use Rattle.boot_journal.proofs.Making.{beside_state, state_of_seen}

-- ---- settlings

-- what is still being made after a settling was being made before it, and taking it back leads to the same
record StillMakes (boot : List ℕ) (s c : Store) : Type 0 where
  before : is_making s.journal.pending ≡ true
  falls_back : falls_back_to boot c ≡ falls_back_to boot s

making_still : (boot : List ℕ) (k : ℕ) (s : Store) → is_making (cut_making k (due boot s.journal.pending) (idle s.journal.state) s).journal.pending ≡ true →
    StillMakes boot s (cut_making k (due boot s.journal.pending) (idle s.journal.state) s)
making_still boot k s making = ⊎_elim
    (λ amid. let before : is_making s.journal.pending ≡ true = sym (ap (λ (c : Store). is_making c.journal.pending) amid) ∙ making in record {
      before = before;
      falls_back = ap (falls_back_to boot) amid ∙ falls_back_after boot k s before;
    })
    (λ done. absurd (true≢false (sym making ∙ ap (λ (c : Store). is_making c.journal.pending) done)))
    (making_is k (due boot s.journal.pending) (idle s.journal.state) s)

settling_still_by : (boot : List ℕ) (k : ℕ) (s : Store) (p : Option PendingParts)
    → p ≡ s.journal.pending → is_making (cut_settling_by p boot k s).journal.pending ≡ true
    → StillMakes boot s (cut_settling_by p boot k s)
settling_still_by boot k s None is making = record { before = making; falls_back = refl }
settling_still_by boot k s (Some pending) is making =
    subst (λ (p : Option PendingParts). StillMakes boot s (cut_making k (due boot p) (idle s.journal.state) s)) (sym is)
    (making_still boot k s (sym (ap (λ (p : Option PendingParts). is_making (cut_making k (due boot p) (idle s.journal.state) s).journal.pending) is)
    ∙ making))

-- ---- accounts

pub record Fits (base : Variables) (w : World) (a : Account) : Type 0 where
  pub now : stands_for w.boot w.store ≡ after_turns base a.now
  pub former : is_making w.store.journal.pending ≡ true → falls_back_to w.boot w.store ≡ after_turns base a.former

module _ (base : Variables) where
  fits_settles : (w : World) (a : Account) (k : ℕ) → Fits base w a → Fits base (world w.boot (cut_settling w.boot k w.store)) a
  fits_settles w a k fits = record {
    now = settling_stands w.boot k w.store ∙ fits.now;
    former = λ making. let still = settling_still_by w.boot k w.store w.store.journal.pending refl making in still.falls_back ∙ fits.former still.before;
  }

  fits_undoes : (w : World) (a : Account) (k back : ℕ) → Fits base w a → (p : Option PendingParts) → p ≡ w.store.journal.pending →
      Fits base (world w.boot (cut_undoing_by p w.boot k (suc back) w.store)) (if is_making p then record { now = a.former; former = a.former } else a)
  fits_undoes w a k back fits None is = record { now = fits.now; former = fits.former }
  fits_undoes w a k back fits (Some (TakesBack changes began)) is = fits_settles w a k fits
  fits_undoes w a k back fits (Some (Makes former changes began)) is =
      let making : is_making w.store.journal.pending ≡ true = sym (ap is_making is) in record {
        now = undone_stands w.boot k back w.store making ∙ fits.former making;
        former =
            λ still. absurd (true≢false
            (sym still
            ∙ carried_not_making w.boot (turned w.store.journal) back (cut_settling w.boot k w.store)
            (turned_not_making w.store.journal.state w.store.journal.pending)));
      }

  -- ---- updates

  module _ (needed : (from to : Variables) → AllByRecursion (IsNeeded from to) (changes_from from to)) (no_keep : is_boot_name keep_text ≡ false) where
    settled_seen : (w : World) (a : Account) → Fits base w a → seen (settled w.boot w.store) ≡ after_turns base a.now
    settled_seen w a fits = sym (idle_stands w.boot (settled w.boot w.store) (settled_idle w.boot w.store)) ∙ settled_stands w.boot w.store ∙ fits.now

    fits_settled : (w : World) (a : Account) → Fits base w a → Fits base (world w.boot (settled w.boot w.store)) a
    fits_settled w a fits = record {
      now = settled_stands w.boot w.store ∙ fits.now;
      former = λ making. absurd (true≢false (sym making ∙ ap is_making (settled_idle w.boot w.store)));
    }

    fits_begun : (w : World) (a : Account) (to : Variables) (k : ℕ) → Fits base w a →
        Fits base (world w.boot (updating w.boot to (suc k) (settled w.boot w.store))) (record { now = Brings to ∷ a.now; former = a.now })
    fits_begun w a to k fits = record {
      now = updating_stands needed no_keep w.boot to k (settled w.boot w.store) ∙ ap (λ (m : Variables). brought m to) (settled_seen w a fits);
      former = λ making. updating_falls_back needed no_keep w.boot to k (settled w.boot w.store) making ∙ settled_seen w a fits;
    }

    fits_failed : (w : World) (a : Account) (to : Variables) (k back : ℕ) → Fits base w a →
        Fits base (world w.boot (failing w.boot to k (suc back) (settled w.boot w.store))) a
    fits_failed w a to k back fits = record {
      now = failing_stands needed no_keep w.boot to k back (settled w.boot w.store) ∙ settled_seen w a fits;
      former =
          λ making. absurd (true≢false
          (sym making
          ∙ carried_not_making w.boot (turned (journal_to w.boot (settled w.boot w.store) to)) back
          (cut_carrying w.boot (journal_to w.boot (settled w.boot w.store) to) k (settled w.boot w.store)) refl));
    }

  -- ---- starts

  without_state : (deletes : Bool) (state : Option (List ℕ)) (m : Variables)
      → with_state state (without_next deletes m) ≡ without_next deletes (with_state state m)
  without_state deletes state m = same_variables _ _ (λ q.
      get-state state (without_next deletes m) q
      ∙ ap (cond (same_name q keep_text) state) (get-without_next deletes m q)
      ∙ both q (same_name q keep_text) refl
      ∙ sym (get-without_next deletes (with_state state m) q ∙ ap (cond (deletes && same_name q next_text) None) (get-state state m q)))
    where
      both : (q : List ℕ) (n : Bool) → same_name q keep_text ≡ n →
          cond n state (cond (deletes && same_name q next_text) None (get m q)) ≡ cond (deletes && same_name q next_text) None (cond n state (get m q))
      both q true is =
          sym (ap (λ b. cond (deletes && b) None state) (ap (λ p. same_name p next_text) (one_name q keep_text ((Equal-is _).0 is)))
          ∙ not_deleted deletes state)
      both q false is = refl

  or_none : (deletes : Bool) → (deletes || false) ≡ deletes
  or_none true = refl
  or_none false = refl

  start_by : (old boot : List ℕ) (deletes : Bool) (m : Variables) (p : Option PendingParts) → BeganUnderAnother boot p →
      made (due boot p) (without_next deletes m) ≡ without_next (deletes || is_of_next (changes_of p)) (made (due old p) m)
  start_by old boot deletes m None new = ap (λ b. without_next b m) (sym (or_none deletes))
  start_by old boot deletes m (Some (Makes former changes began)) new =
      ap (λ b. made (cond b changes (map spent changes)) (without_next deletes m)) new
      ∙ start_due (same_name old began) changes deletes m
  start_by old boot deletes m (Some (TakesBack changes began)) new =
      ap (λ b. made (cond b (taken_back changes) (map spent (taken_back changes))) (without_next deletes m)) new
      ∙ start_due (same_name old began) (taken_back changes) deletes m
      ∙ ap (λ b. without_next (deletes || b) (made (due_by old began (taken_back changes)) m)) (back_in changes next_text)

  start_stands : (old boot : List ℕ) (deletes : Bool) (s : Store) → BeganUnderAnother boot s.journal.pending
      → stands_for boot (with_variables (without_next deletes s.variables) s)
      ≡ without_next (deletes || is_of_next (changes_of s.journal.pending)) (stands_for old s)
  start_stands old boot deletes s new =
      ap (with_state s.journal.state) (start_by old boot deletes s.variables s.journal.pending new)
      ∙ without_state (deletes || is_of_next (changes_of s.journal.pending)) s.journal.state (made (due old s.journal.pending) s.variables)

  fits_starts : (w : World) (a : Account) (boot : List ℕ) (deletes : Bool) → BeganUnderAnother boot w.store.journal.pending → Fits base w a →
      Fits base (happens w (Starts boot deletes)) (account w a (Starts boot deletes))
  fits_starts w a boot deletes new fits =
      let s = w.store in
      let t = with_journal (turned s.journal) s in record {
        now = start_stands w.boot boot deletes s new ∙ ap (without_next (deletes || is_of_next (changes_of s.journal.pending))) fits.now;
        former = λ making.
            start_stands w.boot boot deletes t (turned_new boot s.journal.state s.journal.pending new)
            ∙ ap (λ (l : List ChangeParts). without_next (deletes || is_of_next l) (stands_for w.boot t)) (turned_changes s.journal.state s.journal.pending)
            ∙ ap (without_next (deletes || is_of_next (changes_of s.journal.pending))) (fits.former making);
      }

  -- ---- firmware

  firmware_at : (st : Option (List ℕ)) (due : List ChangeParts) (fs : List Single) (m : Variables) (q : List ℕ) (n : Bool) → same_name q keep_text ≡ n →
      cond n st (get (made due (after_each m fs)) q) ≡ cond n st (get (after_each (with_state st (made due m)) (that_stay due fs)) q)
  firmware_at st due fs m q true is = refl
  firmware_at st due fs m q false is =
      get-each (new_data due) (after_each m fs) q ∙ ap (over (new_data due) q) (get-each fs m q)
      ∙ stays_over due fs q (get m q)
      ∙ sym (get-each (that_stay due fs) (with_state st (made due m)) q
      ∙ ap (over (that_stay due fs) q) (beside_state st (made due m) q is ∙ get-each (new_data due) m q))

  firmware_stands : (boot : List ℕ) (fs : List Single) (s : Store) →
      stands_for boot (with_variables (after_each s.variables fs) s) ≡ after_turn (Meddles (that_stay (due boot s.journal.pending) fs)) (stands_for boot s)
  firmware_stands boot fs s =
      let ds = due boot s.journal.pending in
      let st = s.journal.state in
      same_variables _ _ (λ q.
      get-state st (made ds (after_each s.variables fs)) q
      ∙ firmware_at st ds fs s.variables q (same_name q keep_text) refl
      ∙ sym (get-state st (after_each (with_state st (made ds s.variables)) (that_stay ds fs)) q))
      ∙ ap (λ (x : Option (List ℕ)). with_state x (after_each (stands_for boot s) (that_stay ds fs))) (sym (state_of_seen st (made ds s.variables)))

  fits_firmware : (w : World) (a : Account) (changes : List Single) → Fits base w a
      → Fits base (happens w (Firmware changes)) (account w a (Firmware changes))
  fits_firmware w a changes fits = record {
    now = firmware_stands w.boot changes w.store ∙ ap (after_turn (Meddles (that_stay (due w.boot w.store.journal.pending) changes))) fits.now;
    former = λ making.
        firmware_stands w.boot changes (with_journal (turned w.store.journal) w.store)
        ∙ ap (after_turn (Meddles (that_stay (due w.boot (turned w.store.journal).pending) changes))) (fits.former making);
  }

  -- ---- identities

  known_later : (boot q : List ℕ) (known : List (List ℕ)) → is_known known q ≡ true → is_known (boot ∷ known) q ≡ true
  known_later boot q known is = or_right (same_name q boot) (is_known known q) is

  begun_later : (boot : List ℕ) (known : List (List ℕ)) (p : Option PendingParts) → IsBegunKnown known p → IsBegunKnown (boot ∷ known) p
  begun_later boot known None is = is
  begun_later boot known (Some (Makes former changes began)) is = known_later boot began known is
  begun_later boot known (Some (TakesBack changes began)) is = known_later boot began known is

  -- an identity that isn't known isn't one that is
  other_identity : (boot began : List ℕ) (known : List (List ℕ)) → is_known known boot ≡ false → is_known known began ≡ true → same_name boot began ≡ false
  other_identity boot began known new is = unlike boot began (λ e. true≢false (sym is ∙ ap (is_known known) (sym e) ∙ new))

  new_to : (boot : List ℕ) (known : List (List ℕ)) (p : Option PendingParts) → is_known known boot ≡ false → IsBegunKnown known p → BeganUnderAnother boot p
  new_to boot known None new is = tt
  new_to boot known (Some (Makes former changes began)) new is = other_identity boot began known new is
  new_to boot known (Some (TakesBack changes began)) new is = other_identity boot began known new is

  known_turned : (known : List (List ℕ)) (state : Option (List ℕ)) (p : Option PendingParts) → IsBegunKnown known p
      → IsBegunKnown known (turned_by state p).pending
  known_turned known state None is = is
  known_turned known state (Some (Makes former changes began)) is = is
  known_turned known state (Some (TakesBack changes began)) is = is

  -- moves keep it, whatever the variables are
  module _ (known : List (List ℕ)) (boot : List ℕ) where
    known_settling : (k : ℕ) (s : Store) → IsBegunKnown known s.journal.pending → IsBegunKnown known (cut_settling boot k s).journal.pending
    known_settling k s is =
        (settling_holds boot (λ m. Unit {0}) (IsBegunKnown known) tt (known_turned known) (λ p begun m j here. tt) k s
        (record { variables = tt; journal = is })).journal

    known_carrying : (journal : JournalParts) (k : ℕ) (s : Store) → IsBegunKnown known journal.pending → IsBegunKnown known s.journal.pending
        → IsBegunKnown known (cut_carrying boot journal k s).journal.pending
    known_carrying journal k s begins is =
        (carrying_holds boot (λ m. Unit {0}) (IsBegunKnown known) tt (known_turned known) (λ p begun m j here. tt) journal k s begins
        (record { variables = tt; journal = is })).journal

    known_undoing : (k back : ℕ) (s : Store) → IsBegunKnown known s.journal.pending → IsBegunKnown known (cut_undoing boot k back s).journal.pending
    known_undoing k back s is =
        (undoing_holds boot (λ m. Unit {0}) (IsBegunKnown known) tt (known_turned known) (λ p begun m j here. tt) k back s
        (record { variables = tt; journal = is })).journal

  known_settled : (known : List (List ℕ)) (boot : List ℕ) (s : Store) → IsBegunKnown known (settled boot s).journal.pending
  known_settled known boot s = subst (λ (p : Option PendingParts). IsBegunKnown known p) (sym (settled_idle boot s)) tt

  known_updating : (known : List (List ℕ)) (w : World) (to : Variables) (k : ℕ) → IsKnown known w
      → IsBegunKnown known (updating w.boot to k (settled w.boot w.store)).journal.pending
  known_updating known w to k is =
      known_carrying known w.boot (journal_to w.boot (settled w.boot w.store) to) k (settled w.boot w.store) is.boot (known_settled known w.boot w.store)

  pub known_undone : (known : List (List ℕ)) (w : World) (k back : ℕ) → IsKnown known w → IsKnown known (happens w (Undoes k back))
  known_undone known w k back is = record { boot = is.boot; journal = known_undoing known w.boot k back w.store is.journal }

  pub known_failed : (known : List (List ℕ)) (w : World) (to : Variables) (k back : ℕ) → IsKnown known w → IsKnown known (happens w (Fails to k back))
  known_failed known w to k back is = record {
    boot = is.boot;
    journal =
        known_carrying known w.boot (turned (journal_to w.boot (settled w.boot w.store) to)) back (updating w.boot to k (settled w.boot w.store)) is.boot
        (known_updating known w to k is);
  }

  pub known_started : (known : List (List ℕ)) (w : World) (boot : List ℕ) (deletes : Bool) → IsKnown known w
      → IsKnown (boot ∷ known) (happens w (Starts boot deletes))
  known_started known w boot deletes is = record {
    boot = ap (λ b. b || is_known known boot) (same_self boot);
    journal = begun_later boot known w.store.journal.pending is.journal;
  }

  -- ---- any number of events

  module _ (needed : (from to : Variables) → AllByRecursion (IsNeeded from to) (changes_from from to)) (no_keep : is_boot_name keep_text ≡ false) where
    pub all_fit : (known : List (List ℕ)) (w : World) (a : Account) (events : List Event) → IsKnown known w → StartsAreNew known events → Fits base w a →
        Fits base (all_happen w events) (accounts w a events)
    all_fit known w a [] is new fits = fits
    all_fit known w a (Settles k ∷ events) is new fits =
        all_fit known (happens w (Settles k)) a events
        (record { boot = is.boot; journal = known_settling known w.boot k w.store is.journal }) new (fits_settles w a k fits)
    all_fit known w a (Undoes k zero ∷ events) is new fits =
        all_fit known (happens w (Undoes k zero)) a events
        (known_undone known w k zero is) new
        (subst (λ (s : Store). Fits base (world w.boot s) a) (sym (unturned w.boot k w.store)) (fits_settles w a k fits))
    all_fit known w a (Undoes k (suc back) ∷ events) is new fits =
        all_fit known (happens w (Undoes k (suc back))) (account w a (Undoes k (suc back))) events
        (known_undone known w k (suc back) is) new
        (fits_undoes w a k back fits w.store.journal.pending refl)
    all_fit known w a (Updates to zero ∷ events) is new fits =
        all_fit known (happens w (Updates to zero)) a events (record { boot = is.boot; journal = known_settled known w.boot w.store }) new
        (fits_settled needed no_keep w a fits)
    all_fit known w a (Updates to (suc k) ∷ events) is new fits =
        all_fit known (happens w (Updates to (suc k))) (account w a (Updates to (suc k))) events
        (record { boot = is.boot; journal = known_updating known w to (suc k) is }) new (fits_begun needed no_keep w a to k fits)
    all_fit known w a (Fails to zero zero ∷ events) is new fits =
        all_fit known (happens w (Fails to zero zero)) a events (record { boot = is.boot; journal = known_settled known w.boot w.store }) new
        (fits_settled needed no_keep w a fits)
    all_fit known w a (Fails to (suc k) zero ∷ events) is new fits =
        all_fit known (happens w (Fails to (suc k) zero)) (account w a (Fails to (suc k) zero)) events
        (record { boot = is.boot; journal = known_updating known w to (suc k) is }) new (fits_begun needed no_keep w a to k fits)
    all_fit known w a (Fails to zero (suc back) ∷ events) is new fits =
        all_fit known (happens w (Fails to zero (suc back))) a events
        (known_failed known w to zero (suc back) is) new
        (fits_failed needed no_keep w a to zero back fits)
    all_fit known w a (Fails to (suc k) (suc back) ∷ events) is new fits =
        all_fit known (happens w (Fails to (suc k) (suc back))) a events
        (known_failed known w to (suc k) (suc back) is) new
        (fits_failed needed no_keep w a to (suc k) back fits)
    all_fit known w a (Starts boot deletes ∷ events) is new fits =
        all_fit (boot ∷ known) (happens w (Starts boot deletes)) (account w a (Starts boot deletes)) events
        (known_started known w boot deletes is) new.1
        (fits_starts w a boot deletes (new_to boot known w.store.journal.pending new.0 is.journal) fits)
    all_fit known w a (Firmware changes ∷ events) is new fits =
        all_fit known (happens w (Firmware changes)) (account w a (Firmware changes)) events (record { boot = is.boot; journal = is.journal }) new
        (fits_firmware w a changes fits)

-- of a machine on which nothing is to be done
pub all_whole : (needed : (from to : Variables) → AllByRecursion (IsNeeded from to) (changes_from from to)) → is_boot_name keep_text ≡ false →
    (w : World) (events : List Event) → w.store.journal.pending ≡ None → StartsAreNew (w.boot ∷ []) events →
    stands_for (all_happen w events).boot (all_happen w events).store ≡ after_turns (stands_for w.boot w.store) (happened w events)
all_whole needed no_keep w events none new =
    (all_fit (stands_for w.boot w.store) needed no_keep (w.boot ∷ []) w (record { now = []; former = [] }) events
    (record { boot = ap (λ b. b || false) (same_self w.boot); journal = subst (λ (p : Option PendingParts). IsBegunKnown (w.boot ∷ []) p) (sym none) tt }) new
    (record { now = refl; former = λ making. absurd (true≢false (sym making ∙ ap is_making none)) })).now
