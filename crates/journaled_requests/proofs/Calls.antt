-- Calls of `command` and `settle`, one after the other: by induction over them, the machine stands for what some turns lead to, whose
-- updates are those of the calls (`all_stand`). A call that is cut off or refused may have made its update or not.
use Rattle.std.proofs.Common.{◌≡◌, ◌⊎◌, inl, inr, ⊎_elim, ℕ, zero, suc, ◌||◌, not, Bool, true, false, if◌then◌else◌, List, [], ◌∷◌, Option, refl, sym, ap}
use Rattle.std.proofs.Common.{subst, ◌∙◌}
use Rattle.std.specs.List.{AllByRecursion, list_any}
use Rattle.std.proofs.lemmas.Bool.{true≢false}
use Rattle.uefi_vars.specs.Vars.{Variables}
use Rattle.uefi_vars.specs.BootChange.{ChangeParts, same_name, is_boot_name, changes_from, IsNeeded}
use Rattle.boot_requests.specs.declared.event.Event.{Event}
use Rattle.uefi_vars.specs.Name.{keep_text}
use Rattle.journaled_requests.specs.Calls.{Call, Runs, Done, Unchanged, NotRun, Open, Settling, Starts, Firmware, RunsTo, CallLeads, Step, world_after, AreSteps}
use Rattle.journaled_requests.specs.Calls.{known_with, identities, IsNewStart, HaveNewStarts, IfFirmware, FirmwareDid, NewestIsBy, AreWith, AreByCalls}
use Rattle.boot_journal.specs.Commands.{IsCommanding}
use Rattle.boot_journal.specs.Events as event
use Rattle.boot_journal.specs.Events.{World, happens}
use Rattle.boot_journal.specs.Journal.{PendingParts, due, turned, is_making}
use Rattle.boot_journal.specs.Moves.{IsSettling}
use Rattle.journaled_requests.specs.Once.{Update, IsUpdateFrom, AreUpdatesIn, run_of}
use Rattle.journaled_requests.specs.Requests.{IsRunOf, IsOfAnother}
use Rattle.boot_journal.specs.Store.{IsIdle, stands_for, brought}
use Rattle.boot_journal.specs.Turns.{Turn, Brings, Boots, Meddles, that_stay, Account, account, is_known, IsBegunKnown, IsKnown}
use Rattle.boot_journal.proofs.Making.{same_self}
use Rattle.boot_journal.proofs.Whole.{Fits, all_fit, known_undone, known_failed, known_started}

-- what firmware changes
abbrev Meddling : Type 0
Meddling = List (List ℕ × Option (List ℕ))

-- what stays of firmware's changes is so
abbrev pub Meddled : (Meddling → Type 0) → List Turn → Type 0
Meddled AreSo [] = Unit {0}
Meddled AreSo (Brings to ∷ before) = Meddled AreSo before
Meddled AreSo (Boots deletes ∷ before) = Meddled AreSo before
Meddled AreSo (Meddles changes ∷ before) = AreSo changes × Meddled AreSo before

-- the updates among these turns are so, and so is what firmware changed
pub record Did (AreSo : Meddling → Type 0) (base : Variables) (By : List Update → Type 0) (turns : List Turn) : Type 0 where
  pub updates : List Update
  pub are : AreUpdatesIn base turns updates
  pub by : By updates
  pub meddled : Meddled AreSo turns

-- the machine stands for turns whose updates are so
pub record Stands (AreSo : Meddling → Type 0) (base : Variables) (known : List (List ℕ)) (w : World) (By : List Update → Type 0) : Type 0 where
  pub told : Account
  pub is : IsKnown known w
  pub fits : Fits base w told
  pub now : Did AreSo base By told.now
  pub former : Did AreSo base By told.former

-- ---- what an event makes of an account

either_way : (P : List Turn → Type 0) (b : Bool) (a : Account) → P a.now → P a.former →
    P (if b then record { now = a.former; former = a.former } else a).now × P (if b then record { now = a.former; former = a.former } else a).former
either_way P true a now former = (former, former)
either_way P false a now former = (now, former)

undone : (P : List Turn → Type 0) (w : World) (a : Account) (k back : ℕ) → P a.now → P a.former →
    P (account w a (event.Undoes k back)).now × P (account w a (event.Undoes k back)).former
undone P w a k zero now former = (now, former)
undone P w a k (suc back) now former = either_way P (is_making w.store.journal.pending) a now former

failed : (P : List Turn → Type 0) (w : World) (a : Account) (to : Variables) (k back : ℕ) → P a.now → P a.former → P (Brings to ∷ a.now) →
    P (account w a (event.Fails to k back)).now × P (account w a (event.Fails to k back)).former
failed P w a to zero zero now former more = (now, former)
failed P w a to (suc k) zero now former more = (more, now)
failed P w a to zero (suc back) now former more = (now, former)
failed P w a to (suc k) (suc back) now former more = (now, former)

failed_former : (P : List Turn → Type 0) (w : World) (a : Account) (to : Variables) (k back : ℕ) → P a.now → P a.former →
    P (account w a (event.Fails to k back)).former
failed_former P w a to zero zero now former = former
failed_former P w a to (suc k) zero now former = now
failed_former P w a to zero (suc back) now former = former
failed_former P w a to (suc k) (suc back) now former = former

-- ---- one call more

module _ (AreSo : Meddling → Type 0) (stay : (over : List ChangeParts) (changes : Meddling) → AreSo changes → AreSo (that_stay over changes))
    (base : Variables) (needed : (from to : Variables) → AllByRecursion (IsNeeded from to) (changes_from from to))
    (no_keep : is_boot_name keep_text ≡ false) where
  -- an update by these events, of what the machine stood for
  update_by : (u : World) (events : List Event) (By : List Update → Type 0) (a : Account) (to : Variables) → Fits base u a → Did AreSo base By a.now →
      RunsTo events (stands_for u.boot u.store) to → Did AreSo base (NewestIsBy u events By) (Brings to ∷ a.now)
  update_by u events By a to fits did runs =
      let answered = runs.1 in
      let update : Update = record { before = answered.4.0; seen = answered.0 } in record {
        updates = update ∷ did.updates;
        are = (subst (λ (m : Variables). IsUpdateFrom m update to) fits.now (record { opens = answered.4.1; by = answered.2 }), did.are);
        by = (answered.4.1, answered.1, did.by);
        meddled = did.meddled;
      }

  -- what a call may have made
  abbrev May : World → List Event → (List Update → Type 0) → List Update → Type 0
  May u events By updates = By updates ⊎ NewestIsBy u events By updates

  made : (u : World) (events : List Event) (By : List Update → Type 0) (turns : List Turn) → Did AreSo base (NewestIsBy u events By) turns
      → Did AreSo base (May u events By) turns
  made u events By turns did = record { updates = did.updates; are = did.are; by = inr did.by; meddled = did.meddled }

  not_made : (u : World) (events : List Event) (By : List Update → Type 0) (turns : List Turn) → Did AreSo base By turns
      → Did AreSo base (May u events By) turns
  not_made u events By turns did = record { updates = did.updates; are = did.are; by = inl did.by; meddled = did.meddled }

  settles : (known : List (List ℕ)) (u v : World) (By : List Update → Type 0)
      → Stands AreSo base known u By → v.boot ≡ u.boot → IsSettling u.boot u.store v.store → Stands AreSo base known v By
  settles known u v By was boot at =
      let e = event.Undoes at.0 at.1 in
      let same : v ≡ happens u e = λ i. record { boot = boot i; store = at.2 i } in
      let turns = undone (Did AreSo base By) u was.told at.0 at.1 was.now was.former in
      subst (λ (x : World). Stands AreSo base known x By) (sym same) (record {
        told = account u was.told e;
        is = known_undone base known u at.0 at.1 was.is;
        fits = all_fit base needed no_keep known u was.told (e ∷ []) was.is tt was.fits;
        now = turns.0;
        former = turns.1;
      })

  -- a command that may have made an update
  commands : (known : List (List ℕ)) (u v : World) (events : List Event) (By : List Update → Type 0) → Stands AreSo base known u By → v.boot ≡ u.boot →
      IsCommanding (RunsTo events) u.boot u.store v.store → Stands AreSo base known v (May u events By)
  commands known u v events By was boot at = ⊎_elim
      (λ settling.
      let after = settles known u v By was boot settling in record {
        told = after.told;
        is = after.is;
        fits = after.fits;
        now = not_made u events By after.told.now after.now;
        former = not_made u events By after.told.former after.former;
      })
      (λ did.
      let to = did.0 in
      let e = event.Fails to did.2.0 did.2.1 in
      let same : v ≡ happens u e = λ i. record { boot = boot i; store = did.2.2 i } in
      let a = was.told in
      let more = made u events By (Brings to ∷ a.now) (update_by u events By a to was.fits was.now did.1) in
      let turns =
      failed (Did AreSo base (May u events By)) u a to did.2.0 did.2.1 (not_made u events By a.now was.now)
      (not_made u events By a.former was.former) more in
      subst (λ (x : World). Stands AreSo base known x (May u events By)) (sym same) (record {
        told = account u a e;
        is = known_failed base known u to did.2.0 did.2.1 was.is;
        fits = all_fit base needed no_keep known u a (e ∷ []) was.is tt was.fits;
        now = turns.0;
        former = turns.1;
      }))
      at

  -- one after which the machine stands for what it did
  unchanged : (known : List (List ℕ)) (u v : World) (events : List Event) (By : List Update → Type 0) → Stands AreSo base known u By → v.boot ≡ u.boot →
      IsCommanding (RunsTo events) u.boot u.store v.store → stands_for v.boot v.store ≡ stands_for u.boot u.store → Stands AreSo base known v By
  unchanged known u v events By was boot at stays = ⊎_elim
      (λ settling.
      let e = event.Undoes settling.0 settling.1 in
      let same : v ≡ happens u e = λ i. record { boot = boot i; store = settling.2 i } in
      let turns = undone (Did AreSo base By) u was.told settling.0 settling.1 was.now was.former in
      of_event e same (known_undone base known u settling.0 settling.1 was.is)
      (all_fit base needed no_keep known u was.told (e ∷ []) was.is tt was.fits) turns.1)
      (λ did.
      let e = event.Fails did.0 did.2.0 did.2.1 in
      let same : v ≡ happens u e = λ i. record { boot = boot i; store = did.2.2 i } in
      of_event e same (known_failed base known u did.0 did.2.0 did.2.1 was.is) (all_fit base needed no_keep known u was.told (e ∷ []) was.is tt was.fits)
      (failed_former (Did AreSo base By) u was.told did.0 did.2.0 did.2.1 was.now was.former))
      at
    where
      of_event : (e : event.Event)
          → v ≡ happens u e → IsKnown known (happens u e) → Fits base (happens u e) (account u was.told e) → Did AreSo base By (account u was.told e).former
          → Stands AreSo base known v By
      of_event e same is fits former = record {
        told = record { now = was.told.now; former = (account u was.told e).former };
        is = subst (IsKnown known) (sym same) is;
        fits = record { now = stays ∙ was.fits.now; former = (subst (λ (x : World). Fits base x (account u was.told e)) (sym same) fits).former };
        now = was.now;
        former = former;
      }

  done : (known : List (List ℕ)) (u v : World) (events : List Event) (By : List Update → Type 0) (to : Variables)
      → Stands AreSo base known u By → v.boot ≡ u.boot → IsIdle v.store → RunsTo events (stands_for u.boot u.store) to
      → stands_for v.boot v.store ≡ brought (stands_for u.boot u.store) to
      → Stands AreSo base known v (NewestIsBy u events By)
  done known u v events By to was boot none runs brings =
      let more = update_by u events By was.told to was.fits was.now runs in record {
        told = record { now = Brings to ∷ was.told.now; former = Brings to ∷ was.told.now };
        is = record { boot = ap (is_known known) boot ∙ was.is.boot; journal = subst (λ (p : Option PendingParts). IsBegunKnown known p) (sym none) tt };
        fits = record {
          now = brings ∙ ap (λ (m : Variables). brought m to) was.fits.now;
          former = λ making. absurd (true≢false (sym making ∙ ap is_making none));
        };
        now = more;
        former = more;
      }

  starts : (known : List (List ℕ)) (u v : World) (By : List Update → Type 0) (boot : List ℕ) (deletes : Bool)
      → is_known known boot ≡ false → Stands AreSo base known u By → v ≡ happens u (event.Starts boot deletes)
      → Stands AreSo base (boot ∷ known) v By
  starts known u v By boot deletes new was same =
      subst (λ (x : World). Stands AreSo base (boot ∷ known) x By) (sym same) (record {
        told = account u was.told (event.Starts boot deletes);
        is = known_started base known u boot deletes was.is;
        fits = all_fit base needed no_keep known u was.told (event.Starts boot deletes ∷ []) was.is (new, tt) was.fits;
        now = record { updates = was.now.updates; are = was.now.are; by = was.now.by; meddled = was.now.meddled };
        former = record { updates = was.former.updates; are = was.former.are; by = was.former.by; meddled = was.former.meddled };
      })

  firmware : (known : List (List ℕ)) (u v : World) (By : List Update → Type 0) (changes : Meddling) → AreSo changes → Stands AreSo base known u By →
      v ≡ happens u (event.Firmware changes) → Stands AreSo base known v By
  firmware known u v By changes are was same =
      subst (λ (x : World). Stands AreSo base known x By) (sym same) (record {
        told = account u was.told (event.Firmware changes);
        is = record { boot = was.is.boot; journal = was.is.journal };
        fits = all_fit base needed no_keep known u was.told (event.Firmware changes ∷ []) was.is tt was.fits;
        now =
            record {
              updates = was.now.updates;
              are = was.now.are;
              by = was.now.by;
              meddled =
                  (stay (due u.boot u.store.journal.pending) changes are, was.now.meddled);
            };
        former =
            record {
              updates = was.former.updates;
              are = was.former.are;
              by = was.former.by;
              meddled =
                  (stay (due u.boot (turned u.store.journal).pending) changes are, was.former.meddled);
            };
      })

  pub one_more : (known : List (List ℕ)) (u v : World) (call : Call) (By : List Update → Type 0)
      → Stands AreSo base known u By → CallLeads u call v → IsNewStart known call → IfFirmware AreSo call
      → Stands AreSo base (known_with call known) v (AreWith u call By)
  one_more known u v (Runs events Done) By was lead new did = done known u v events By lead.2 was lead.0 lead.1 lead.3 lead.4
  one_more known u v (Runs events Unchanged) By was lead new did = unchanged known u v events By was lead.0 lead.1 lead.2
  one_more known u v (Runs events NotRun) By was lead new did = settles known u v By was lead.0 lead.1
  one_more known u v (Runs events Open) By was lead new did = commands known u v events By was lead.0 lead.1
  one_more known u v Settling By was lead new did = settles known u v By was lead.0 lead.1
  one_more known u v (Starts boot deletes) By was lead new did = starts known u v By boot deletes new was lead
  one_more known u v (Firmware changes) By was lead new did = firmware known u v By changes did was lead

-- ---- any number of calls

module _ (AreSo : Meddling → Type 0) (stay : (over : List ChangeParts) (changes : Meddling) → AreSo changes → AreSo (that_stay over changes))
    (needed : (from to : Variables) → AllByRecursion (IsNeeded from to) (changes_from from to)) (no_keep : is_boot_name keep_text ≡ false) (w : World)
    (none : IsIdle w.store) where
  abbrev base : Variables
  base = stands_for w.boot w.store

  pub all_stand : (steps : List Step) → AreSteps w steps → HaveNewStarts w.boot steps → FirmwareDid AreSo steps →
      Stands AreSo base (identities w.boot steps) (world_after w steps) (AreByCalls w steps)
  all_stand [] lead new did = record {
    told = record { now = []; former = [] };
    is = record { boot = ap (λ b. b || false) (same_self w.boot); journal = subst (λ (p : Option PendingParts). IsBegunKnown (w.boot ∷ []) p) (sym none) tt };
    fits = record { now = refl; former = λ making. absurd (true≢false (sym making ∙ ap is_making none)) };
    now = record { updates = []; are = refl; by = refl; meddled = tt };
    former = record { updates = []; are = refl; by = refl; meddled = tt };
  }
  all_stand (step ∷ before) lead new did =
      one_more AreSo stay base needed no_keep (identities w.boot before) (world_after w before) step.after step.call (AreByCalls w before)
      (all_stand before lead.1 new.1 did.1) lead.0 new.0 did.0

-- ---- what firmware did

-- nothing is asked of it
of_any : (call : Call) → IfFirmware (λ changes. Unit {0}) call
of_any (Runs events ending) = tt
of_any Settling = tt
of_any (Starts boot deletes) = tt
of_any (Firmware changes) = tt

pub anything : (steps : List Step) → FirmwareDid (λ changes. Unit {0}) steps
anything [] = tt
anything (step ∷ before) = (of_any step.call, anything before)

pub others_stay : (over : List ChangeParts) (changes : Meddling) → AllByRecursion IsOfAnother changes → AllByRecursion IsOfAnother (that_stay over changes)
others_stay over [] are = tt
others_stay over (change ∷ changes) are = by (not (list_any (λ other. same_name other.name change.0) over)) (others_stay over changes are.1)
  where
    by : (b : Bool) → AllByRecursion IsOfAnother (that_stay over changes)
        → AllByRecursion IsOfAnother (if b then change ∷ that_stay over changes else that_stay over changes)
    by true rest = (are.0, rest)
    by false rest = rest

-- the run of the updates is that of the turns, if firmware changed nothing but other variables
pub run_of_turns : (start : Variables) (turns : List Turn) (updates : List Update)
    → AreUpdatesIn start turns updates → Meddled (AllByRecursion IsOfAnother) turns → IsRunOf start turns (run_of updates)
run_of_turns start [] updates are meddled = ap run_of are
run_of_turns start (Brings to ∷ before) [] are meddled = elim are [ ]
run_of_turns start (Brings to ∷ before) (update ∷ earlier) are meddled =
    (run_of earlier, update.seen, run_of_turns start before earlier are.1 meddled, are.0.by, refl)
run_of_turns start (Boots deletes ∷ before) updates are meddled = run_of_turns start before updates are meddled
run_of_turns start (Meddles changes ∷ before) updates are meddled = (meddled.0, run_of_turns start before updates are meddled.1)
