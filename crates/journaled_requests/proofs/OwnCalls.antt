-- What firmware did by itself stays, over lists of calls, of each of which the moments are those of events.
use Rattle.std.proofs.Common.{◌≡◌, ⊎_elim, ℕ, true, false, List, [], ◌∷◌, ◌++◌, Option, refl, sym, ap, subst, ◌∙◌}
use Rattle.std.specs.FinMap.{get}
use Rattle.uefi_vars.specs.Vars.{Variables}
use Rattle.uefi_vars.specs.NameChanges.{after_each}
use Rattle.uefi_vars.specs.BootChange.{same_name, changes_from}
use Rattle.boot_requests.specs.declared.event.Event.{Event}
use Rattle.uefi_vars.specs.Name.{keep_text}
use Rattle.journaled_requests.specs.Calls.{Call, Runs, Done, Unchanged, NotRun, Open, Settling, Starts, Firmware, RunsTo, CallLeads, Step, world_after, AreSteps}
use Rattle.journaled_requests.specs.Calls.{did_with, did_by_firmware, CallLeavesAlone, CallsLeaveAlone}
use Rattle.boot_journal.specs.Changes.{made, LeaveAlone}
use Rattle.boot_journal.specs.Commands.{IsCommanding}
use Rattle.boot_journal.specs.Events.{World}
use Rattle.boot_journal.specs.Journal.{PendingParts, changes_of, due}
use Rattle.boot_journal.specs.Moves.{settled, IsSettling, IsUpdating}
use Rattle.boot_journal.specs.Store.{Store, IsIdle, stands_for, brought}
use Rattle.boot_journal.proofs.Single.{Single}
use Rattle.boot_journal.proofs.Firmware.{is_in}
use Rattle.boot_journal.proofs.Making.{beside_state}
use Rattle.boot_journal.proofs.Commands.{settled_reads}
use Rattle.boot_journal.proofs.Own.{Own, due_in, alone_out, made_out, undoing_own, failing_own, then}

module _ (q : List ℕ) (apart : same_name q keep_text ≡ false) where
  -- what the machine stands for has what is there, if nothing that is due is of the name
  stands_own : (boot : List ℕ) (s : Store) → is_in (changes_of s.journal.pending) q ≡ false → get (stands_for boot s) q ≡ get s.variables q
  stands_own boot s out =
      beside_state s.journal.state (made (due boot s.journal.pending) s.variables) q apart
      ∙ made_out (due boot s.journal.pending) s.variables q (due_in boot s.journal.pending q ∙ out)

  module _ (x : Option (List ℕ)) where
    settling_stays : (boot : List ℕ) (s c : Store) → Own q x s → IsSettling boot s c → Own q x c
    settling_stays boot s c own at = subst (Own q x) (sym at.2) (undoing_own q x boot at.0 at.1 s own)

    updating_stays : (boot : List ℕ) (to : Variables) (s c : Store)
        → Own q x s → LeaveAlone q (changes_from (stands_for boot s) to) → IsUpdating boot to (settled boot s) c → Own q x c
    updating_stays boot to s c own alone at =
        subst (Own q x) (sym at.2) (failing_own q x boot to at.0 at.1 s
        (subst (λ (m : Variables). LeaveAlone q (changes_from m to)) (sym (settled_reads boot s (settled boot s) refl)) alone) own)

    commanding_stays : (events : List Event) (boot : List ℕ) (s c : Store)
        → Own q x s → ((to : Variables) → RunsTo events (stands_for boot s) to → LeaveAlone q (changes_from (stands_for boot s) to))
        → IsCommanding (RunsTo events) boot s c → Own q x c
    commanding_stays events boot s c own alone at = ⊎_elim
        (λ settling. settling_stays boot s c own settling)
        (λ did. updating_stays boot did.0 s c own (alone did.0 did.1) did.2)
        at

    done_stays : (to : Variables) (w v : World) → Own q x w.store → LeaveAlone q (changes_from (stands_for w.boot w.store) to) → IsIdle v.store →
        stands_for v.boot v.store ≡ brought (stands_for w.boot w.store) to → Own q x v.store
    done_stays to w v own alone idle is =
        let was = stands_for w.boot w.store in
        let none : is_in (changes_of v.store.journal.pending) q ≡ false = ap (λ (p : Option PendingParts). is_in (changes_of p) q) idle in record {
          variables =
              sym (stands_own v.boot v.store none)
              ∙ ap (λ (m : Variables). get m q) is
              ∙ beside_state (get to keep_text) (made (changes_from was to) was) q apart
              ∙ made_out (changes_from was to) was q (alone_out q (changes_from was to) alone)
              ∙ stands_own w.boot w.store own.journal
              ∙ own.variables;
          journal = none;
        }

  module _ (m : Variables) (fs : List Single) where
    -- it is as firmware alone made it
    abbrev IsAsMade : List Single → Store → Type 0
    IsAsMade did s = Own q (get (after_each m did) q) s

    call_stays : (call : Call) (w v : World) → CallLeads w call v → CallLeavesAlone q w call → IsAsMade fs w.store → IsAsMade (did_with call fs) v.store
    call_stays (Runs events Done) w v at alone own = done_stays (get (after_each m fs) q) at.2 w v own (alone at.2 at.3) at.1 at.4
    call_stays (Runs events Unchanged) w v at alone own = commanding_stays (get (after_each m fs) q) events w.boot w.store v.store own alone at.1
    call_stays (Runs events NotRun) w v at alone own = settling_stays (get (after_each m fs) q) w.boot w.store v.store own at.1
    call_stays (Runs events Open) w v at alone own = commanding_stays (get (after_each m fs) q) events w.boot w.store v.store own alone at.1
    call_stays Settling w v at alone own = settling_stays (get (after_each m fs) q) w.boot w.store v.store own at.1
    call_stays (Starts boot true) w v at alone own =
        subst (λ (u : World). IsAsMade (did_with (Starts boot true) fs) u.store) (sym at)
        (record { variables = then m w.store.variables fs (did_with (Starts boot true) []) q own.variables; journal = own.journal })
    call_stays (Starts boot false) w v at alone own =
        subst (λ (u : World). IsAsMade fs u.store) (sym at) (record { variables = own.variables; journal = own.journal })
    call_stays (Firmware changes) w v at alone own =
        subst (λ (u : World). IsAsMade (fs ++ changes) u.store) (sym at)
        (record { variables = then m w.store.variables fs changes q own.variables; journal = own.journal })

  calls_stay : (w : World) (steps : List Step) → is_in (changes_of w.store.journal.pending) q ≡ false → AreSteps w steps → CallsLeaveAlone q w steps →
      Own q (get (after_each w.store.variables (did_by_firmware steps)) q) (world_after w steps).store
  calls_stay w [] out are alone = record { variables = refl; journal = out }
  calls_stay w (step ∷ before) out are alone =
      call_stays w.store.variables (did_by_firmware before) step.call (world_after w before) step.after are.0 alone.0 (calls_stay w before out are.1 alone.1)

pub owned_calls : (w : World) (steps : List Step) (q : List ℕ)
    → AreSteps w steps → same_name q keep_text ≡ false → LeaveAlone q (changes_of w.store.journal.pending) → CallsLeaveAlone q w steps
    → get (world_after w steps).store.variables q ≡ get (after_each w.store.variables (did_by_firmware steps)) q
owned_calls w steps q are apart alone calls = (calls_stay q apart w steps (alone_out q (changes_of w.store.journal.pending) alone) are calls).variables
