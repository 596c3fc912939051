-- What happened to a machine, with nothing cut off: whole updates, starts, and what firmware did by itself.
use Rattle.std.specs.Prelude.{◌≡◌, ℕ, zero, suc, ◌||◌, not, filter, Bool, true, false, List, [], ◌∷◌, Option, Some, None, if◌then◌else◌}
use Rattle.std.specs.List.{list_any}
use Rattle.std.specs.FinMap.{get}
use Rattle.uefi_vars.specs.Vars.{Variables}
use Rattle.uefi_vars.specs.NameChanges.{after_each}
use Rattle.uefi_vars.specs.BootChange.{ChangeParts, same_name}
use Rattle.uefi_vars.specs.Name.{keep_text}
use Rattle.boot_journal.specs.Changes.{is_of_next}
use Rattle.boot_journal.specs.Journal.{PendingParts, Makes, TakesBack, due, turned, is_making, changes_of}
use Rattle.boot_journal.specs.Store.{brought, with_state}
use Rattle.boot_journal.specs.Events.{Event, Settles, Undoes, Updates, Fails, Starts, Firmware, World, happens, without_next}

pub data Turn : Type 0 where
  -- an update led to these variables
  Brings : Variables → Turn
  -- the machine was started, and BootNext is gone or as it was
  Boots : Bool → Turn
  -- firmware changed variables of which no change was still to be made
  Meddles : List (List ℕ × Option (List ℕ)) → Turn

-- the variables after a turn
abbrev pub after_turn : Turn → Variables → Variables
after_turn (Brings to) vars = brought vars to
after_turn (Boots deletes) vars = without_next deletes vars
after_turn (Meddles changes) vars = with_state (get vars keep_text) (after_each vars changes)

-- the variables after turns, of which the newest is the first
abbrev pub after_turns : Variables → List Turn → Variables
after_turns vars [] = vars
after_turns vars (turn ∷ before) = after_turn turn (after_turns vars before)

-- ---- which turns happened

-- what happened, and what had happened if the update is taken back whose changes are still being made: the newest first
pub record Account : Type 0 where
  pub now : List Turn
  pub former : List Turn

-- firmware's changes of variables that aren't changed by these, which are made after them
abbrev pub that_stay : List ChangeParts → List (List ℕ × Option (List ℕ)) → List (List ℕ × Option (List ℕ))
that_stay over changes = filter (λ change. not (list_any (λ other. same_name other.name change.0) over)) changes

-- An update has happened once its journal is there. One that fails hasn't once its changes are begun to be taken back.
abbrev pub account : World → Account → Event → Account
account w a (Settles moves) = a
account w a (Undoes moves zero) = a
account w a (Undoes moves (suc back)) =
    if is_making w.store.journal.pending then record { now = a.former; former = a.former } else a
account w a (Updates to zero) = a
account w a (Updates to (suc moves)) = record { now = Brings to ∷ a.now; former = a.now }
account w a (Fails to zero zero) = a
account w a (Fails to (suc moves) zero) = record { now = Brings to ∷ a.now; former = a.now }
account w a (Fails to moves (suc back)) = a
account w a (Starts boot deletes) =
    let turn = Boots (deletes || is_of_next (changes_of w.store.journal.pending)) in
    record { now = turn ∷ a.now; former = turn ∷ a.former }
account w a (Firmware changes) =
    let journal = w.store.journal in
    record {
      now = Meddles (that_stay (due w.boot journal.pending) changes) ∷ a.now;
      former = Meddles (that_stay (due w.boot (turned journal).pending) changes) ∷ a.former;
    }

abbrev pub accounts : World → Account → List Event → Account
accounts w a [] = a
accounts w a (event ∷ events) = accounts (happens w event) (account w a event) events

-- the turns that happened, of which the newest is the first
abbrev pub happened : World → List Event → List Turn
happened w events = (accounts w (record { now = []; former = [] }) events).now

-- ---- identities

abbrev pub is_known : List (List ℕ) → List ℕ → Bool
is_known known boot = list_any (same_name boot) known

-- the identity under which what is to be done began is known
abbrev pub IsBegunKnown : List (List ℕ) → Option PendingParts → Type 0
IsBegunKnown known None = Unit {0}
IsBegunKnown known (Some (Makes former changes began)) = is_known known began ≡ true
IsBegunKnown known (Some (TakesBack changes began)) = is_known known began ≡ true

-- the machine's identity and that in its journal are known
pub record IsKnown (known : List (List ℕ)) (w : World) : Type 0 where
  pub boot : is_known known w.boot ≡ true
  pub journal : IsBegunKnown known w.store.journal.pending

-- each start has an identity that wasn't known before
abbrev pub StartsAreNew : List (List ℕ) → List Event → Type 0
StartsAreNew known [] = Unit {0}
StartsAreNew known (Starts boot deletes ∷ events) = (is_known known boot ≡ false) × StartsAreNew (boot ∷ known) events
StartsAreNew known (Settles moves ∷ events) = StartsAreNew known events
StartsAreNew known (Undoes moves back ∷ events) = StartsAreNew known events
StartsAreNew known (Updates to moves ∷ events) = StartsAreNew known events
StartsAreNew known (Fails to moves back ∷ events) = StartsAreNew known events
StartsAreNew known (Firmware changes ∷ events) = StartsAreNew known events
