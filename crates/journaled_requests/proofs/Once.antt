-- Updates by requests, whatever firmware did between them: BootKeepState, with the next number and the outcomes, goes on from each to the
-- next, and so the numbers that are applied do.
use Rattle.std.proofs.Common.{◌≡◌, inl, ℕ, ◌-◌, false, List, [], ◌∷◌, ◌++◌, refl, sym, ap, subst, ◌∙◌}
use Rattle.std.specs.FinMap.{get}
use Rattle.uefi_vars.specs.Vars.{Variables}
use Rattle.uefi_vars.specs.NameChanges.{after_each}
use Rattle.uefi_vars.specs.BootChange.{is_boot_name, changes_from}
use Rattle.boot_requests.specs.Changes.{numbers_in, numbers_from}
use Rattle.boot_requests.specs.Keeper.{AreRead}
use Rattle.boot_requests.specs.Marks.{mark_of, mark_in}
use Rattle.boot_requests.specs.Run.{run_followed_by, gap_at, history, state_at}
use Rattle.boot_requests.specs.Seen.{Seen}
use Rattle.uefi_vars.specs.Name.{keep_text}
use Rattle.boot_requests.specs.State.{State, MarkParts, IsState}
use Rattle.boot_requests.specs.StoredState.{HasMark}
use Rattle.boot_requests.proofs.Variables.Images.{one_mark}
use Rattle.boot_requests.proofs.WholeRuns.Histories.{history_numbers}
use Rattle.boot_requests.proofs.WholeRuns.NextNumbers.{gap_of_none, state_number}
use Rattle.boot_journal.specs.Attributes.{data_of}
use Rattle.boot_journal.specs.Changes.{made}
use Rattle.boot_journal.specs.Events.{without_next}
use Rattle.journaled_requests.specs.Once.{Update, state_after, IsUpdateFrom, AreUpdatesIn, GoOn, changes_by, run_of, AreAppliedOnce}
use Rattle.boot_journal.specs.Store.{brought}
use Rattle.boot_journal.specs.Turns as Turns
use Rattle.boot_journal.specs.Turns.{after_turn, after_turns}
use Rattle.journaled_requests.proofs.AppliedTurns.{mark_over}
use Rattle.boot_journal.proofs.WithAttributes.{get_elsewhere}
use Rattle.boot_journal.proofs.Boot.{at_other}
use Rattle.boot_journal.proofs.Making.{state_of_seen}
use Rattle.journaled_requests.proofs.Restarts.{after_restart}

-- ---- the next number and the outcomes

-- the variables have a next number and outcomes, with which the updates go on
pub record Marked (vars : Variables) (first : MarkParts) (updates : List Update) : Type 0 where
  pub last : MarkParts
  pub has : HasMark vars last.next_number last.kept
  pub on : GoOn first updates last

stays : (v w : Variables) (first : MarkParts) (updates : List Update) → get w keep_text ≡ get v keep_text → Marked v first updates → Marked w first updates
stays v w first updates same marked = record {
  last = marked.last;
  has = mark_over v w marked.last.next_number marked.last.kept same marked.has;
  on = marked.on;
}

module _ (leads : (start : State) (run : List Seen) → IsState start → AreRead run → IsState (state_at start run))
    (no_keep : is_boot_name keep_text ≡ false) where
  brings : (vars to : Variables) (first : MarkParts) (update : Update) (earlier : List Update) → IsUpdateFrom vars update to → Marked vars first earlier →
      Marked (brought vars to) first (update ∷ earlier)
  brings vars to first update earlier from marked =
      let opened = mark_over (data_of vars) vars update.before.next_number update.before.kept (sym (get_elsewhere vars keep_text no_keep)) from.opens.mark in
      let same = one_mark vars update.before.next_number marked.last.next_number update.before.kept marked.last.kept opened marked.has in
      let is = leads update.before (run_followed_by [] update.seen) from.opens.is from.by.read in
      let image = from.by.leads update.before from.opens in record {
        last = mark_in (state_after update);
        has = mark_over (data_of to) (brought vars to) (state_after update).next_number (state_after update).kept
            (state_of_seen (get to keep_text) (made (changes_from vars to) vars) ∙ sym (get_elsewhere to keep_text no_keep))
            (inl (record { is = is.mark; stored = image.mark }));
        on = (subst (GoOn first earlier) (sym (λ i. mark_of (same.0 i) (same.1 i))) marked.on, refl);
      }

  pub all_marked : (vars : Variables) (ts : List Turns.Turn) (first : MarkParts) (updates : List Update) → HasMark vars first.next_number first.kept →
      AreUpdatesIn vars ts updates → Marked (after_turns vars ts) first updates
  all_marked vars [] first updates has are = record { last = first; has = has; on = subst (λ (us : List Update). GoOn first us first) (sym are) refl }
  all_marked vars (Turns.Brings to ∷ before) first [] has are = elim are [ ]
  all_marked vars (Turns.Brings to ∷ before) first (update ∷ earlier) has are =
      brings (after_turns vars before) to first update earlier are.0 (all_marked vars before first earlier has are.1)
  all_marked vars (Turns.Boots deletes ∷ before) first updates has are =
      stays (after_turns vars before) (without_next deletes (after_turns vars before)) first updates
      (at_other deletes (after_turns vars before) keep_text refl)
      (all_marked vars before first updates has are)
  all_marked vars (Turns.Meddles changes ∷ before) first updates has are =
      let was = after_turns vars before in
      stays was (after_turn (Turns.Meddles changes) was) first updates (state_of_seen (get was keep_text) (after_each was changes))
      (all_marked vars before first updates has are)

-- ---- each number once

-- what they did is what their run does
record IsRun (first : ℕ) (updates : List Update) (last : ℕ) : Type 0 where
  gap : last ≡ gap_at first (run_of updates)
  changes : changes_by updates ≡ history first (run_of updates)

is_run : (first last : MarkParts) (updates : List Update) → GoOn first updates last → IsRun first.next_number updates last.next_number
is_run first last [] on = record { gap = ap (λ (m : MarkParts). m.next_number) on ∙ sym (gap_of_none first.next_number); changes = refl }
is_run first last (update ∷ before) on =
    let earlier = is_run first (mark_in update.before) before on.0 in
    let run = run_followed_by [] update.seen in
    let both = after_restart first.next_number (run_of before) update.seen in record {
      gap = ap (λ (m : MarkParts). m.next_number) on.1 ∙ state_number update.before run ∙ ap (λ n. gap_at n run) earlier.gap ∙ sym both.gap;
      changes = (λ i. earlier.changes i ++ history (earlier.gap i) run) ∙ sym both.changes;
    }

pub all_once : (first last : MarkParts) (updates : List Update) → GoOn first updates last → AreAppliedOnce first last updates
all_once first last updates on =
    let is = is_run first last updates on in record {
      on = on;
      gap = is.gap;
      changes = is.changes;
      numbers =
          ap numbers_in is.changes ∙ history_numbers first.next_number (run_of updates)
          ∙ ap (λ n. numbers_from first.next_number (n - first.next_number)) (sym is.gap);
    }
