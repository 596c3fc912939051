-- What exchanges lead to: by induction over them, what may be there between two of them is what a cut leaves in the command.
use Rattle.std.proofs.Common.{◌≡◌, ◌⊎◌, inl, ⊎_elim, ℕ, Option, Some, None, Result, Ok, Err, List, [], ◌∷◌, ◌++◌, Vec, refl, sym, subst, ◌∙◌}
use Rattle.std.specs.Global.{Global}
use Rattle.std.specs.List.{AllByRecursion}
use Rattle.uefi_vars.specs.Vars.{Variables}
use Rattle.boot_requests.specs.declared.answer.Answer.{Answer as Reply}
use Rattle.boot_requests.specs.declared.event.Event.{Event}
use Rattle.boot_journal.specs.declared.machine.CommandError.{CommandError}
use Rattle.boot_journal.specs.declared.machine.CommandError.TheVariants as command
use Rattle.boot_journal.specs.declared.machine.UpdateError.TheVariants as update
use Rattle.journaled_requests.specs.declared.requests.RunFault.{RunFault}
use Rattle.journaled_requests.specs.Calls.{CallLeads, Runs}
use Rattle.boot_journal.specs.Commands.{IsCommanding}
use Rattle.boot_journal.specs.Events.{world}
use Rattle.boot_journal.specs.Journal.{PendingParts, Makes, TakesBack}
use Rattle.boot_journal.specs.Moves.{cut_settling_by, cut_undoing_by}
use Rattle.journaled_requests.specs.Requests.{IsAnswered}
use Rattle.boot_journal.specs.Store.{Store}
use Rattle.boot_moves.specs.declared.parts.Answer.{Answer}
use Rattle.boot_moves.specs.declared.parts.Answer.TheVariants.{Done, Refused, Perhaps}
use Rattle.boot_moves.specs.Deeds.{Act, Deed, deed, did, after, after_all, past, told_then}
use Rattle.boot_moves.specs.Ending.{LeadsTo, Ends, with_asked}
use Rattle.boot_moves.specs.Exchanges.{Exchange, Asks, Ended, Fails, Tells, ExchangeLeads, Exchanged, value_after, AreExchanges, IsNew, MayBeThere, ending_of}
use Rattle.boot_moves.specs.Parts.{Begun, MovesParts, told_of}
use Rattle.boot_moves.proofs.Deeds.{after_append, past_append}

-- ---- before the first move

settling_none : (pending : Option PendingParts) (boot : List ℕ) (s : Store) → cut_settling_by pending boot 0 s ≡ s
settling_none None boot s = refl
settling_none (Some pending) boot s = refl

undoing_none : (pending : Option PendingParts) (boot : List ℕ) (s : Store) → cut_undoing_by pending boot 0 0 s ≡ s
undoing_none None boot s = refl
undoing_none (Some (Makes former changes began)) boot s = settling_none s.journal.pending boot s
undoing_none (Some (TakesBack changes began)) boot s = settling_none s.journal.pending boot s

commanding_none : (Leads : Variables → Variables → Type 0) (boot : List ℕ) (s : Store) → IsCommanding Leads boot s s
commanding_none Leads boot s = inl (0, 0, sym (undoing_none s.journal.pending boot s))

-- ---- after the last one

all_last : (P : Store → Type 0) (xs : List Store) (x : Store) → AllByRecursion P (xs ++ x ∷ []) → P x
all_last P [] x all = all.0
all_last P (y ∷ xs) x all = all_last P xs x all.1

asked_is : (P : Store → Type 0) (ds : List Deed) (act : Act) (s : Store) → AllByRecursion P (past (with_asked ds act) s) → P (did act (after_all ds s))
asked_is P ds act s all =
    all_last P (past ds s) (did act (after_all ds s)) (subst (AllByRecursion P) (past_append ds (deed act (Perhaps 0) ∷ []) s) all)

-- ---- one exchange more

-- what may be there is what a cut leaves in the command
pub record Holds {R A : Type 0} (Leads : R → Variables → Variables → A → Type 0) (m v : MovesParts R) : Type 0 where
  pub begun : v.begun ≡ m.begun
  pub left : IsCommanding (LeadsTo (Leads m.begun.run)) m.begun.boot m.begun.first (after_all v.trace m.begun.first)
  pub asked : (act : Act) → v.asked ≡ Some act →
      IsCommanding (LeadsTo (Leads m.begun.run)) m.begun.boot m.begun.first (did act (after_all v.trace m.begun.first))

module _ {R A F : Type 0} (Leads : R → Variables → Variables → A → Type 0) (Refuses : R → Variables → F → Type 0) (m : MovesParts R) where
  abbrev Commanding : Store → Type 0
  Commanding s = IsCommanding (LeadsTo (Leads m.begun.run)) m.begun.boot m.begun.first s

  holds_new : IsNew m → Holds Leads m m
  holds_new new = record {
    begun = refl;
    left = subst (λ (ds : List Deed). Commanding (after_all ds m.begun.first)) (sym new.trace)
        (commanding_none (LeadsTo (Leads m.begun.run)) m.begun.boot m.begun.first);
    asked = λ act is. let none = new.asked in absurd (cc);
  }

  -- the same moves
  left_as : (u v : MovesParts R) → Holds Leads m u → v.trace ≡ u.trace → Commanding (after_all v.trace m.begun.first)
  left_as u v held same = subst (λ (ds : List Deed). Commanding (after_all ds m.begun.first)) (sym same) held.left

  holds_asked : (u v : MovesParts R) → Holds Leads m u → ExchangeLeads Leads Refuses u Asks v → Holds Leads m v
  holds_asked u v held leads =
      let act = leads.2 in
      let are : AllByRecursion Commanding (past (with_asked u.trace act) m.begun.first) =
      subst (λ (b : Begun R). AllByRecursion (IsCommanding (LeadsTo (Leads b.run)) b.boot b.first) (past (with_asked u.trace act) b.first))
      held.begun leads.4.moves in
      let would : Commanding (did act (after_all v.trace m.begun.first)) =
      subst (λ (ds : List Deed). Commanding (did act (after_all ds m.begun.first))) (sym leads.1)
      (asked_is Commanding u.trace act m.begun.first are) in
      let is_act = leads.3 in
      record {
        begun = leads.0 ∙ held.begun;
        left = left_as u v held leads.1;
        asked = λ other is.
            let same : act ≡ other = cc in
            subst (λ (a : Act). Commanding (did a (after_all v.trace m.begun.first))) same would;
      }

  holds_ended : (u v : MovesParts R) (result : Result A (CommandError ℕ F)) → Holds Leads m u
      → ExchangeLeads Leads Refuses u (Ended result) v → Holds Leads m v
  holds_ended u v result held leads = record {
    begun = leads.0 ∙ held.begun;
    left = left_as u v held leads.1;
    asked = λ act is. let none = leads.2 in absurd (cc);
  }

  -- what a move leaves, of which this became
  left_by : (answer : Answer) (act : Act) (s : Store) → Commanding s → Commanding (did act s) → Commanding (after (deed act answer) s)
  left_by Done act s before made = made
  left_by (Refused reason) act s before made = before
  left_by (Perhaps reason) act s before made = made

  left_told : (u : MovesParts R) (asked : Option Act) (answer : Answer) → Holds Leads m u → u.asked ≡ asked
      → Commanding (after_all (told_then u.trace asked answer) m.begun.first)
  left_told u None answer held is = held.left
  left_told u (Some act) answer held is =
      subst Commanding (sym (after_append u.trace (deed act answer ∷ []) m.begun.first))
      (left_by answer act (after_all u.trace m.begun.first) held.left (held.asked act is))

  holds_told : (u : MovesParts R) (answer : Answer) → Holds Leads m u → Holds Leads m (told_of answer u)
  holds_told u answer held = record {
    begun = held.begun;
    left = left_told u u.asked answer held refl;
    asked = λ act is. absurd (cc);
  }

  holds_after : (u v : MovesParts R) (exchange : Exchange A F) → Holds Leads m u → ExchangeLeads Leads Refuses u exchange v → Holds Leads m v
  holds_after u v Asks held leads = holds_asked u v held leads
  holds_after u v (Ended result) held leads = holds_ended u v result held leads
  holds_after u v Fails held leads = subst (Holds Leads m) (sym leads) held
  holds_after u v (Tells answer) held leads = subst (Holds Leads m) (sym leads) (holds_told u answer held)

  pub holds_all : (exchanges : List (Exchanged R A F)) → IsNew m → AreExchanges Leads Refuses m exchanges → Holds Leads m (value_after m exchanges)
  holds_all [] new are = holds_new new
  holds_all (exchanged ∷ before) new are =
      holds_after (value_after m before) exchanged.after exchanged.exchange (holds_all before new are.1) are.0

  pub held_there : (v : MovesParts R) (s : Store) → Holds Leads m v → MayBeThere v s → Commanding s
  held_there v s held there =
      let of_first : (s ≡ after_all v.trace m.begun.first) ⊎ ((act : Act) × (v.asked ≡ Some act) × (s ≡ did act (after_all v.trace m.begun.first))) =
      subst (λ (b : Begun R). (s ≡ after_all v.trace b.first) ⊎ ((act : Act) × (v.asked ≡ Some act) × (s ≡ did act (after_all v.trace b.first))))
      held.begun there in
      ⊎_elim (λ is. subst Commanding (sym is) held.left) (λ asked. subst Commanding (sym asked.2) (held.asked asked.0 asked.1)) of_first

-- ---- a command that ended

pub call_of : (events : List Event) (Refuses : Variables → RunFault → Type 0) (boot : List ℕ) (first last : Store)
    (ended : Result (Vec Reply Global) (CommandError ℕ RunFault))
    → Ends (λ from to answers. IsAnswered events from to answers.items) Refuses boot first last ended
    → CallLeads (world boot first) (Runs events (ending_of ended)) (world boot last)
call_of events Refuses boot first last (Ok answers) ends =
    (refl, ends.done.2, ends.done.0, (answers, ends.done.1), ends.done.3)
call_of events Refuses boot first last (Err (command.Settling error)) ends = (refl, ends.not_run)
call_of events Refuses boot first last (Err command.OutOfMemory) ends = (refl, ends.left, ends.unchanged)
call_of events Refuses boot first last (Err (command.Run fault)) ends = (refl, ends.left, ends.unchanged)
call_of events Refuses boot first last (Err (command.Updating update.OutOfMemory)) ends = (refl, ends.left, ends.unchanged)
call_of events Refuses boot first last (Err (command.Updating (update.TakenBack cause))) ends = (refl, ends.left, ends.unchanged)
call_of events Refuses boot first last (Err (command.Updating (update.Unsettled cause second))) ends = (refl, ends.left)
