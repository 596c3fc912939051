-- Why single steps of profiles are refused, and what edits are to them.
use Rattle.std.proofs.Common.{◌≡◌, ◌≢◌, ℕ, ◌+◌, ◌<◌, ◌≤◌, Bor, true, List, [], ◌∷◌, ◌++◌, drop, length, Option, Some, None, refl, sym, ap, subst, ◌∙◌, inl, inr, append_assoc}
use Rattle.std.proofs.lemmas.Bool.{true≢false}
use Rattle.uefi_option.specs.LoadOption.{OptionParts, SpellsOption}
use Rattle.uefi_option.specs.declared.fault.OptionFault.{OptionFault}
use Rattle.uefi_option.specs.Fault.{IsFirstFault as IsFirstOptionFault}
use Rattle.uefi_vars.specs.AtRisk.{AreThose}
use Rattle.uefi_vars.specs.Order.{order_max, stored_order}
use Rattle.uefi_vars.specs.Vars.{Variables, data_max, entry_of}
use Rattle.boot_journal.specs.Cause.{IfRefused}
use Rattle.boot_journal.specs.declared.machine.CallError.{CallError}
use Rattle.boot_journal.specs.declared.machine.CallError.TheVariants.{OutOfMemory, Refused}
use Rattle.boot_edits.specs.Addition.{IsAdditionDone, IsAdditionFault}
use Rattle.boot_edits.specs.Edit.{IsRemoved, IsRemoveFault}
use Rattle.boot_edits.specs.Parts.{parts_of, Becomes, entries_with}
use Rattle.boot_edits.specs.declared.addition.Addition.{Addition}
use Rattle.boot_edits.specs.declared.addition.Position.TheVariants.{Last}
use Rattle.boot_edits.specs.declared.answer.EditAnswer.{EditAnswer}
use Rattle.boot_edits.specs.declared.answer.EditAnswer.TheVariants.{Done, Added, Present}
use Rattle.boot_edits.specs.declared.fault.EditFault.{EditFault}
use Rattle.boot_edits.specs.declared.fault.EditFault.TheVariants as edit
use Rattle.boot_profiles.specs.declared.fault.EntryFault.{EntryFault}
use Rattle.boot_profiles.specs.declared.fault.EntryFault.TheVariants as entry
use Rattle.boot_profiles.specs.declared.fault.NameFault.{NameFault}
use Rattle.boot_profiles.specs.declared.fault.ProfileFault.{ProfileFault}
use Rattle.boot_profiles.specs.declared.fault.ProfileFault.TheVariants as profile
use Rattle.boot_profiles.specs.declared.profile.PresentEntry.{PresentEntry}
use Rattle.boot_profiles.specs.declared.profile.Profile.{Profile}
use Rattle.boot_profiles.specs.declared.profile.ProfileEntry.{ProfileEntry}
use Rattle.boot_profiles.specs.declared.profile.ProfileOrder.{ProfileOrder}
use Rattle.boot_profiles.specs.declared.profile.ProfileOrder.TheVariants as order
use Rattle.boot_profiles.specs.Applied.{AreSteps, IsStepsFault, IsStepFault, IsOrdered, IsProfileFault}
use Rattle.boot_profiles.specs.Described.{HasDescription, IsDescribed, IsNumberOf, IsUnknown, IsNamed}
use Rattle.boot_profiles.specs.Entry.{wanted_bytes, IsNew, IsTakenOut, IsNewFault, IsPresentFault, IsTakenOutFault, IsAbsentFault}
use Rattle.boot_profiles.specs.Order.{AreNamed, IsNameFault, IsNamesFault, IsListFault, IsOrderFault, IsNextFault}
use Rattle.boot_profiles.specs.Steps.{IfFault, IsNameRefusal, IsStepsRefusal, IsStepAt, IsStepFaultAt, IsNameAt, IsNameFaultAt, IsErrorAt, IsNameErrorAt, IsNextErrorOf, IsOrderedFault}

-- what an edit that is refused is to an entry
abbrev pub IsEntryErrorOf : EditFault → CallError EntryFault → Type 0
IsEntryErrorOf fault error = IfRefused error (λ f. (f ≡ entry.Edit fault) × (fault ≢ edit.OutOfMemory))

-- ---- entries that are taken out

pub none_out : (vars to : Variables) (numbers : List ℕ) → numbers ≡ [] → to ≡ vars → IsTakenOut vars numbers to
none_out vars to [] none same = same
none_out vars to (n ∷ numbers) none same = cc

pub some_out : (vars to : Variables) (numbers : List ℕ) → (numbers ≡ [] → ⊥) → IsRemoved vars numbers to → IsTakenOut vars numbers to
some_out vars to [] some removed = absurd (some refl)
some_out vars to (n ∷ numbers) some removed = removed

pub some_out_fault : (vars : Variables) (numbers : List ℕ) (f : EditFault) → (numbers ≡ [] → ⊥) → IsRemoveFault vars numbers f → IsTakenOutFault vars numbers f
some_out_fault vars [] f some why = absurd (some refl)
some_out_fault vars (n ∷ numbers) f some why = why

pub out_refused : (vars : Variables) (d numbers : List ℕ) → AreThose (IsNumberOf vars d) numbers → (fault : EditFault) →
    IfFault (IsTakenOutFault vars numbers) fault → (error : CallError EntryFault) → IsEntryErrorOf fault error → IfRefused error (IsAbsentFault vars d)
out_refused vars d numbers those fault why OutOfMemory is = tt
out_refused vars d numbers those fault why (Refused f) is =
    subst (λ (g : EntryFault). IsAbsentFault vars d g) (sym is.0) (numbers, those, why is.1)

-- ---- entries that are to be there

abbrev new_of : Bor (List ℕ) → Addition
new_of bytes = record { entry = None; option = bytes; position = Last; again = true }

pub added_new : (vars to : Variables) (bytes : Bor (List ℕ)) (answer : EditAnswer) → IsAdditionDone vars (new_of bytes) to answer → IsNew vars bytes.now to
added_new vars to bytes Done done = absurd done
added_new vars to bytes (Present n) done = absurd (true≢false done.0.once)
added_new vars to bytes (Added n) done =
    let place = done.added.placed in
    record {
      number = n;
      free = done.new;
      fits = done.added.fits;
      order = place.1.order;
      has_order = place.1.old;
      has_room = subst (λ (l : List ℕ). length l ≤ order_max) place.1.is place.1.fits;
      becomes = subst (λ (o : Option (List ℕ)). Becomes vars (record (parts_of vars) { entries = entries_with n bytes.now (entry_of vars); order = o }) to)
          (place.2 ∙ ap stored_order place.1.is) done.added.becomes;
    }

-- a fault leaves no option
abbrev pub LeavesNone : Type 0
LeavesNone = (bytes : List ℕ) (f : OptionFault) (o : OptionParts) → IsFirstOptionFault bytes f → SpellsOption bytes o → ⊥

pub new_fault : LeavesNone → (vars : Variables) (bytes : Bor (List ℕ)) (o : OptionParts) → SpellsOption bytes.now o → (f : EditFault) →
    IsAdditionFault vars (new_of bytes) f → IsNewFault vars bytes.now f
new_fault none vars bytes o spelled f (inl bad) = absurd (none bytes.now bad.0 o bad.2 spelled)
new_fault none vars bytes o spelled f (inr (wanted, inl number)) = inl number
new_fault none vars bytes o spelled f (inr (wanted, inr room)) = inr (room.number, room.new, room.is)

pub described_at : (vars : Variables) (d : List ℕ) (number : ℕ) (there : List ℕ) → entry_of vars number ≡ Some there → IsNamed vars d number →
    IsDescribed vars d number there
described_at vars d number there stored named =
    let same : named.here.0 ≡ there = same_some (sym named.here.1.stored ∙ stored) in
    subst (λ (b : List ℕ). IsDescribed vars d number b) same named.here.1
  where
    same_some : Some named.here.0 ≡ Some there → named.here.0 ≡ there
    same_some e = cc e

module _ (vars : Variables) (d : List ℕ) (e : PresentEntry) (own : HasDescription e.option.items d) where
  pub new_refused : IsUnknown vars d → (bytes : List ℕ) → bytes ≡ wanted_bytes e e.option.items → (fault : EditFault) →
      IfFault (IsNewFault vars bytes) fault → (error : CallError EntryFault) → IsEntryErrorOf fault error → IfRefused error (IsPresentFault vars d e)
  new_refused unknown bytes same fault why OutOfMemory is = tt
  new_refused unknown bytes same fault why (Refused f) is =
      subst (λ (g : EntryFault). IsPresentFault vars d e g) (sym is.0)
      (inr (own, inl (unknown, subst (λ (b : List ℕ). IsNewFault vars b fault) same (why is.1))))

  pub replace_refused : (number : ℕ) (there : List ℕ) → entry_of vars number ≡ Some there → IsNamed vars d number → (bytes : List ℕ) →
      bytes ≡ wanted_bytes e there → (fault : EditFault) → IfFault (λ g. (g ≡ edit.OptionTooLong) × (data_max < length bytes)) fault →
      (error : CallError EntryFault) → IsEntryErrorOf fault error → IfRefused error (IsPresentFault vars d e)
  replace_refused number there stored named bytes same fault why OutOfMemory is = tt
  replace_refused number there stored named bytes same fault why (Refused f) is =
      subst (λ (g : EntryFault). IsPresentFault vars d e g) (sym is.0)
      (inr (
        own,
        inr (record {
          number = number;
          bytes = there;
          here = described_at vars d number there stored named;
          alone = named.alone;
          is = (why is.1).0;
          long = subst (λ (b : List ℕ). data_max < length b) same (why is.1).1;
        }),
      ))

-- ---- entries one after the other

pub step_error_at : (vars : Variables) (entries : List ProfileEntry) (place : ℕ) (e : ProfileEntry) (rest : List ProfileEntry) → drop place entries ≡ e ∷ rest →
    (error : CallError EntryFault) → IfRefused error (IsStepFault vars e rest) → (to : CallError ProfileFault) → IsErrorAt place error to →
    IfRefused to (IsStepFaultAt vars entries place)
step_error_at vars entries place e rest here OutOfMemory why to is = subst (λ (t : CallError ProfileFault). IfRefused t (IsStepFaultAt vars entries place)) (sym is) tt
step_error_at vars entries place e rest here (Refused f) why to is =
    subst (λ (t : CallError ProfileFault). IfRefused t (IsStepFaultAt vars entries place)) (sym is)
    (record { entry = e; rest = rest; here = here; fault = f; is = refl; why = why })

-- what is left to do, after some of the entries
pub record GoesOn (entries : List ProfileEntry) (from : Variables) (place : ℕ) (now : Variables) : Type 0 where
  pub done : (to : Variables) → AreSteps (drop place entries) now to → AreSteps entries from to
  pub refused : (at : ℕ) (f : EntryFault) → IsStepsFault place (drop place entries) now at f → IsStepsFault 0 entries from at f

module _ (entries : List ProfileEntry) (from : Variables) (place : ℕ) (now : Variables) (before : GoesOn entries from place now) where
  pub one_more : (behind : drop (place + 1) entries ≡ drop 1 (drop place entries)) (to : Variables) → IsStepAt now entries place to → GoesOn entries from (place + 1) to
  one_more behind to step =
      let rest : drop (place + 1) entries ≡ step.rest = behind ∙ ap (λ (l : List ProfileEntry). drop 1 l) step.here in
      record {
        done = λ last steps.
            before.done last (subst (λ (l : List ProfileEntry). AreSteps l now last) (sym step.here)
            (to, step.made, subst (λ (l : List ProfileEntry). AreSteps l to last) rest steps));
        refused = λ at f why.
            before.refused at f (subst (λ (l : List ProfileEntry). IsStepsFault place l now at f) (sym step.here)
            (inr (to, step.made, subst (λ (l : List ProfileEntry). IsStepsFault (place + 1) l to at f) rest why)));
      }

  pub not_more : (error : CallError ProfileFault) → IfRefused error (IsStepFaultAt now entries place) → IfRefused error (IsStepsRefusal entries from)
  not_more OutOfMemory why = tt
  not_more (Refused f) why =
      subst (λ (g : ProfileFault). IsStepsRefusal entries from g) (sym why.is)
      (before.refused place why.fault (subst (λ (l : List ProfileEntry). IsStepsFault place l now place why.fault) (sym why.here) (inl (refl, why.why))))

-- ---- names one after the other

pub name_error_at : (vars : Variables) (names : List (List ℕ)) (place : ℕ) (name : List ℕ) (rest : List (List ℕ)) → drop place names ≡ name ∷ rest →
    (error : CallError NameFault) → IfRefused error (IsNameFault vars name) → (to : CallError ProfileFault) → IsNameErrorAt place error to →
    IfRefused to (IsNameFaultAt vars names place)
name_error_at vars names place name rest here OutOfMemory why to is =
    subst (λ (t : CallError ProfileFault). IfRefused t (IsNameFaultAt vars names place)) (sym is) tt
name_error_at vars names place name rest here (Refused f) why to is =
    subst (λ (t : CallError ProfileFault). IfRefused t (IsNameFaultAt vars names place)) (sym is)
    (record { name = name; rest = rest; here = here; fault = f; is = refl; why = why })

pub record NamesGoOn (vars : Variables) (names : List (List ℕ)) (place : ℕ) (numbers : List ℕ) : Type 0 where
  pub named : (rest : List ℕ) → AreNamed vars (drop place names) rest → AreNamed vars names (numbers ++ rest)
  pub refused : (at : ℕ) (f : NameFault) → IsNamesFault vars place (drop place names) at f → IsNamesFault vars 0 names at f

module _ (vars : Variables) (names : List (List ℕ)) (place : ℕ) (numbers : List ℕ) (before : NamesGoOn vars names place numbers) where
  pub one_name_more : (behind : drop (place + 1) names ≡ drop 1 (drop place names)) (number : ℕ) → IsNameAt vars names place number →
      NamesGoOn vars names (place + 1) (numbers ++ number ∷ [])
  one_name_more behind number at =
      let left : drop (place + 1) names ≡ at.rest = behind ∙ ap (λ (l : List (List ℕ)). drop 1 l) at.here in
      record {
        named = λ rest named.
            subst (λ (l : List ℕ). AreNamed vars names l) (sym (append_assoc numbers (number ∷ []) rest))
            (before.named (number ∷ rest) (subst (λ (l : List (List ℕ)). AreNamed vars l (number ∷ rest)) (sym at.here)
            (at.named, subst (λ (l : List (List ℕ)). AreNamed vars l rest) left named)));
        refused = λ there f why.
            before.refused there f (subst (λ (l : List (List ℕ)). IsNamesFault vars place l there f) (sym at.here)
            (inr ((number, at.named), subst (λ (l : List (List ℕ)). IsNamesFault vars (place + 1) l there f) left why)));
      }

  pub not_named : (error : CallError ProfileFault) → IfRefused error (IsNameFaultAt vars names place) → IfRefused error (IsNameRefusal vars names)
  not_named OutOfMemory why = tt
  not_named (Refused f) why =
      subst (λ (g : ProfileFault). IsNameRefusal vars names g) (sym why.is)
      (before.refused place why.fault (subst (λ (l : List (List ℕ)). IsNamesFault vars place l place why.fault) (sym why.here) (inl (refl, why.why))))

-- ---- BootOrder

module _ (vars : Variables) (names : List (List ℕ)) (IsFault : List ℕ → EditFault → Type 0) where
  pub unnamed_refused : (error : CallError ProfileFault) → IfRefused error (IsNameRefusal vars names) → IfRefused error (IsListFault vars names IsFault)
  unnamed_refused OutOfMemory why = tt
  unnamed_refused (Refused (profile.Entry place f)) why = absurd why
  unnamed_refused (Refused (profile.OrderName place f)) why = why
  unnamed_refused (Refused (profile.Order f)) why = absurd why
  unnamed_refused (Refused (profile.Next f)) why = absurd why

  pub put_refused : (numbers : List ℕ) → AreNamed vars names numbers → (fault : EditFault) → IfFault (IsFault numbers) fault → (error : CallError ProfileFault) →
      IfRefused error (λ f. (f ≡ profile.Order fault) × (fault ≢ edit.OutOfMemory)) → IfRefused error (IsListFault vars names IsFault)
  put_refused numbers named fault why OutOfMemory is = tt
  put_refused numbers named fault why (Refused f) is =
      subst (λ (g : ProfileFault). IsListFault vars names IsFault g) (sym is.0) (numbers, named, why is.1)

-- ---- whole profiles

module _ (p : Profile) (from : Variables) where
  pub entries_refused : (error : CallError ProfileFault) → IfRefused error (IsStepsRefusal p.entries.items from) → IfRefused error (IsOrderedFault p from)
  entries_refused OutOfMemory why = tt
  entries_refused (Refused (profile.Entry place f)) why = why
  entries_refused (Refused (profile.OrderName place f)) why = absurd why
  entries_refused (Refused (profile.Order f)) why = absurd why
  entries_refused (Refused (profile.Next f)) why = absurd why

  no_entry_of : (vars : Variables) (o : ProfileOrder) (place : ℕ) (f : EntryFault) → IsOrderFault vars o (profile.Entry place f) → ⊥
  no_entry_of vars order.Kept place f why = why
  no_entry_of vars (order.First names) place f why = why
  no_entry_of vars (order.Only names) place f why = why

  no_next_of : (vars : Variables) (o : ProfileOrder) (f : NameFault) → IsOrderFault vars o (profile.Next f) → ⊥
  no_next_of vars order.Kept f why = why
  no_next_of vars (order.First names) f why = why
  no_next_of vars (order.Only names) f why = why

  pub order_refused : (between : Variables) → AreSteps p.entries.items from between → (error : CallError ProfileFault) →
      IfRefused error (IsOrderFault between p.order) → IfRefused error (IsOrderedFault p from)
  order_refused between made OutOfMemory why = tt
  order_refused between made (Refused (profile.Entry place f)) why = absurd (no_entry_of between p.order place f why)
  order_refused between made (Refused (profile.OrderName place f)) why = record { with_entries = between; entries = made; fault = why }
  order_refused between made (Refused (profile.Order f)) why = record { with_entries = between; entries = made; fault = why }
  order_refused between made (Refused (profile.Next f)) why = absurd (no_next_of between p.order f why)

  pub ordered_refused : (error : CallError ProfileFault) → IfRefused error (IsOrderedFault p from) → IfRefused error (IsProfileFault p from)
  ordered_refused OutOfMemory why = tt
  ordered_refused (Refused (profile.Entry place f)) why = why
  ordered_refused (Refused (profile.OrderName place f)) why = why
  ordered_refused (Refused (profile.Order f)) why = why
  ordered_refused (Refused (profile.Next f)) why = absurd why

  pub next_refused : (between : Variables) → IsOrdered p from between → (error : CallError NameFault) → IfRefused error (IsNextFault between p.next) →
      (to : CallError ProfileFault) → IsNextErrorOf error to → IfRefused to (IsProfileFault p from)
  next_refused between ordered OutOfMemory why to is = subst (λ (t : CallError ProfileFault). IfRefused t (IsProfileFault p from)) (sym is) tt
  next_refused between ordered (Refused f) why to is =
      subst (λ (t : CallError ProfileFault). IfRefused t (IsProfileFault p from)) (sym is)
      (record { with_order = between; ordered = ordered; fault = why })
