-- What runs of edits are to runs of trials.
use Rattle.std.proofs.Common.{◌≡◌, ℕ, List, [], ◌∷◌, Some, true, Bor, subst, inl, inr}
use Rattle.uefi_vars.specs.Vars.{Variables}
use Rattle.boot_journal.specs.Attributes.{data_of, HasNoData}
use Rattle.boot_journal.specs.Cause.{IfRefused}
use Rattle.boot_journal.specs.declared.machine.CallError.{CallError}
use Rattle.boot_journal.specs.declared.machine.CallError.TheVariants.{OutOfMemory, Refused}
use Rattle.boot_edits.specs.Edit.{IsReordered, IsReorderFault, IsFrontOrder, AreSwitched}
use Rattle.boot_edits.specs.Lists.{IsMissing, IsNoOption, IsFirstFault}
use Rattle.boot_edits.specs.Run.{IsRun, IsRunFault}
use Rattle.boot_edits.specs.declared.addition.Addition.{Addition}
use Rattle.boot_edits.specs.declared.answer.EditAnswer.{EditAnswer}
use Rattle.boot_edits.specs.declared.edit.Edit.TheVariants.{Add, First, Next, Activate}
use Rattle.boot_edits.specs.declared.run.EditRunFault.{EditRunFault}
use Rattle.boot_edits.specs.declared.run.EditRunFault.TheVariants as run
use Rattle.boot_trials.specs.declared.outcome.Outcome.TheVariants.{CameUp}
use Rattle.boot_trials.specs.Adding.{IsAddedTryFault, IsOfEntry}
use Rattle.boot_trials.specs.Outcome.{IsOutcome, current_of}
use Rattle.boot_trials.specs.Run.{IsKept, IsPutFirst, IsActivated, IsNext, IsFirstRefusal, IsActiveRefusal, IsNextRefusal, IsNoTrial}
use Rattle.boot_trials.specs.Run.{IsConfirmFault, IsConfirmingFault, IsTryFault}
use Rattle.boot_trials.specs.Trial.{TrialParts}

-- ---- single edits

module _ (entry : ℕ) (from : Variables) where
  pub kept_first : (numbers : Bor (List ℕ)) (to : Variables) (answer : EditAnswer) → IsRun (First numbers) from to answer →
      numbers.now ≡ entry ∷ [] → IsKept (IsPutFirst entry) from to
  kept_first numbers to answer done is = record {
    set = done.set;
    edited = subst (λ (l : List ℕ). IsReordered (data_of from) (IsMissing (data_of from)) l (IsFrontOrder (data_of from) l) done.set) is done.edited.1;
    is = done.is;
  }

  first_fault : (numbers : Bor (List ℕ)) (f : EditRunFault) → IsRunFault (First numbers) from f →
      numbers.now ≡ entry ∷ [] → IsFirstRefusal entry from f
  first_fault numbers (run.Edit f) why is =
      (why.0, subst (λ (l : List ℕ). IsReorderFault (IsMissing (data_of from)) l (IsFrontOrder (data_of from) l) f) is why.1)
  first_fault numbers run.NoData why is = why
  first_fault numbers run.TooLong why is =
      (why.set, subst (λ (l : List ℕ). IsReordered (data_of from) (IsMissing (data_of from)) l (IsFrontOrder (data_of from) l) why.set) is why.edited.1, why.long)

  pub first_refused : (numbers : Bor (List ℕ)) (error : CallError EditRunFault) → IfRefused error (IsRunFault (First numbers) from) →
      numbers.now ≡ entry ∷ [] → IfRefused error (IsFirstRefusal entry from)
  first_refused numbers OutOfMemory why is = tt
  first_refused numbers (Refused f) why is = first_fault numbers f why is

  pub kept_active : (numbers : Bor (List ℕ)) (to : Variables) (answer : EditAnswer) → IsRun (Activate numbers) from to answer →
      numbers.now ≡ entry ∷ [] → IsKept (IsActivated entry) from to
  kept_active numbers to answer done is = record {
    set = done.set;
    edited = subst (λ (l : List ℕ). AreSwitched (data_of from) true l done.set) is done.edited.1;
    is = done.is;
  }

  active_fault : (numbers : Bor (List ℕ)) (f : EditRunFault) → IsRunFault (Activate numbers) from f →
      numbers.now ≡ entry ∷ [] → IsActiveRefusal entry from f
  active_fault numbers (run.Edit f) why is = (why.0, subst (λ (l : List ℕ). IsFirstFault (IsNoOption (data_of from)) l f) is why.1)
  active_fault numbers run.NoData why is = why
  active_fault numbers run.TooLong why is = (why.set, subst (λ (l : List ℕ). AreSwitched (data_of from) true l why.set) is why.edited.1, why.long)

  pub active_refused : (numbers : Bor (List ℕ)) (error : CallError EditRunFault) → IfRefused error (IsRunFault (Activate numbers) from) →
      numbers.now ≡ entry ∷ [] → IfRefused error (IsActiveRefusal entry from)
  active_refused numbers OutOfMemory why is = tt
  active_refused numbers (Refused f) why is = active_fault numbers f why is

  pub kept_next : (to : Variables) (answer : EditAnswer) → IsRun (Next (Some entry)) from to answer → IsKept (IsNext entry) from to
  kept_next to answer done = record { set = done.set; edited = done.edited.1; is = done.is }

  next_fault : (f : EditRunFault) → IsRunFault (Next (Some entry)) from f → IsNextRefusal entry from f
  next_fault (run.Edit f) why = why
  next_fault run.NoData why = why
  next_fault run.TooLong why = (why.set, why.edited.1, why.long)

  pub next_refused : (error : CallError EditRunFault) → IfRefused error (IsRunFault (Next (Some entry)) from) →
      IfRefused error (IsNextRefusal entry from)
  next_refused OutOfMemory why = tt
  next_refused (Refused f) why = next_fault f why

  -- ---- a confirmation

  pub confirm_first : (error : CallError EditRunFault) → IfRefused error (IsFirstRefusal entry from) → IfRefused error (IsConfirmFault entry from)
  confirm_first OutOfMemory why = tt
  confirm_first (Refused f) why = inl why

  pub confirm_active : (between : Variables) → IsKept (IsPutFirst entry) from between → (error : CallError EditRunFault) →
      IfRefused error (IsActiveRefusal entry between) → IfRefused error (IsConfirmFault entry from)
  confirm_active between first OutOfMemory why = tt
  confirm_active between first (Refused f) why = inr (between, first, why)

  -- ---- the beginning of a trial

  pub try_no_data : (error : CallError EditRunFault) → IfRefused error (λ f. (f ≡ run.NoData) × HasNoData from) → IfRefused error (IsTryFault entry from)
  try_no_data OutOfMemory why = tt
  try_no_data (Refused f) why = inl why

  pub try_no_trial : (error : CallError EditRunFault) → IfRefused error (IsNoTrial (data_of from) entry) → IfRefused error (IsTryFault entry from)
  try_no_trial OutOfMemory why = tt
  try_no_trial (Refused f) why = inr (inl why)

  pub try_no_next : (error : CallError EditRunFault) → IfRefused error (IsNextRefusal entry from) → IfRefused error (IsTryFault entry from)
  try_no_next OutOfMemory why = tt
  try_no_next (Refused f) why = inr (inr why)

-- ---- what follows from a trial

module _ (trial : TrialParts) (start : List ℕ) (from : Variables) where
  pub confirming_no_data : (error : CallError EditRunFault) → IfRefused error (λ f. (f ≡ run.NoData) × HasNoData from) →
      IfRefused error (IsConfirmingFault trial start from)
  confirming_no_data OutOfMemory why = tt
  confirming_no_data (Refused f) why = inl why

  pub confirming_refused : IsOutcome trial start (current_of (data_of from)) (data_of from) CameUp → (error : CallError EditRunFault) →
      IfRefused error (IsConfirmFault trial.entry from) → IfRefused error (IsConfirmingFault trial start from)
  confirming_refused came OutOfMemory why = tt
  confirming_refused came (Refused f) why = inr (came, why)

-- ---- an entry that is added and tried

module _ (addition : Addition) (from between : Variables) (answer : EditAnswer) (entry : ℕ) (added : IsRun (Add addition) from between answer)
    (names : IsOfEntry answer entry) where
  pub added_untried : (error : CallError EditRunFault) → IfRefused error (IsTryFault entry between) → IfRefused error (IsAddedTryFault addition from)
  added_untried OutOfMemory why = tt
  added_untried (Refused f) why =
      inr (record { between = between; answer = answer; added = added; entry = entry; names = names; refused = why })

pub unadded : (addition : Addition) (from : Variables) (error : CallError EditRunFault) → IfRefused error (IsRunFault (Add addition) from) →
    IfRefused error (IsAddedTryFault addition from)
unadded addition from OutOfMemory why = tt
unadded addition from (Refused f) why = inl why
