-- Why variables aren't kept, or a stream isn't run over a set: there is one failure at most.
use Rattle.std.proofs.Common.{◌≡◌, ℕ, List, inl, inr, refl, ap, sym, subst, ◌∙◌}
use Rattle.uefi_vars.specs.declared.fault.SetFault.{SetFault}
use Rattle.uefi_vars.specs.Vars.{Variables}
use Rattle.uefi_vars.specs.Set.{SpellsSet}
use Rattle.uefi_vars.specs.Fault.{IsFirstFault}
use Rattle.uefi_vars.proofs.Sets.{same_set, fault_leaves_none}
use Rattle.boot_requests.specs.declared.fault.OpenFault.{OpenFault}
use Rattle.boot_requests.specs.declared.event.Event.{Event}
use Rattle.boot_requests.specs.State.{State}
use Rattle.boot_requests.specs.StoredState.{OpensAs, IsOpenFault}
use Rattle.boot_requests.specs.EventStream.{IsStream}
use Rattle.boot_requests.proofs.EventLists.Streams.{one_stream_fault, no_stream}
use Rattle.boot_requests.proofs.Answering.Happening.{one_open_fault}
use Rattle.bootkeep_c.specs.declared.failure.Failure.{Failure}
use Rattle.bootkeep_c.specs.Refusals.{set_failure, open_failure, stream_failure}
use Rattle.bootkeep_c.specs.Runs.{IsStreamFailure}
use Rattle.bootkeep_c.specs.Runnings.{IsOpenFailure, IsKeepFailure, IsRunFailure}
use Rattle.bootkeep_c.proofs.Failures.{set_failure_is, no_set_failure}

open_failure_is : (vars : Variables) (fault : OpenFault) (failed : Failure) → IsOpenFault vars fault → IsOpenFailure vars failed → failed ≡ open_failure fault
open_failure_is vars fault failed is why = why.2 ∙ ap open_failure (one_open_fault vars why.0 fault why.1 is)

-- ---- keepers

pub keep_failure_is_of_set : (set : List ℕ) (fault : SetFault) (failed : Failure) → IsFirstFault set fault →
    IsKeepFailure set failed → failed ≡ set_failure fault
keep_failure_is_of_set set fault failed first (inl why) = set_failure_is set fault failed first why
keep_failure_is_of_set set fault failed first (inr why) = absurd (fault_leaves_none set fault why.0 first why.1)

pub keep_failure_is : (set : List ℕ) (vars : Variables) (fault : OpenFault) (failed : Failure) → SpellsSet set vars →
    IsOpenFault vars fault → IsKeepFailure set failed
    → failed ≡ open_failure fault
keep_failure_is set vars fault failed spelled is (inl why) = absurd (no_set_failure set vars failed spelled why)
keep_failure_is set vars fault failed spelled is (inr why) =
    open_failure_is vars fault failed is (subst (λ (v : Variables). IsOpenFailure v failed) (same_set set why.0 vars why.1 spelled) why.2)

module _ (no_fault : (m : State) (vars : Variables) (fault : OpenFault) → OpensAs vars m → IsOpenFault vars fault → ⊥) where
  no_open_failure : (set : List ℕ) (vars other : Variables) (m : State) (failed : Failure) → SpellsSet set vars →
      OpensAs vars m → SpellsSet set other → IsOpenFailure other failed → ⊥
  no_open_failure set vars other m failed spelled opens spelled_other why =
      let same = same_set set other vars spelled_other spelled in
      no_fault m vars why.0 opens (subst (λ (v : Variables). IsOpenFault v why.0) same why.1)

  pub no_keep_failure : (set : List ℕ) (vars : Variables) (m : State) (failed : Failure) → SpellsSet set vars → OpensAs vars m → IsKeepFailure set failed → ⊥
  no_keep_failure set vars m failed spelled opens (inl why) = no_set_failure set vars failed spelled why
  no_keep_failure set vars m failed spelled opens (inr why) = no_open_failure set vars why.0 m failed spelled opens why.1 why.2

  -- what was opened, or run, has no fault
  pub opened_without_fault : (set : List ℕ) (vars other : Variables) (m : State) (fault : OpenFault) → SpellsSet set vars →
      OpensAs vars m → SpellsSet set other → IsOpenFault other fault → ⊥
  opened_without_fault set vars other m fault spelled opens spelled_other is =
      no_open_failure set vars other m (open_failure fault) spelled opens spelled_other (fault, is, refl)

-- ---- runs

pub run_failure_is_of_set : (set stream : List ℕ) (fault : SetFault) (failed : Failure) → IsFirstFault set fault →
    IsRunFailure set stream failed → failed ≡ set_failure fault
run_failure_is_of_set set stream fault failed first (inl why) = set_failure_is set fault failed first why
run_failure_is_of_set set stream fault failed first (inr (inl why)) = absurd (fault_leaves_none set fault why.0 first why.1)
run_failure_is_of_set set stream fault failed first (inr (inr why)) = absurd (fault_leaves_none set fault why.0 first why.2)

one_stream_failure : (stream : List ℕ) (f g : Failure) → IsStreamFailure stream f → IsStreamFailure stream g → f ≡ g
one_stream_failure stream f g p q = p.2 ∙ ap stream_failure (one_stream_fault stream p.0 q.0 p.1 q.1) ∙ sym q.2

pub events_have_no_failure : (stream : List ℕ) (events : List Event) (failed : Failure) → IsStream stream events → IsStreamFailure stream failed → ⊥
events_have_no_failure stream events failed is why = no_stream stream why.0 events why.1 is

pub run_failure_is_of_stream : (set stream : List ℕ) (vars : Variables) (wanted failed : Failure) → SpellsSet set vars →
    IsStreamFailure stream wanted → IsRunFailure set stream failed
    → failed ≡ wanted
run_failure_is_of_stream set stream vars wanted failed spelled is (inl why) = absurd (no_set_failure set vars failed spelled why)
run_failure_is_of_stream set stream vars wanted failed spelled is (inr (inl why)) = one_stream_failure stream failed wanted why.2 is
run_failure_is_of_stream set stream vars wanted failed spelled is (inr (inr why)) = absurd (events_have_no_failure stream why.1 wanted why.3 is)

pub run_failure_is : (set stream : List ℕ) (vars : Variables) (events : List Event) (fault : OpenFault) (failed : Failure) →
    SpellsSet set vars → IsStream stream events
    → IsOpenFault vars fault → IsRunFailure set stream failed → failed ≡ open_failure fault
run_failure_is set stream vars events fault failed spelled are is (inl why) = absurd (no_set_failure set vars failed spelled why)
run_failure_is set stream vars events fault failed spelled are is (inr (inl why)) = absurd (events_have_no_failure stream events failed are why.2)
run_failure_is set stream vars events fault failed spelled are is (inr (inr why)) =
    open_failure_is vars fault failed is (subst (λ (v : Variables). IsOpenFailure v failed) (same_set set why.0 vars why.2 spelled) why.4)

module _ (no_fault : (m : State) (vars : Variables) (fault : OpenFault) → OpensAs vars m → IsOpenFault vars fault → ⊥) where
  pub no_run_failure : (set stream : List ℕ) (vars : Variables) (m : State) (events : List Event) (failed : Failure) →
      SpellsSet set vars → OpensAs vars m → IsStream stream events
      → IsRunFailure set stream failed → ⊥
  no_run_failure set stream vars m events failed spelled opens are (inl why) = no_set_failure set vars failed spelled why
  no_run_failure set stream vars m events failed spelled opens are (inr (inl why)) = events_have_no_failure stream events failed are why.2
  no_run_failure set stream vars m events failed spelled opens are (inr (inr why)) = no_open_failure no_fault set vars why.0 m failed spelled opens why.2 why.4
