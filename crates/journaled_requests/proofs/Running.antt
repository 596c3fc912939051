-- Runs of events over variables: what they lead to, and why they are refused.
use Rattle.std.proofs.Common.{◌≡◌, ◌≢◌, List, [], ◌∷◌, Result, Ok, Err, IfErr, IsErrAnd, sym, ap, subst, ◌∙◌}
use Rattle.uefi_vars.specs.Vars.{Variables}
use Rattle.boot_requests.specs.declared.answer.Answer.{Answer}
use Rattle.boot_requests.specs.declared.event.Event.{Event}
use Rattle.boot_requests.specs.declared.event.Event.TheVariants as event
use Rattle.boot_requests.specs.declared.fault.OpenFault.{OpenFault}
use Rattle.boot_requests.specs.declared.fault.OpenFault.TheVariants as opening
use Rattle.boot_requests.specs.Answering.{replies_of, LeadToAnswers, AreAnswered}
use Rattle.boot_requests.specs.Followers.{TellFollowers}
use Rattle.boot_requests.specs.Keeper.{AreRead, StandsFor}
use Rattle.boot_requests.specs.Reply.{AreAnswers}
use Rattle.boot_requests.specs.Run.{run_followed_by, state_at}
use Rattle.boot_requests.specs.Seen.{Seen, Came, Malformed, Prepare, Hand, Restart, IsSeen, AreSeen}
use Rattle.boot_requests.specs.State.{State, IsImage}
use Rattle.boot_requests.specs.StoredState.{OpensAs, IsOpenFault}
use Rattle.boot_requests.specs.Turn.{Plain, plain_start}
use Rattle.boot_journal.specs.declared.machine.CallError.{CallError}
use Rattle.boot_journal.specs.declared.machine.CallError.TheVariants.{OutOfMemory, Refused}
use Rattle.journaled_requests.specs.declared.requests.RunFault.{RunFault}
use Rattle.journaled_requests.specs.declared.requests.RunFault.TheVariants as refusal
use Rattle.boot_journal.specs.Attributes.{data_of, with_attributes, KeepAttributes, HasNoData, HasLongData}
use Rattle.boot_journal.specs.Cause.{IfRefused}
use Rattle.journaled_requests.specs.Requests.{KeepsState, IsAnswered}
use Rattle.journaled_requests.specs.RunFault.{LeadsTooFar, IsRunFault, IsOpenRefusal}
use Rattle.boot_journal.proofs.WithAttributes.{data_back, attributes_kept}

-- ---- refusals

-- what is so of each error that a result may be is so of the result
pub err_then : {A E : Type 0} (r : Result A E) (Q P : E → Type 0) → IsErrAnd r Q → ((e : E) → Q e → P e) → IfErr r P
err_then (Ok a) Q P is then = tt
err_then (Err e) Q P is then = then e is

-- a set isn't opened for the fault that it has
pub refused_then : (error : CallError RunFault) (fault : OpenFault) (set : Variables) →
    IfRefused error (λ reason. (reason ≡ refusal.Open fault) × (fault ≢ opening.OutOfMemory)) →
    (fault ≢ opening.OutOfMemory → IsOpenFault set fault) → IfRefused error (IsOpenRefusal set)
refused_then OutOfMemory fault set is then = tt
refused_then (Refused reason) fault set is then = subst (IsOpenRefusal set) (sym is.0) (then is.1)

open_refuses : (events : List Event) (vars : Variables) (reason : RunFault) → IsOpenRefusal (data_of vars) reason → IsRunFault events vars reason
open_refuses events vars (refusal.Open fault) why = why
open_refuses events vars refusal.NoData why = absurd why
open_refuses events vars refusal.TooLong why = absurd why

pub refused_open : (error : CallError RunFault) (events : List Event) (vars set : Variables) → set ≡ data_of vars →
    IfRefused error (IsOpenRefusal set) → IfRefused error (IsRunFault events vars)
refused_open OutOfMemory events vars set same why = tt
refused_open (Refused reason) events vars set same why =
    open_refuses events vars reason (subst (λ (v : Variables). IsOpenRefusal v reason) same why)

pub refused_for : (error : CallError RunFault) (events : List Event) (vars : Variables) →
    IfRefused error (λ reason. (reason ≡ refusal.NoData) × HasNoData vars) → IfRefused error (IsRunFault events vars)
refused_for OutOfMemory events vars is = tt
refused_for (Refused reason) events vars is = subst (IsRunFault events vars) (sym is.0) is.1

pub refused_with : (error : CallError RunFault) (events : List Event) (vars set : Variables) →
    IfRefused error (λ reason. (reason ≡ refusal.TooLong) × HasLongData set) →
    (HasLongData set → LeadsTooFar events vars) → IfRefused error (IsRunFault events vars)
refused_with OutOfMemory events vars set is far = tt
refused_with (Refused reason) events vars set is far = subst (IsRunFault events vars) (sym is.0) (far is.1)

-- what is seen of events was read off frames
read_seen : (e : Event) (s : Seen) (before : List Seen) → IsSeen e s → AreRead before → AreRead (s ∷ before)
read_seen (event.Deliver bytes) (Came number request) before is read = ((bytes, is), read)
read_seen (event.Deliver bytes) (Malformed fault) before is read = read
read_seen event.Prepare Prepare before is read = read
read_seen event.Hand Hand before is read = read
read_seen event.Restart Restart before is read = read
read_seen _ _ before is read = absurd is

all_read : (events : List Event) (seen before : List Seen) → AreSeen events seen → AreRead before → AreRead (run_followed_by before seen)
all_read [] [] before are read = read
all_read (e ∷ events) (s ∷ later) before are read = all_read events later (s ∷ before) are.1 (read_seen e s before are.0 read)
all_read _ _ before are read = absurd are

-- ---- all of them

module _ (starts : (start : State) → StandsFor (plain_start start) start []) (first last : Plain) (events : List Event) (answers : List Answer)
    (plain : first ≡ plain_start first.state) (taken : AreAnswered first events last answers) where
  -- what the events lead to, from the state that the variables open as
  led : LeadToAnswers first.state [] events last answers
  led = taken first.state [] (subst (λ (k : Plain). StandsFor k first.state []) (sym plain) (starts first.state))

  abbrev seen : List Seen
  seen = led.lead.seen

  image_left : (set : Variables) → IsImage last.state set → IsImage (state_at first.state (run_followed_by [] seen)) set
  image_left set image = subst (λ (n : State). IsImage n set) led.lead.stands.state image

  -- what they lead to may be too much for attributes
  pub too_far : (vars set : Variables) → KeepsState vars first.state → IsImage last.state set → HasLongData set → LeadsTooFar events vars
  too_far vars set opens image long = record {
    seen = seen;
    are = led.lead.read;
    state = first.state;
    keeps = opens;
    to = set;
    leads = image_left set image;
    long = long;
  }

  module _ (one : (m n : State) (vars : Variables) → OpensAs vars m → OpensAs vars n → m ≡ n) where
    pub answered : (vars set to : Variables) → KeepsState vars first.state → IsImage last.state set → to ≡ with_attributes vars set →
        IsAnswered events vars to answers
    answered vars set to opens image kept =
        let leads : IsImage (state_at first.state (run_followed_by [] seen)) (data_of to) =
        subst (λ (v : Variables). IsImage (state_at first.state (run_followed_by [] seen)) v) (sym (ap data_of kept ∙ data_back vars set))
        (image_left set image) in
        let same = λ (m : State) (opened : KeepsState vars m). one first.state m (data_of vars) opens opened in (
          seen,
          led.lead.read,
          record {
            read = all_read events seen [] led.lead.read tt;
            leads = λ m opened. subst (λ (n : State). IsImage (state_at n (run_followed_by [] seen)) (data_of to)) (same m opened) leads;
            attributes = subst (KeepAttributes vars) (sym kept) (attributes_kept vars set);
          },
          λ m opened. subst (λ (n : State). AreAnswers n [] seen (replies_of answers) × TellFollowers n [] seen answers) (same m opened)
              (led.lead.replied, led.followers),
          (first.state, opens),
          led.requests,
        )
