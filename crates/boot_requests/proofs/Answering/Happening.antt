-- Events that happen to variables: a keeper that opens these takes them, and they lead to one list of answers.
use Rattle.std.proofs.Common.{◌≡◌, List, [], ◌∷◌, refl, sym, subst, ◌∙◌}
use Rattle.uefi_vars.specs.Vars.{Variables}
use Rattle.boot_requests.specs.declared.event.Event.{Event}
use Rattle.boot_requests.specs.declared.event.Event.TheVariants as event
use Rattle.boot_requests.specs.declared.fault.OpenFault.{OpenFault}
use Rattle.boot_requests.specs.declared.fault.OpenFault.TheVariants as opening
use Rattle.boot_requests.specs.declared.reply.Reply.{Reply}
use Rattle.boot_requests.specs.State.{State, IsState, IsImage}
use Rattle.boot_requests.specs.Seen.{Seen, Came, Malformed, Prepare, Hand, Restart, IsSeen, AreSeen}
use Rattle.boot_requests.specs.Run.{run_followed_by, state_at}
use Rattle.boot_requests.specs.Reply.{IsReply, AreAnswers}
use Rattle.boot_requests.specs.Turn.{Plain, plain_start}
use Rattle.boot_requests.specs.StoredState.{OpensAs, IsOpenFault}
use Rattle.boot_requests.specs.Keeper.{StandsFor, IsStateOf, AreRead}
use Rattle.boot_requests.specs.Answering.{AreReplied}
use Rattle.boot_requests.specs.Happens.{Happens}
use Rattle.boot_requests.proofs.Turn.Turns.{start_stands}
use Rattle.boot_requests.proofs.Variables.Images.{one_opening, one_image}

-- a keeper at its start took the events, with these replies
pub happens : (before after : Variables) (events : List Event) (first last : Plain) (replies : List Reply) → first ≡ plain_start first.state
    → OpensAs before first.state
    → AreReplied first events last replies → IsState last.state → IsImage last.state after → Happens before events after replies
happens before after events first last replies is_start opened replied is_state image =
    let start = first.state in
    let stands : StandsFor first start [] = subst (λ (k : Plain). StandsFor k start []) (sym is_start) (start_stands start) in
    let lead = replied start [] stands in
    let left : IsStateOf last.state after = record { is = is_state; image = image } in
    record {
      start = start;
      seen = lead.seen;
      opened = opened;
      read = lead.read;
      answered = lead.replied;
      left = subst (λ (m : State). IsStateOf m after) lead.stands.state left;
    }

-- ---- variables have one fault for which they can't be kept

pub one_open_fault : (vars : Variables) (a b : OpenFault) → IsOpenFault vars a → IsOpenFault vars b → a ≡ b
one_open_fault vars opening.BadOrder opening.BadOrder p q = refl
one_open_fault vars opening.BadOrder opening.BadNext p q = absurd (q.0 p)
one_open_fault vars opening.BadOrder opening.BadState p q = absurd (q.0 p)
one_open_fault vars opening.BadOrder opening.OutOfMemory p q = absurd q
one_open_fault vars opening.BadNext opening.BadOrder p q = absurd (p.0 q)
one_open_fault vars opening.BadNext opening.BadNext p q = refl
one_open_fault vars opening.BadNext opening.BadState p q = absurd (q.1 p.1)
one_open_fault vars opening.BadNext opening.OutOfMemory p q = absurd q
one_open_fault vars opening.BadState opening.BadOrder p q = absurd (p.0 q)
one_open_fault vars opening.BadState opening.BadNext p q = absurd (p.1 q.1)
one_open_fault vars opening.BadState opening.BadState p q = refl
one_open_fault vars opening.BadState opening.OutOfMemory p q = absurd q
one_open_fault vars opening.OutOfMemory b p q = absurd p

-- ---- events happen in one way

one_seen : ((event : Event) (a b : Seen) → IsSeen event a → IsSeen event b → a ≡ b)
    → (events : List Event) (x y : List Seen) → AreSeen events x → AreSeen events y → x ≡ y
one_seen law [] [] [] p q = refl
one_seen law [] (a ∷ x) y p q = absurd p
one_seen law [] [] (b ∷ y) p q = absurd q
one_seen law (e ∷ events) [] y p q = absurd p
one_seen law (e ∷ events) (a ∷ x) [] p q = absurd q
one_seen law (e ∷ events) (a ∷ x) (b ∷ y) p q =
    let head = law e a b p.0 q.0 in
    let tail = one_seen law events x y p.1 q.1 in
    cc

one_list_of_answers : ((start : State) (run : List Seen) (seen : Seen) (a b : Reply) → IsReply start run seen a → IsReply start run seen b → a ≡ b)
    → (start : State) (run seen : List Seen) (x y : List Reply) → AreAnswers start run seen x → AreAnswers start run seen y → x ≡ y
one_list_of_answers law start run [] x y p q = p ∙ sym q
one_list_of_answers law start run (s ∷ seen) [] y p q = absurd p
one_list_of_answers law start run (s ∷ seen) (a ∷ x) [] p q = absurd q
one_list_of_answers law start run (s ∷ seen) (a ∷ x) (b ∷ y) p q =
    let head = law start run s a b p.0 q.0 in
    let tail = one_list_of_answers law start (s ∷ run) seen x y p.1 q.1 in
    cc

module _ (as_one : (event : Event) (a b : Seen) → IsSeen event a → IsSeen event b → a ≡ b) (events : List Event) (before a b : Variables) (x y : List Reply)
    (p : Happens before events a x) (q : Happens before events b y) where
  same_start : p.start ≡ q.start
  same_start = one_opening p.start q.start before p.opened q.opened

  same_seen : p.seen ≡ q.seen
  same_seen = one_seen as_one events p.seen q.seen p.read q.read

  pub one_answers : ((start : State) (run : List Seen) (seen : Seen) (a b : Reply) → IsReply start run seen a → IsReply start run seen b → a ≡ b) → x ≡ y
  one_answers one_reply =
      let first = subst (λ (start : State). AreAnswers start [] p.seen x) same_start p.answered in
      let second = subst (λ (seen : List Seen). AreAnswers q.start [] seen x) same_seen first in
      one_list_of_answers one_reply q.start [] q.seen x y second q.answered

  pub one_after : a ≡ b
  one_after =
      let first = subst (λ (start : State). IsImage (state_at start (run_followed_by [] p.seen)) a) same_start p.left.image in
      let second = subst (λ (seen : List Seen). IsImage (state_at q.start (run_followed_by [] seen)) a) same_seen first in
      one_image _ a b second q.left.image

-- ---- what came

-- what is seen of events was read off frames
read_seen : (e : Event) (s : Seen) (before : List Seen) → IsSeen e s → AreRead before → AreRead (s ∷ before)
read_seen (event.Deliver bytes) (Came number request) before is read = ((bytes, is), read)
read_seen (event.Deliver bytes) (Malformed fault) before is read = read
read_seen event.Prepare Prepare before is read = read
read_seen event.Hand Hand before is read = read
read_seen event.Restart Restart before is read = read
read_seen (event.Deliver bytes) Prepare before is read = elim is [ ]
read_seen (event.Deliver bytes) Hand before is read = elim is [ ]
read_seen (event.Deliver bytes) Restart before is read = elim is [ ]
read_seen event.Prepare (Came number request) before is read = elim is [ ]
read_seen event.Prepare (Malformed fault) before is read = elim is [ ]
read_seen event.Prepare Hand before is read = elim is [ ]
read_seen event.Prepare Restart before is read = elim is [ ]
read_seen event.Hand (Came number request) before is read = elim is [ ]
read_seen event.Hand (Malformed fault) before is read = elim is [ ]
read_seen event.Hand Prepare before is read = elim is [ ]
read_seen event.Hand Restart before is read = elim is [ ]
read_seen event.Restart (Came number request) before is read = elim is [ ]
read_seen event.Restart (Malformed fault) before is read = elim is [ ]
read_seen event.Restart Prepare before is read = elim is [ ]
read_seen event.Restart Hand before is read = elim is [ ]

pub all_read : (events : List Event) (seen before : List Seen) → AreSeen events seen → AreRead before → AreRead (run_followed_by before seen)
all_read [] [] before are read = read
all_read (e ∷ events) (s ∷ later) before are read = all_read events later (s ∷ before) are.1 (read_seen e s before are.0 read)
all_read [] (s ∷ later) before are read = elim are [ ]
all_read (e ∷ events) [] before are read = elim are [ ]
