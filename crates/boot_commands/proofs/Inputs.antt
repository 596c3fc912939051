-- Bytes of a format: what they are read as, their faults, and what they do, of each at most one.
use Rattle.std.proofs.Common.{◌≡◌, ◌≢◌, ◌<◌, ◌≤◌, ◌+◌, ℕ, List, length, Option, Some, refl, ap, subst, ◌∙◌, arith}
use Rattle.uefi_vars.specs.Vars.{Variables}
use Rattle.boot_requests.specs.declared.event.Event.{Event}
use Rattle.boot_requests.specs.declared.reply.Reply.{Reply}
use Rattle.boot_requests.specs.declared.fault.FeedFault.{FeedFault}
use Rattle.boot_requests.specs.declared.fault.FeedFault.TheVariants as feeding
use Rattle.boot_requests.specs.declared.fault.OpenFault.{OpenFault}
use Rattle.boot_requests.specs.declared.script_fault.ScriptFault.{ScriptFault}
use Rattle.boot_requests.specs.declared.script_fault.ScriptFault.TheVariants as script
use Rattle.boot_requests.specs.Limits.{payload_max}
use Rattle.boot_requests.specs.State.{State}
use Rattle.boot_requests.specs.Seen.{Seen, IsSeen}
use Rattle.boot_requests.specs.Reply.{IsReply}
use Rattle.boot_requests.specs.Stream.{IsHeaderFaultIfAny}
use Rattle.boot_requests.specs.StoredState.{OpensAs, IsOpenFault}
use Rattle.boot_requests.specs.Script.{IsLineFault}
use Rattle.boot_requests.specs.EventStream.{IsStreamFault}
use Rattle.boot_requests.specs.Happens.{Happens}
use Rattle.boot_requests.proofs.EventLists.Scripts.{one_script, no_script, one_bad_line}
use Rattle.boot_requests.proofs.EventLists.Streams.{one_stream, no_stream, one_stream_fault}
use Rattle.boot_requests.proofs.Answering.Happening.{one_open_fault, one_answers, one_after}
use Rattle.boot_commands.specs.declared.fault.ScriptRunFault.{ScriptRunFault}
use Rattle.boot_commands.specs.declared.fault.ScriptRunFault.TheVariants as fault
use Rattle.boot_requests.specs.declared.input_format.InputFormat.{InputFormat}
use Rattle.boot_requests.specs.declared.input_format.InputFormat.TheVariants as format
use Rattle.boot_requests.specs.InputFormat.{ReadsIn, IsFaultIn}
use Rattle.boot_commands.specs.Runs.{RunsIn}
use Rattle.boot_commands.specs.RunFault.{script_max, IsFirstFaultIn, MayBeIn}

-- ---- events and faults of bytes

one_list : (input : InputFormat) (bytes : List ℕ) (a b : List Event) → ReadsIn input bytes a → ReadsIn input bytes b → a ≡ b
one_list format.Script = one_script
one_list format.Stream = one_stream

one_line_fault : (text : List ℕ) (f g : ScriptFault) → IsLineFault text f → IsLineFault text g → f ≡ g
one_line_fault text (script.BadLine m) (script.BadLine n) p q = ap (λ (k : ℕ). script.BadLine k) (one_bad_line text m n p q)
one_line_fault text (script.BadLine m) g p q = absurd q
one_line_fault text f g p q = absurd p

one_fault : (input : InputFormat) (bytes : List ℕ) (f g : ScriptFault) → IsFaultIn input bytes f → IsFaultIn input bytes g → f ≡ g
one_fault format.Script = one_line_fault
one_fault format.Stream = one_stream_fault

no_line_fault : (text : List ℕ) (f : ScriptFault) (events : List Event) → IsLineFault text f → ReadsIn format.Script text events → ⊥
no_line_fault text (script.BadLine number) events p q = no_script text number events p q
no_line_fault text f events p q = absurd p

no_fault : (input : InputFormat) (bytes : List ℕ) (f : ScriptFault) (events : List Event) → IsFaultIn input bytes f → ReadsIn input bytes events → ⊥
no_fault format.Script = no_line_fault
no_fault format.Stream = no_stream

-- which faults may come
no_memory : (stream : List ℕ) (f : FeedFault) → IsStreamFault stream (script.Stream f) → f ≢ feeding.OutOfMemory
no_memory stream f is e = subst (λ (g : Option FeedFault). IsHeaderFaultIfAny is.0.rest g) (is.2 ∙ ap (λ (g : FeedFault). Some g) e) is.1.fault

pub may_be : (input : InputFormat) (bytes : List ℕ) (f : ScriptFault) → IsFaultIn input bytes f
    → ((count : ℕ) → f ≡ script.Rest count → count < 12 + payload_max) → MayBeIn input f
may_be format.Script text (script.BadLine number) own bound = omega (arith, own.at)
may_be format.Script text f own bound = absurd own
may_be format.Stream stream (script.Stream g) own bound = no_memory stream g own
may_be format.Stream stream (script.Rest count) own bound = (omega (arith, own.4), bound count refl)
may_be format.Stream stream f own bound = absurd own

-- a script has no rest
pub no_rest_of_text : (text : List ℕ) (f : ScriptFault) (count : ℕ) → (f ≢ script.OutOfMemory → IsLineFault text f) → f ≡ script.Rest count → ⊥
no_rest_of_text text (script.Rest n) count own is = own (λ e. cc)
no_rest_of_text text (script.BadLine n) count own is = cc
no_rest_of_text text (script.Stream g) count own is = cc
no_rest_of_text text script.OutOfMemory count own is = cc

-- ---- first faults

module _ (input : InputFormat) (bytes : List ℕ) (vars : Variables) where
  -- bytes and variables have one first fault
  pub one_first : (a b : ScriptRunFault) → IsFirstFaultIn input bytes vars a → IsFirstFaultIn input bytes vars b → a ≡ b
  one_first fault.TooMuch fault.TooMuch p q = refl
  one_first fault.TooMuch (fault.Script g) p q = absurd (omega (arith, p, q.0))
  one_first fault.TooMuch (fault.Open g) p q = absurd (omega (arith, p, q.0))
  one_first fault.TooMuch b p q = absurd q
  one_first (fault.Script f) fault.TooMuch p q = absurd (omega (arith, p.0, q))
  one_first (fault.Script f) (fault.Script g) p q = ap (λ (h : ScriptFault). fault.Script h) (one_fault input bytes f g p.1 q.1)
  one_first (fault.Script f) (fault.Open g) p q = absurd (no_fault input bytes f q.1 p.1 q.2)
  one_first (fault.Script f) b p q = absurd q
  one_first (fault.Open f) fault.TooMuch p q = absurd (omega (arith, p.0, q))
  one_first (fault.Open f) (fault.Script g) p q = absurd (no_fault input bytes g p.1 q.1 p.2)
  one_first (fault.Open f) (fault.Open g) p q = ap (λ (h : OpenFault). fault.Open h) (one_open_fault vars f g p.3 q.3)
  one_first (fault.Open f) b p q = absurd q
  one_first a b p q = absurd p

  -- what is run has none
  pub no_first : ((m : State) (vars : Variables) (f : OpenFault) → OpensAs vars m → IsOpenFault vars f → ⊥)
      → (after : Variables) (answers : List Reply) (f : ScriptRunFault) → length bytes ≤ script_max → RunsIn input bytes vars after answers
      → IsFirstFaultIn input bytes vars f → ⊥
  no_first kept after answers fault.TooMuch len runs p = omega (arith, len, p)
  no_first kept after answers (fault.Script f) len runs p = no_fault input bytes f runs.events p.1 runs.read
  no_first kept after answers (fault.Open f) len runs p = kept runs.happens.start vars f runs.happens.opened p.3
  no_first kept after answers f len runs p = absurd p

-- ---- one run

module _ (input : InputFormat) (as_one : (event : Event) (a b : Seen) → IsSeen event a → IsSeen event b → a ≡ b)
    (bytes : List ℕ) (before a b : Variables) (x y : List Reply) (p : RunsIn input bytes before a x) (q : RunsIn input bytes before b y) where
  same_events : Happens before q.events a x
  same_events = subst (λ (events : List Event). Happens before events a x) (one_list input bytes p.events q.events p.read q.read) p.happens

  pub one_list_of_run : ((start : State) (run : List Seen) (seen : Seen) (a b : Reply) → IsReply start run seen a → IsReply start run seen b → a ≡ b) → x ≡ y
  one_list_of_run one_reply = one_answers as_one q.events before a b x y same_events q.happens one_reply

  pub one_after_run : a ≡ b
  one_after_run = one_after as_one q.events before a b x y same_events q.happens
