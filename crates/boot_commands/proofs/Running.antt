-- What a run of a script or a stream answers, by what became of its bytes.
use Rattle.std.proofs.Common.{◌≡◌, ◌≢◌, ◌<◌, ◌≤◌, ◌+◌, ℕ, List, ◌++◌, length, Option, Some, None, Result, Ok, Err, refl, ap, sym, subst}
use Rattle.std.proofs.Common.{◌∙◌, inl, inr, append-nil}
use Rattle.std.specs.Prelude.{IfSome}
use Rattle.std.specs.Io.KnownBytes.{Keeps}
use Rattle.uefi_vars.specs.Vars.{Variables}
use Rattle.boot_requests.specs.declared.event.Event.{Event}
use Rattle.boot_requests.specs.declared.reply.Reply.{Reply}
use Rattle.boot_requests.specs.declared.fault.OpenFault.{OpenFault}
use Rattle.boot_requests.specs.declared.fault.OpenFault.TheVariants as opening
use Rattle.boot_requests.specs.declared.script_fault.ScriptFault.{ScriptFault}
use Rattle.boot_requests.specs.declared.script_fault.ScriptFault.TheVariants as script
use Rattle.boot_requests.specs.Limits.{payload_max}
use Rattle.boot_requests.specs.State.{State}
use Rattle.boot_requests.specs.StoredState.{OpensAs, IsOpenFault}
use Rattle.boot_requests.specs.Happens.{Happens}
use Rattle.boot_commands.specs.declared.fault.ScriptRunFault.{ScriptRunFault}
use Rattle.boot_commands.specs.declared.fault.ScriptRunFault.TheVariants as fault
use Rattle.boot_requests.specs.declared.input_format.InputFormat.{InputFormat}
use Rattle.boot_requests.specs.InputFormat.{ReadsIn, IsFaultIn}
use Rattle.boot_commands.specs.Runs.{RunsIn}
use Rattle.boot_commands.specs.RunFault.{script_max, run_fault_of, IsFirstFaultIn, IsFaultUnless}
use Rattle.boot_commands.specs.Source.{ReadsAll, Takes, TakesAtMost}
use Rattle.boot_commands.specs.Answers.{IsAnswer, IsRun}
use Rattle.boot_commands.proofs.Inputs.{may_be, one_first, no_first}
use Rattle.boot_commands.proofs.Transfers.{takes_all}

-- nothing was written
pub keeps : (contents : Option (List ℕ)) → Keeps contents contents
keeps None = tt
keeps (Some bytes) = refl

-- what holds of any bytes holds of those that are known, if some are
of_any : (known : Option (List ℕ)) (P : List ℕ → Type 0) → ((bytes : List ℕ) → P bytes) → IfSome known P
of_any None P h = tt
of_any (Some bytes) P h = h bytes

-- what holds of the bytes that were read to their end holds of those that are known
at_bytes : (given left : Option (List ℕ)) (bytes : List ℕ) (P : List ℕ → Type 0) → ReadsAll given left bytes → P bytes → IfSome given P
at_bytes None left bytes P all h = tt
at_bytes (Some known) None bytes P all h = absurd all.0
at_bytes (Some known) (Some rest) bytes P all h =
    subst P (sym (all.0 ∙ ap (λ (l : List ℕ). bytes ++ l) all.1 ∙ append-nil bytes)) h

-- variables are never refused for memory by a fault of theirs
not_memory : (vars : Variables) (f : OpenFault) → IsOpenFault vars f → f ≢ opening.OutOfMemory
not_memory vars opening.OutOfMemory own e = own
not_memory vars opening.BadOrder own e = cc
not_memory vars opening.BadNext own e = cc
not_memory vars opening.BadState own e = cc

module _ (input : InputFormat) (vars : Variables) (given left old new : Option (List ℕ)) where
  abbrev pub Run : Result Variables ScriptRunFault → Type 0
  Run result = IsRun input vars given left old new result

  -- the fault, if one is told of known bytes
  abbrev pub First : ScriptRunFault → List ℕ → Type 0
  First f bytes = f ≢ fault.Read → f ≢ fault.Write → f ≢ fault.OutOfMemory → IsFirstFaultIn input bytes vars f

  -- any first fault of known bytes is answered, unless something else came
  abbrev pub Only : Result Variables ScriptRunFault → List ℕ → Type 0
  Only result bytes = (f : ScriptRunFault) → IsFirstFaultIn input bytes vars f → IsFaultUnless result f

  -- ---- the bytes weren't all read

  memory_refused : TakesAtMost given left (script_max + 1) → Keeps old new → Run (Err fault.OutOfMemory)
  memory_refused taken kept = record {
    done = tt;
    all_read = tt;
    all_read_before = λ read much memory. absurd (memory refl);
    fault = of_any given (First fault.OutOfMemory) (λ bytes read write memory. absurd (memory refl));
    only_fault = of_any given (Only (Err fault.OutOfMemory)) (λ bytes f first. inr (inr refl));
    may_come = tt;
    one_past = λ e. cc;
    taken = taken;
    write = λ e. cc;
    unwritten = λ other. kept;
    memory = λ e. cc;
  }

  too_much : (IfSome given (λ bytes. script_max < length bytes)) → Takes given left (script_max + 1) → TakesAtMost given left (script_max + 1) → Keeps old new
      → Run (Err fault.TooMuch)
  too_much long one_past taken kept = record {
    done = tt;
    all_read = tt;
    all_read_before = λ read much memory. absurd (much refl);
    fault = told given long;
    only_fault = only given long;
    may_come = tt;
    one_past = λ e. one_past;
    taken = taken;
    write = λ e. cc;
    unwritten = λ other. kept;
    memory = λ e. cc;
  }
    where
      told : (known : Option (List ℕ)) → IfSome known (λ bytes. script_max < length bytes) → IfSome known (First fault.TooMuch)
      told None h = tt
      told (Some bytes) h = λ read write memory. h

      only : (known : Option (List ℕ)) → IfSome known (λ bytes. script_max < length bytes) → IfSome known (Only (Err fault.TooMuch))
      only None h = tt
      only (Some bytes) h = λ f first. inl (ap (λ (g : ScriptRunFault). Err g) (one_first input bytes vars fault.TooMuch f h first))

  pub of_reading : (f : ScriptRunFault) → (f ≡ fault.TooMuch → IfSome given (λ bytes. script_max < length bytes))
      → (f ≡ fault.TooMuch → Takes given left (script_max + 1))
      → TakesAtMost given left (script_max + 1) → (f ≢ fault.Read → f ≢ fault.TooMuch → f ≡ fault.OutOfMemory) → Keeps old new → Run (Err f)
  of_reading fault.Read long one_past taken told kept = record {
    done = tt;
    all_read = tt;
    all_read_before = λ read much memory. absurd (read refl);
    fault = of_any given (First fault.Read) (λ bytes read write memory. absurd (read refl));
    only_fault = of_any given (Only (Err fault.Read)) (λ bytes f first. inr (inl refl));
    may_come = tt;
    one_past = λ e. cc;
    taken = taken;
    write = λ e. cc;
    unwritten = λ other. kept;
    memory = λ e. cc;
  }
  of_reading fault.TooMuch long one_past taken told kept = too_much (long refl) (one_past refl) taken kept
  of_reading fault.OutOfMemory long one_past taken told kept = memory_refused taken kept
  of_reading f long one_past taken told kept = absurd (let memory = told (λ e. cc) (λ e. cc) in cc)

  -- ---- all of the bytes were read

  module _ (bytes : List ℕ) (all : ReadsAll given left bytes) (len : length bytes ≤ script_max) where
    taken_all : TakesAtMost given left (script_max + 1)
    taken_all = takes_all given left bytes script_max all len

    -- they have this fault, as the first one of all
    faulty : (f : ScriptFault) → IsFaultIn input bytes f → ((count : ℕ) → f ≡ script.Rest count → count < 12 + payload_max) → Keeps old new
        → Run (Err (fault.Script f))
    faulty f own bound kept = record {
      done = tt;
      all_read = tt;
      all_read_before = λ read much memory. all.1;
      fault = at_bytes given left bytes (First (fault.Script f)) all (λ read write memory. (len, own));
      only_fault = at_bytes given left bytes (Only (Err (fault.Script f))) all
          (λ g first. inl (ap (λ (h : ScriptRunFault). Err h) (one_first input bytes vars (fault.Script f) g (len, own) first)));
      may_come = may_be input bytes f own bound;
      one_past = λ e. cc;
      taken = taken_all;
      write = λ e. cc;
      unwritten = λ other. kept;
      memory = λ e. cc;
    }

    pub of_fault : (f : ScriptFault) (made : ScriptRunFault) → made ≡ run_fault_of f → (f ≢ script.OutOfMemory → IsFaultIn input bytes f)
        → ((count : ℕ) → f ≡ script.Rest count → count < 12 + payload_max) → Keeps old new → Run (Err made)
    of_fault f made is own bound kept = subst (λ (g : ScriptRunFault). Run (Err g)) (sym is) (by f own bound)
      where
        by : (f : ScriptFault) → (f ≢ script.OutOfMemory → IsFaultIn input bytes f) → ((count : ℕ) → f ≡ script.Rest count → count < 12 + payload_max)
            → Run (Err (run_fault_of f))
        by script.OutOfMemory own bound = memory_refused taken_all kept
        by (script.BadLine n) own bound = faulty (script.BadLine n) (own (λ e. cc)) bound kept
        by (script.Stream f) own bound = faulty (script.Stream f) (own (λ e. cc)) bound kept
        by (script.Rest n) own bound = faulty (script.Rest n) (own (λ e. cc)) bound kept

    -- they are read as events, which were answered
    module _ (events : List Event) (read : ReadsIn input bytes events)
        (no_fault : (m : State) (vars : Variables) (f : OpenFault) → OpensAs vars m → IsOpenFault vars f → ⊥) where
      runs : (after : Variables) (answers : List Reply) → Happens vars events after answers → RunsIn input bytes vars after answers
      runs after answers happens = record { events = events; read = read; happens = happens }

      -- what was run has no fault
      none : (result : Result Variables ScriptRunFault) (after : Variables) (answers : List Reply) → Happens vars events after answers
          → IfSome given (Only result)
      none result after answers happens = at_bytes given left bytes (Only result) all
          (λ f first. absurd (no_first input bytes vars no_fault after answers f len (runs after answers happens) first))

      pub of_answer : (result : Result Variables ScriptRunFault) → IsAnswer events vars old new result → Run result
      of_answer (Ok after) h = record {
        done = (bytes, all, len, h.0, runs after h.0 h.1, h.2);
        all_read = all.1;
        all_read_before = tt;
        fault = tt;
        only_fault = none (Ok after) after h.0 h.1;
        may_come = tt;
        one_past = λ e. cc;
        taken = tt;
        write = λ e. cc;
        unwritten = tt;
        memory = λ e. cc;
      }
      of_answer (Err fault.Write) h = record {
        done = tt;
        all_read = tt;
        all_read_before = λ read much memory. all.1;
        fault = of_any given (First fault.Write) (λ bytes read write memory. absurd (write refl));
        only_fault = none (Err fault.Write) h.0 h.1 h.2;
        may_come = tt;
        one_past = λ e. cc;
        taken = taken_all;
        write = λ e. (bytes, all, len, h.0, h.1, runs h.0 h.1 h.2, h.3);
        unwritten = λ other. absurd (other refl);
        memory = λ e. cc;
      }
      of_answer (Err fault.OutOfMemory) h = memory_refused taken_all h
      of_answer (Err (fault.Open f)) h = record {
        done = tt;
        all_read = tt;
        all_read_before = λ read much memory. all.1;
        fault = at_bytes given left bytes (First (fault.Open f)) all (λ read_failed write memory. (len, events, read, h.0));
        only_fault = at_bytes given left bytes (Only (Err (fault.Open f))) all
            (λ g first. inl (ap (λ (h : ScriptRunFault). Err h) (one_first input bytes vars (fault.Open f) g (len, events, read, h.0) first)));
        may_come = h.0;
        one_past = λ e. cc;
        taken = taken_all;
        write = λ e. cc;
        unwritten = λ other. h.1;
        memory = λ e. not_memory vars f h.0 (let same : f ≡ opening.OutOfMemory = cc in same);
      }
      of_answer (Err f) h = absurd h.0
