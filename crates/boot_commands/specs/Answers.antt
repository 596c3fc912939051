-- What a run of a script or a stream reads, answers and writes.
use Rattle.std.specs.Prelude.{◌≡◌, ◌≢◌, ℕ, ◌+◌, ◌≤◌, List, length, Option, Result, Ok, Err, IfOk, IfErr, IfSome, OnOk, OnErr}
use Rattle.std.specs.Io.KnownBytes.{Keeps, Appends, IsAtEnd}
use Rattle.uefi_vars.specs.Vars.{Variables}
use Rattle.boot_requests.specs.declared.event.Event.{Event}
use Rattle.boot_requests.specs.declared.fault.OpenFault.TheVariants as opening
use Rattle.boot_requests.specs.declared.reply.Reply.{Reply}
use Rattle.boot_requests.specs.Happens.{Happens, answer_lines}
use Rattle.boot_commands.specs.declared.fault.ScriptRunFault.{ScriptRunFault}
use Rattle.boot_commands.specs.declared.fault.ScriptRunFault.TheVariants as running
use Rattle.boot_requests.specs.declared.input_format.InputFormat.{InputFormat}
use Rattle.boot_commands.specs.Runs.{RunsIn}
use Rattle.boot_commands.specs.RunFault.{script_max, IsVarsFault, IsFirstFaultIn, MayComeIn, IsFaultUnless}
use Rattle.boot_commands.specs.Source.{ReadsAll, Takes, TakesAtMost, AppendsFront}

-- The answer to a run over these variables, of the bytes that a reader had left; what it has left then; and what a writer
-- held before and after.
pub record IsRun (format : InputFormat) (vars : Variables) (given left old new : Option (List ℕ)) (result : Result Variables ScriptRunFault) : Type 0 where
  -- The input is all that the reader gave, the variables are those after it, and its answers are what was written.
  pub done : IfOk result (λ after. (bytes : List ℕ) × ReadsAll given left bytes × (length bytes ≤ script_max)
      × (answers : List Reply) × RunsIn format bytes vars after answers × Appends old new (answer_lines answers))
  pub all_read : OnOk result (IsAtEnd left)
  pub all_read_before : IfErr result (λ found. found ≢ running.Read → found ≢ running.TooMuch → found ≢ running.OutOfMemory → IsAtEnd left)
  -- The first fault of what the reader had left and of the variables.
  pub fault : IfErr result (λ found. IfSome given (λ bytes.
      found ≢ running.Read → found ≢ running.Write → found ≢ running.OutOfMemory → IsFirstFaultIn format bytes vars found))
  pub only_fault : IfSome given (λ bytes. (found : ScriptRunFault) → IsFirstFaultIn format bytes vars found → IsFaultUnless result found)
  -- What may come, also if the reader doesn't tell its bytes.
  pub may_come : IfErr result (MayComeIn format vars)
  -- Of too many bytes one past the limit is taken, and never more.
  pub one_past : result ≡ Err running.TooMuch → Takes given left (script_max + 1)
  pub taken : OnErr result (TakesAtMost given left (script_max + 1))
  -- A failed write: the input was run.
  pub write : result ≡ Err running.Write → (bytes : List ℕ) × ReadsAll given left bytes × (length bytes ≤ script_max)
      × (after : Variables) × (answers : List Reply) × RunsIn format bytes vars after answers × AppendsFront old new (answer_lines answers)
  pub unwritten : IfErr result (λ found. found ≢ running.Write → Keeps old new)
  pub memory : result ≢ Err (running.Open opening.OutOfMemory)

-- for private functions: what is answered to the events, and what was written
abbrev pub IsAnswer : List Event → Variables → Option (List ℕ) → Option (List ℕ) → Result Variables ScriptRunFault → Type 0
IsAnswer events vars old new (Ok after) =
    (answers : List Reply) × Happens vars events after answers × Appends old new (answer_lines answers)
IsAnswer events vars old new (Err running.Write) =
    (after : Variables) × (answers : List Reply) × Happens vars events after answers × AppendsFront old new (answer_lines answers)
IsAnswer events vars old new (Err running.OutOfMemory) = Keeps old new
IsAnswer events vars old new (Err other) = IsVarsFault vars other × Keeps old new
