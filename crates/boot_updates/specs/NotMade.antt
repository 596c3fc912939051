-- Why an update wasn't made, and what is to be done about it.
use Rattle.std.specs.Prelude.{ℕ, ◌^◌, nat_lt, List, ◌++◌, codes, Option, Some, None, if◌then◌else◌}
use Rattle.boot_requests.specs.declared.script_fault.ScriptFault.TheVariants as fault
use Rattle.boot_requests.specs.ScriptWords.{script_fault_words}
use Rattle.boot_requests.specs.Words.{open_fault_words}
use Rattle.request_texts.specs.declared.refusal.Remedy.{Remedy}
use Rattle.request_texts.specs.declared.refusal.Remedy.TheVariants as remedy
use Rattle.messages.specs.declared.failure.Failure.{Failure}
use Rattle.messages.specs.declared.failure.Failure.TheVariants as failure
use Rattle.boot_updates.specs.declared.not_made.Refused.{Refused}
use Rattle.boot_updates.specs.declared.not_made.Refused.TheVariants as refused

-- what is refused, unless memory was
abbrev pub refused_for : Refused → Failure → Option Refused
refused_for why failure.Memory = None
refused_for why other = Some why

-- the number, if four bytes hold it
abbrev pub told_count : ℕ → Option ℕ
told_count count = if nat_lt count (2 ^ 32) then Some count else None

-- the line of a script's fault, or how many bytes are left of a stream
abbrev pub count_of : Option Refused → Option ℕ
count_of (Some (refused.Script (fault.BadLine count))) = told_count count
count_of (Some (refused.Script (fault.Rest count))) = told_count count
count_of other = None

-- what is to be done about a failure: to send the update again if nothing of it is there, to wait if another program is at
-- work, and otherwise to look at the machine
abbrev pub remedy_after : Failure → Remedy
remedy_after (failure.TakenBack text) = remedy.SendAgain
remedy_after failure.Memory = remedy.SendAgain
remedy_after (failure.Busy name) = remedy.Wait
remedy_after (failure.Held name) = remedy.Wait
remedy_after other = remedy.MendMachine

-- the same of a script or variables that are refused: one is sent again, the others are mended
abbrev pub remedy_of : Option Refused → Failure → Remedy
remedy_of None failure = remedy_after failure
remedy_of (Some (refused.Script fault)) failure = remedy.SendAgain
remedy_of (Some refused.LeftOut) failure = remedy.MendMachine
remedy_of (Some (refused.Open fault)) failure = remedy.MendMachine

-- a failure in a word
abbrev pub failure_word : Failure → List ℕ
failure_word (failure.Words text) = codes "Words"
failure_word (failure.Read name error) = codes "Read"
failure_word (failure.Write name error) = codes "Write"
failure_word (failure.TakenBack text) = codes "TakenBack"
failure_word (failure.Unsettled text) = codes "Unsettled"
failure_word (failure.Busy name) = codes "Busy"
failure_word (failure.Held name) = codes "Busy"
failure_word failure.Memory = codes "OutOfMemory"
failure_word failure.Closed = codes "Closed"
failure_word other = codes "Refused"

-- what kept an update from being made: the words of what is refused, without a script's number, or the failure's word
abbrev pub kind_of : Option Refused → Failure → List ℕ
kind_of None failure = failure_word failure
kind_of (Some (refused.Script (fault.BadLine count))) failure = codes "BadLine"
kind_of (Some (refused.Script (fault.Rest count))) failure = codes "Rest"
kind_of (Some (refused.Script other)) failure = script_fault_words other
kind_of (Some refused.LeftOut) failure = codes "LeftOut"
kind_of (Some (refused.Open fault)) failure = codes "Open " ++ open_fault_words fault
