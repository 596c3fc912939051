-- The words of faults, requests, outcomes and replies. Those of a fault: its name, and after one blank the words of the fault
-- that it holds.
use Rattle.std.specs.Prelude.{ℕ, List, [], ◌++◌, codes, Option, Some, None}
use Rattle.std.specs.Fmt.{decimal}
use Rattle.uefi_option.specs.Words.{option_fault_words}
use Rattle.uefi_vars.specs.Words.{number_words, plan_words}
use Rattle.boot_requests.specs.declared.fault.FeedFault.{FeedFault}
use Rattle.boot_requests.specs.declared.fault.FeedFault.TheVariants as feeding
use Rattle.boot_requests.specs.declared.fault.FrameFault.{FrameFault}
use Rattle.boot_requests.specs.declared.fault.FrameFault.TheVariants as frame
use Rattle.boot_requests.specs.declared.fault.OpenFault.{OpenFault}
use Rattle.boot_requests.specs.declared.fault.OpenFault.TheVariants as opening
use Rattle.boot_requests.specs.declared.outcome.Code.{Code}
use Rattle.boot_requests.specs.declared.outcome.Code.TheVariants as code
use Rattle.boot_requests.specs.declared.outcome.Outcome.{Outcome}
use Rattle.boot_requests.specs.declared.reply.Reply.{Reply}
use Rattle.boot_requests.specs.declared.reply.Reply.TheVariants as reply
use Rattle.boot_requests.specs.declared.request.Request.{Request}
use Rattle.boot_requests.specs.declared.request.Request.TheVariants as request

abbrev pub frame_fault_words : FrameFault → List ℕ
frame_fault_words (frame.Short found) = codes "Short"
frame_fault_words frame.BadMagic = codes "BadMagic"
frame_fault_words frame.BadVersion = codes "BadVersion"
frame_fault_words frame.TooLong = codes "TooLong"
frame_fault_words (frame.BadSize stated found) = codes "BadSize"
frame_fault_words frame.BadKind = codes "BadKind"
frame_fault_words frame.BadNumber = codes "BadNumber"
frame_fault_words frame.BadPayload = codes "BadPayload"
frame_fault_words (frame.Option option_fault) = codes "Option " ++ option_fault_words option_fault
frame_fault_words frame.OutOfMemory = codes "OutOfMemory"

abbrev pub feed_fault_words : FeedFault → List ℕ
feed_fault_words feeding.BadMagic = codes "BadMagic"
feed_fault_words feeding.BadVersion = codes "BadVersion"
feed_fault_words feeding.TooLong = codes "TooLong"
feed_fault_words feeding.OutOfMemory = codes "OutOfMemory"

abbrev pub open_fault_words : OpenFault → List ℕ
open_fault_words opening.BadOrder = codes "BadOrder"
open_fault_words opening.BadNext = codes "BadNext"
open_fault_words opening.BadState = codes "BadState"
open_fault_words opening.OutOfMemory = codes "OutOfMemory"

-- what a request is called
abbrev pub request_name : Request → List ℕ
request_name (request.Add entry option) = codes "add"
request_name (request.Replace entry option) = codes "replace"
request_name (request.Remove entry) = codes "remove"
request_name (request.Order numbers) = codes "order"
request_name (request.Next entry) = codes "next"
request_name (request.AddFree option) = codes "add-free"
request_name (request.AddFirst option) = codes "add-first"
request_name (request.First entry) = codes "first"

-- the code's name
abbrev pub code_words : Code → List ℕ
code_words code.Done = codes "Done"
code_words code.Exists = codes "Exists"
code_words code.Missing = codes "Missing"
code_words code.OrderRepeats = codes "OrderRepeats"
code_words code.OrderUnknown = codes "OrderUnknown"
code_words code.NoFree = codes "NoFree"

-- the digits of the entry that is told, after one blank
abbrev pub entry_words : Option ℕ → List ℕ
entry_words None = []
entry_words (Some entry) = number_words entry

-- an outcome: the name of its code, and its entry, if it tells one
abbrev pub outcome_words : Outcome → List ℕ
outcome_words outcome = code_words outcome.code ++ entry_words outcome.entry

-- a reply in one line, without the line feed that ends it
abbrev pub line_of : Reply → List ℕ
line_of (reply.Malformed fault) = codes "malformed " ++ frame_fault_words fault
line_of (reply.Repeat outcome) = codes "repeat " ++ outcome_words outcome
line_of reply.Old = codes "old"
line_of (reply.Ahead next) = codes "ahead " ++ decimal next
line_of reply.Conflict = codes "conflict"
line_of (reply.Waiting next) = codes "waiting " ++ decimal next
line_of (reply.Applied outcome next) = codes "applied " ++ (outcome_words outcome ++ (codes " " ++ decimal next))
line_of (reply.Prepared count) = codes "prepared " ++ decimal count
line_of reply.AlreadyPrepared = codes "already prepared"
line_of (reply.Plan plan) = plan_words plan
line_of reply.NothingPrepared = codes "nothing prepared"
line_of (reply.Restarted next) = codes "restarted " ++ decimal next
