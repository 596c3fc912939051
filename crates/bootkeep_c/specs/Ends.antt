-- How a command ended whose moves C made, as C is told.
use Rattle.std.specs.Prelude.{◌≡◌, ℕ, length, slice_get, Option, Some, None, Result, Ok, Err}
use Rattle.boot_requests.specs.declared.answer.Answer.{Answer}
use Rattle.boot_requests.specs.declared.fault.OpenFault.TheVariants as opening
use Rattle.boot_edits.specs.declared.answer.EditAnswer.TheVariants as edited
use Rattle.boot_edits.specs.declared.run.EditRunFault.{EditRunFault}
use Rattle.boot_edits.specs.declared.run.EditRunFault.TheVariants as edit_run
use Rattle.boot_journal.specs.declared.machine.CallError.{CallError}
use Rattle.boot_journal.specs.declared.machine.CallError.TheVariants as call
use Rattle.boot_journal.specs.declared.machine.UpdateError.{UpdateError}
use Rattle.boot_journal.specs.declared.machine.UpdateError.TheVariants as update
use Rattle.boot_journal.specs.declared.machine.CommandError.{CommandError}
use Rattle.boot_journal.specs.declared.machine.CommandError.TheVariants as command
use Rattle.journaled_requests.specs.declared.requests.RunFault.{RunFault}
use Rattle.journaled_requests.specs.declared.requests.RunFault.TheVariants as run
use Rattle.bootkeep_c.specs.declared.end.EndNumbers.{EndNumbers}
use Rattle.bootkeep_c.specs.declared.failure.Failure.{Failure}
use Rattle.bootkeep_c.specs.declared.failure.Failure.TheVariants as failure
use Rattle.bootkeep_c.specs.declared.refusal.Refusal.{Refusal}
use Rattle.bootkeep_c.specs.declared.reply.ReplyNumbers.{ReplyNumbers}
use Rattle.bootkeep_c.specs.declared.wanted_run.RunAnswer.{RunAnswer}
use Rattle.bootkeep_c.specs.declared.wanted_run.RunAnswer.TheVariants as answer
use Rattle.bootkeep_c.specs.declared.wanted_run.RunRefusal.{RunRefusal}
use Rattle.bootkeep_c.specs.declared.wanted_run.RunRefusal.TheVariants as refusal
use Rattle.bootkeep_c.specs.Status.{done, absent}
use Rattle.bootkeep_c.specs.Plans.{no_entry}
use Rattle.bootkeep_c.specs.Refusals.{no_kind, edit_failure}
use Rattle.bootkeep_c.specs.Replies.{reply_numbers}

-- how a command ended
abbrev pub Outcome : Type 0
Outcome = Result RunAnswer (CommandError ℕ RunRefusal)

-- the number that the caller gave for why it refused a move
abbrev pub reason_number : CallError ℕ → ℕ
reason_number call.OutOfMemory = 0
reason_number (call.Refused reason) = reason

abbrev pub second_number : Option (CallError ℕ) → ℕ
second_number None = 0
second_number (Some why) = reason_number why

-- why the run refused the variables
abbrev pub run_fault_number : RunFault → ℕ
run_fault_number (run.Open opening.BadOrder) = 0x0501
run_fault_number (run.Open opening.BadNext) = 0x0502
run_fault_number (run.Open opening.BadState) = 0x0503
run_fault_number (run.Open opening.OutOfMemory) = no_kind
run_fault_number run.NoData = 0x0D03
run_fault_number run.TooLong = 0x0D04

-- the number of the kind of a failure
abbrev pub kind_of : Failure → ℕ
kind_of (failure.Refused told) = told.kind
kind_of failure.Memory = no_kind

abbrev pub edit_fault_number : EditRunFault → ℕ
edit_fault_number (edit_run.Edit fault) = kind_of (edit_failure fault)
edit_fault_number edit_run.NoData = 0x0D03
edit_fault_number edit_run.TooLong = 0x0D04

abbrev pub refusal_number : RunRefusal → ℕ
refusal_number (refusal.Frames fault) = run_fault_number fault
refusal_number (refusal.Edit fault) = edit_fault_number fault

abbrev pub end_of : ℕ → ℕ → ℕ → ℕ → ℕ → EndNumbers
end_of size kind reason second fault = record {
  size = size;
  kind = kind;
  reason = reason;
  second_reason = second;
  fault = fault;
  replies = 0;
  edited = 0;
  entry = no_entry;
}

-- of a change that has happened
abbrev pub happened : ℕ → RunAnswer → EndNumbers
happened size answer.Done = end_of size 1 0 0 no_kind
happened size (answer.Replies replied) = record (end_of size 1 0 0 no_kind) { replies = length replied.answers.items }
happened size (answer.Edited edited.Done) = end_of size 1 0 0 no_kind
happened size (answer.Edited (edited.Added entry)) = record (end_of size 1 0 0 no_kind) { edited = 1; entry = entry }
happened size (answer.Edited (edited.Present entry)) = record (end_of size 1 0 0 no_kind) { edited = 2; entry = entry }

-- an update, or a settling, that failed: the first number says that it was taken back, and the second one that it wasn't
abbrev pub update_end : ℕ → ℕ → ℕ → UpdateError ℕ → EndNumbers
update_end size back left update.OutOfMemory = end_of size 7 0 0 no_kind
update_end size back left (update.TakenBack why) = end_of size back (reason_number why) 0 no_kind
update_end size back left (update.Unsettled why second) = end_of size left (reason_number why) (second_number second) no_kind

-- how it ended
abbrev pub end_numbers : ℕ → Outcome → EndNumbers
end_numbers size (Ok told) = happened size told
end_numbers size (Err (command.Settling why)) = update_end size 2 3 why
end_numbers size (Err (command.Run fault)) = end_of size 4 0 0 (refusal_number fault)
end_numbers size (Err (command.Updating why)) = update_end size 5 6 why
end_numbers size (Err command.OutOfMemory) = end_of size 7 0 0 no_kind

-- What comes of a call that tells how the command ended: the struct has to state a size that is large enough, and the command
-- has to have ended.
abbrev pub TellsEnd : Option Outcome → ℕ → EndNumbers → EndNumbers → Type 0
TellsEnd (Some ended) status old new = (status ≡ done) × (new ≡ end_numbers old.size ended)
TellsEnd None status old new = (status ≡ absent) × (new ≡ old)

-- the answer at this place, if there is one
abbrev pub answer_at : Option Outcome → ℕ → Option Answer
answer_at (Some (Ok (answer.Replies replied))) at = slice_get replied.answers.items at
answer_at _ at = None

-- what comes of a call that tells a reply
abbrev pub TellsReply : Option Answer → ℕ → ReplyNumbers → ReplyNumbers → Type 0
TellsReply (Some answer) status old new = (status ≡ done) × (new ≡ reply_numbers old.size answer.reply)
TellsReply None status old new = (status ≡ absent) × (new ≡ old)
