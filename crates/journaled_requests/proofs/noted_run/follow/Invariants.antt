-- What is left of the events leads to what all of them do, and what is told of it behind what was told is told of all.
use Rattle.std.proofs.Common.{◌≡◌, ◌++◌, Bool, List, [], length, Option}
use Rattle.journaled_requests.specs.Applied.{sent_of, after_answers}
use Rattle.journaled_requests.specs.Same.{AreTold}
use Rattle.journaled_requests.proofs.Follow.{rest_sent, RestTold}
use Rattle.journaled_requests.proofs.noted_run.follow.Given as goal

abbrev pub invariant-loop-event : goal.invariant-loop-event
invariant-loop-event l = record {
  sent :
      rest_sent (sent_of l.sent.waiting.items l.sent.applied.items) l.events l.answers (length l.yielded)
      ≡ after_answers (sent_of [] []) l.events l.answers;
  told :
      (told : List (Option Bool)) →
      RestTold l.before (sent_of l.sent.waiting.items l.sent.applied.items) l.events l.answers (length l.yielded) told →
      AreTold l.before (sent_of [] []) l.events l.answers (l.same.items ++ told);
}
