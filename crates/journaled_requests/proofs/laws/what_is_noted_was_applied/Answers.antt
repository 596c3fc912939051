use Rattle.std.proofs.Common.{[]}
use Rattle.journaled_requests.specs.Applied.{sent_of}
use Rattle.journaled_requests.proofs.Noted.{all_fit}
use Rattle.journaled_requests.proofs.laws.what_is_noted_was_applied.Goals as goal

pub returns : goal.returns
returns c = λ start events seen answers read told named.
    (all_fit start events seen answers [] (sent_of [] []) read told named (record { waiting = tt; applied = tt })).applied
