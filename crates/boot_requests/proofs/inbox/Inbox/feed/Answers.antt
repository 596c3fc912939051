-- What is cut of a piece leads from what is kept of the stream before it to what is kept of both.
use Rattle.std.proofs.Common.{ℕ, List, Option, Some, Err, sym, ap, ◌∙◌}
use Rattle.boot_requests.specs.declared.fault.FeedFault.{FeedFault}
use Rattle.boot_requests.specs.Stream.{Kept, kept_in}
use Rattle.boot_requests.proofs.Streams.Feeding.{not_memory, open_held, fault_held, feeds_open, feeds_fault, feeds_again}
use Rattle.boot_requests.proofs.inbox.Inbox.feed.Goals as goal

pub returns-in-Some-clause-fed : goal.returns-in-Some-clause-fed
returns-in-Some-clause-fed c = λ other stream cut is same.
    let found = ap (λ (k : Kept). k.fault) (sym same ∙ sym c.self.view_is) ∙ c.in-Some.is in
    feeds_again stream c.args.bytes.now cut c.in-Some.fault c.args.frames.now.items c.args.self.now is found same

pub invariant_of-self : goal.invariant_of-self
invariant_of-self c = open_held c.take_piece.new.held.items c.in-Ok.missing c.self.inside.fault c.in_default.is c.in-Ok.ensures.cuts.0

pub returns-in-Ok-clause-fed : goal.returns-in-Ok-clause-fed
returns-in-Ok-clause-fed c = λ other stream cut is same.
    let none = c.in_default.is in
    feeds_open stream c.args.bytes.now c.self.inside.held.items c.take_piece.new.held.items cut c.self.inside.fault c.args.frames.now.items
    c.take_piece.new.frames.items _ none
    (c.self.view_is ∙ same) is c.in-Ok.ensures.cuts.0.0 c.in-Ok.ensures.cuts.1 (ap (λ (f : Option FeedFault). kept_in c.take_piece.new.held.items f) none)

pub returns-in-Ok-clause-valid : goal.returns-in-Ok-clause-valid
returns-in-Ok-clause-valid c = (open_held c.take_piece.new.held.items c.in-Ok.missing c.self.inside.fault c.in_default.is c.in-Ok.ensures.cuts.0).kept

pub invariant_of-self-in-Err-2 : goal.invariant_of-self-in-Err-2
invariant_of-self-in-Err-2 c =
    let bad = c.in-Err.ensures.fault (not_memory c.in-Err.fault c.if-eq.ensures) in
    fault_held c.clear.new.self.items bad.0 c.self.inside.missing c.in-Err.fault c.clear.ensures.items bad.1

pub returns-in-Err-2-clause-fed : goal.returns-in-Err-2-clause-fed
returns-in-Err-2-clause-fed c = λ other stream cut is same.
    let bad = c.in-Err.ensures.fault (λ e. other (ap Err e)) in
    feeds_fault stream c.args.bytes.now c.self.inside.held.items bad.0 cut c.self.inside.fault c.in-Err.fault c.args.frames.now.items
    c.take_piece.new.frames.items _ c.in_default.is
    (c.self.view_is ∙ same) is bad.1 bad.2 (ap (λ (t : List ℕ). kept_in t (Some c.in-Err.fault)) c.clear.ensures.items)

pub returns-in-Err-2-clause-valid : goal.returns-in-Err-2-clause-valid
returns-in-Err-2-clause-valid c =
    let bad = c.in-Err.ensures.fault (not_memory c.in-Err.fault c.if-eq.ensures) in
    (fault_held c.clear.new.self.items bad.0 c.self.inside.missing c.in-Err.fault c.clear.ensures.items bad.1).kept
