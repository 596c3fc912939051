-- Each event and its answer, and then none is left.
use Rattle.std.proofs.Common.{◌≡◌, Bool, List, [], length, Option, rules, sym, ap, subst, ◌∙◌}
use Rattle.std.proofs.lemmas.List.{append-nil}
use Rattle.std.proofs.lemmas.Slice.Zip.{zip_end}
use Rattle.std.specs.Iterator.Adapters.{zip_first, zip_second}
use Rattle.std.specs.Slice.Iter.{iter_rest}
use Rattle.journaled_requests.specs.Applied.{SentFrames, sent_of}
use Rattle.journaled_requests.specs.Same.{AreTold}
use Rattle.journaled_requests.proofs.Follow.{none_sent, none_told}
use Rattle.journaled_requests.proofs.noted_run.follow.Goals as goal

pub returns-clause-applied : goal.returns-clause-applied
returns-clause-applied c =
    let events = c.args.events.now in
    let answers = c.args.answers.now in
    let first : iter_rest (zip_first c.into_iter-event-iterator.result) ≡ events = search rules in
    let second : iter_rest (zip_second c.into_iter-event-iterator.result) ≡ answers = search rules in
    let count =
    zip_end events answers c.loop-event.yielded c.into_iter-event-iterator.result c.loop-event.event-iterator c.next.new.self c.next.result first second
    c.loop-event.yielded_by c.in-None.is c.next.ensures.steps in
    let sent : SentFrames = sent_of c.loop-event.sent.waiting.items c.loop-event.sent.applied.items in
    ap (λ (s : SentFrames). s.applied) (sym (none_sent events answers (length c.loop-event.yielded) sent count) ∙ c.loop-event.invariant.sent)

pub returns-clause-same : goal.returns-clause-same
returns-clause-same c =
    let events = c.args.events.now in
    let answers = c.args.answers.now in
    let first : iter_rest (zip_first c.into_iter-event-iterator.result) ≡ events = search rules in
    let second : iter_rest (zip_second c.into_iter-event-iterator.result) ≡ answers = search rules in
    let count =
    zip_end events answers c.loop-event.yielded c.into_iter-event-iterator.result c.loop-event.event-iterator c.next.new.self c.next.result first second
    c.loop-event.yielded_by c.in-None.is c.next.ensures.steps in
    let sent : SentFrames = sent_of c.loop-event.sent.waiting.items c.loop-event.sent.applied.items in
    subst (λ (told : List (Option Bool)). AreTold c.args.before.now (sent_of [] []) events answers told) (append-nil c.loop-event.same.items)
    (c.loop-event.invariant.told [] (none_told events answers (length c.loop-event.yielded) c.args.before.now sent count))
