use Rattle.std.proofs.Common.{ℕ, subst, sym}
use Rattle.boot_requests.specs.Followers.{AreThere, AreFollowers}
use Rattle.boot_requests.proofs.Answering.Followers.{turn_there}
use Rattle.boot_requests.proofs.answer.answer_event.Goals as goal

pub followers-requires : goal.followers-requires
followers-requires c =
    let next = c.next_number-number in
    let done = c.in_ok-reply in
    let some = c.each_event_is_seen.ensures c.args.event.now c.next_reply.ensures.valid in
    subst (λ (n : ℕ). AreThere n c.next_reply.new.keeper.state done.reply) (sym next.ensures.number)
    (turn_there c.args.keeper.now c.next_reply.new.keeper some.0 done.reply next.ensures.valid.waiting (done.ensures.turn some.0 some.1))

pub returns : goal.returns
returns c =
    let done = c.in_ok-reply in
    let followers = c.in_ok-followers.followers in
    record {
      turn = done.ensures.turn;
      request = λ seen is. c.request_of-request.ensures c.args.keeper.now c.next_reply.new.keeper seen is (done.ensures.turn seen is);
      followers = subst (λ (n : ℕ). AreFollowers n c.next_reply.new.keeper.state done.reply followers.items) c.next_number-number.ensures.number
          c.in_ok-followers.ensures;
    }
