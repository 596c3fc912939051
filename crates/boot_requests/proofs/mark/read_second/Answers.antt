-- Bytes of version 2 are split into a next number, a length and outcomes: these spell a mark if the length fits both.
use Rattle.boot_requests.proofs.Variables.Marks.{second_whole, second_read}
use Rattle.boot_requests.proofs.mark.read_second.Goals as goal

pub returns-then-outcomes-len : goal.returns-then-outcomes-len
returns-then-outcomes-len c = λ mark h.
    c.if-outcomes-len.true (second_whole c.args.bytes.now c.in-Some.next_number c.in-Some.len c.in-Some.outcomes.now c.in-Some.ensures.found mark h)

pub invariant_of-result : goal.invariant_of-result
invariant_of-result c =
    (second_read c.args.bytes.now c.in-Some.next_number c.in-Some.len c.in-Some.outcomes.now c.in-Some.ensures.found c.in-Some-2.kept.items _ _
    (rw c.in-Some-2.is at c.in_ok-kept.ensures) c.kept_len.ensures c.if-len-kept_len.false c.kept_len-else-len-kept_len.ensures c.if-len-kept_len-2.false
    c.if-outcomes-len.false).is

pub returns-in-Some-2 : goal.returns-in-Some-2
returns-in-Some-2 c =
    second_read c.args.bytes.now c.in-Some.next_number c.in-Some.len c.in-Some.outcomes.now c.in-Some.ensures.found c.in-Some-2.kept.items _ _
    (rw c.in-Some-2.is at c.in_ok-kept.ensures) c.kept_len.ensures c.if-len-kept_len.false c.kept_len-else-len-kept_len.ensures c.if-len-kept_len-2.false
    c.if-outcomes-len.false
