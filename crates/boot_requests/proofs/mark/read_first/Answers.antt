use Rattle.std.proofs.Common.{sym, subst, ◌∙◌}
use Rattle.boot_requests.specs.State.{IsMark}
use Rattle.boot_requests.proofs.Variables.Marks.{first_is, first_valid}
use Rattle.boot_requests.proofs.mark.read_first.Goals as goal

pub invariant_of-result : goal.invariant_of-result
invariant_of-result c =
    let read = rw c.in-Some-2.is at c.in_ok-kept.ensures in
    subst (IsMark c.in-Some.next_number) (sym read.3) (first_valid c.in-Some.next_number read.0
    (first_is c.args.bytes.now c.in-Some.next_number c.in-Some.len c.in-Some.codes.now c.in-Some.ensures.found read.0 read.1 read.2
    (c.if-len-kept_len.false ∙ c.kept_len.ensures) c.if-codes-len.false))
