use Rattle.std.proofs.Common.{arith}
use Rattle.uefi_text.proofs.Bytes.Digits.{none_written, last_written, one_written}
use Rattle.uefi_text.proofs.print_parts.write_digits.Goals as goal

pub loop-rest-init : goal.loop-rest-init
loop-rest-init c = none_written c.args.number c.args.text.now (omega arith) c.told-text

pub returns-then-rest-eq0-clause-digits : goal.returns-then-rest-eq0-clause-digits
returns-then-rest-eq0-clause-digits c =
    let l = c.loop-rest in
    last_written c.args.number l.start l.rest l.text c.digit_of.result l.invariant c.digit_of.ensures c.if-rest-eq0.true

pub loop-rest-preserved : goal.loop-rest-preserved
loop-rest-preserved c =
    let l = c.loop-rest in
    one_written c.args.number l.start l.rest l.text c.digit_of.result l.invariant c.digit_of.ensures c.if-rest-eq0.false
