use Rattle.std.proofs.Common.{arith, length, ap, ◌∙◌}
use Rattle.uefi_path.proofs.Views.{first_row}
use Rattle.uefi_path.proofs.view.NodeIterIterator.next.Goals as goal

pub returns-clause-steps : goal.returns-clause-steps
returns-clause-steps c =
    first_row c.args.self.now.bytes.now c.from-len.result c.split_at.result.0.now c.split_at.result.1.now
    c.in-len4-up.len_at_least (c.from-len.ensures ∙ c.from_le_bytes.ensures)
    (omega (arith, c.if-len-lt-HEADER_LEN.false)) (omega (arith, c.if-len-self.false)) c.split_at.ensures.front
    c.split_at.ensures.back

pub returns-clause-goes : goal.returns-clause-goes
returns-clause-goes c =
    let left = returns-clause-steps c in
    record { on = λ finite. (tt, tt, omega (arith, ap length left)); keeps = tt; rests = λ finite. tt }
