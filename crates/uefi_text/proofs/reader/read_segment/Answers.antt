use Rattle.std.proofs.Common.{◌≡◌, ◌≤◌, ◌+◌, ◌-◌, length, length-append, refl, ap, arith}
use Rattle.uefi_text.specs.declared.fault.TextFault.TheVariants as text
use Rattle.uefi_text.specs.Cuts.{text_of}
use Rattle.uefi_text.proofs.Read.Node.{segment_refused, segment_wanted, begins_with}
use Rattle.uefi_text.proofs.reader.read_segment.Goals as goal

pub returns-in_default-clause-fault : goal.returns-in_default-clause-fault
returns-in_default-clause-fault c =
    λ _. record { no_node = c.in_default.ensures.only; place = refl }

pub returns-in-Err-clause-fault : goal.returns-in-Err-clause-fault
returns-in-Err-clause-fault c =
    let place = c.args.len - length c.args.text.now in
    let end = place + length (text_of c.in-Some.segment) in
    let within : end ≤ c.args.len = omega (arith, c.requires, simp length-append at (ap length c.in-Some.ensures.found.parts)) in
    segment_refused c.args.text.now c.in-Some.segment c.in-Err.fault c.in_text.result end c.args.len
    (λ begins. (c.in-Some.ensures.only begins).0) within c.in-Err.ensures c.in_text.ensures

pub returns-in-Err-clause-memory : goal.returns-in-Err-clause-memory
returns-in-Err-clause-memory c = λ e.
    let place = c.args.len - length c.args.text.now in
    let told : c.in_text.result ≡ text.OutOfMemory = cc in
    let wanted = segment_wanted c.in-Some.segment c.in-Err.fault c.in_text.result place
    (place + length (text_of c.in-Some.segment)) c.in-Err.ensures c.in_text.ensures told in
    begins_with c.args.text.now c.in-Some.segment c.in-Some.rest.now wanted.0 c.in-Some.ensures.found wanted.1
