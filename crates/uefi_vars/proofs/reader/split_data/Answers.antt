use Rattle.std.proofs.Common.{◌≡◌, ◌∙◌, ◌-◌, ap, arith, length, take, drop}
use Rattle.std.proofs.lemmas.List.{take_all, length-drop}
use Rattle.uefi_vars.proofs.Readings.{front_states, bad_length, data_read}
use Rattle.uefi_vars.proofs.reader.split_data.Goals as goal

pub returns-then-len-eq0-clause-fault : goal.returns-then-len-eq0-clause-fault
returns-then-len-eq0-clause-fault c =
    bad_length c.args.bytes.now c.from_le_bytes-len.result (drop 4 c.args.bytes.now) c.args.place
    (front_states c.args.bytes.now c.from_le_bytes-len.result (λ i. omega (arith, c.type_inv.bytes i)) c.in-len4-up.len_at_least
    c.from_le_bytes-len.ensures) c.then-len-eq0.either

pub returns-clause-found : goal.returns-clause-found
returns-clause-found c =
    let bytes = c.args.bytes.now in
    let all : take (length bytes - 4) (drop 4 bytes) ≡ drop 4 bytes = take_all (length bytes - 4) (drop 4 bytes) (omega (arith, length-drop 4 bytes)) in
    let within = rw all at c.if-len-behind.false in
    data_read bytes c.from_le_bytes-len.result (drop 4 bytes) c.split_at.result.0.now c.split_at.result.1.now (λ i. omega (arith, c.type_inv.bytes i))
    (front_states bytes c.from_le_bytes-len.result (λ i. omega (arith, c.type_inv.bytes i)) c.in-len4-up.len_at_least
    c.from_le_bytes-len.ensures) c.if-len-eq0.false c.if-len-gt-DATA_MAX.false within
    (c.split_at.ensures.front ∙ ap (take c.from_le_bytes-len.result) all) (c.split_at.ensures.back ∙ ap (drop c.from_le_bytes-len.result) all)
