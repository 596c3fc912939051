-- The length that is stated is that of the field, or more bytes than there are.
use Rattle.std.proofs.Common.{inr, arith}
use Rattle.uefi_vars.specs.Fault.{StatesLength}
use Rattle.change_records.proofs.FieldLists.{stated_len, splits}
use Rattle.change_records.proofs.fields.split_field.Goals as goal

pub returns-then-len-behind-clause-none : goal.returns-then-len-behind-clause-none
returns-then-len-behind-clause-none c = λ _.
    let bytes = c.args.bytes.now in
    let first = c.in_ok-len.ensures.cases in
    let stated : StatesLength bytes c.from_le_bytes-len.result c.in_ok-len.behind.now =
    stated_len bytes c.in_ok-len.len.now c.in_ok-len.behind.now c.from_le_bytes-len.result (λ i. omega (arith, c.type_inv.bytes i))
    (omega (arith, first.2)) first.0 first.1 c.from_le_bytes-len.ensures in
    inr (record { len = c.from_le_bytes-len.result; behind = c.in_ok-len.behind.now; stated = stated; cut = omega (arith, c.if-len-behind.true) })

pub returns-clause-found : goal.returns-clause-found
returns-clause-found c =
    let bytes = c.args.bytes.now in
    let first = c.in_ok-len.ensures.cases in
    let stated : StatesLength bytes c.from_le_bytes-len.result c.in_ok-len.behind.now =
    stated_len bytes c.in_ok-len.len.now c.in_ok-len.behind.now c.from_le_bytes-len.result (λ i. omega (arith, c.type_inv.bytes i))
    (omega (arith, first.2)) first.0 first.1 c.from_le_bytes-len.ensures in
    splits bytes c.in_ok-len.behind.now c.from_le_bytes-len.result c.split_at.result.0.now c.split_at.result.1.now stated c.if-len-behind.false
    c.split_at.ensures.front c.split_at.ensures.back
