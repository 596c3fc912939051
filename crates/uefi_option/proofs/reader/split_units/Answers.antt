use Rattle.std.proofs.Common.{arith}
use Rattle.uefi_option.proofs.Units.{one_unit, zero_unit}
use Rattle.uefi_option.proofs.reader.split_units.Goals as goal

pub returns-then-unit-eq0-clause-found : goal.returns-then-unit-eq0-clause-found
returns-then-unit-eq0-clause-found c =
    zero_unit c.units_are_read_again.ensures c.args.bytes.now c.loop-rest.rest.now c.from_le_bytes-unit.result
    c.split_at.result.0.now c.loop-rest.invariant (λ i. omega (arith, c.type_inv.bytes i))
    (record { enough = c.in-len2-up.len_at_least; is = c.from_le_bytes-unit.ensures }) c.if-unit-eq0.true c.split_at.ensures.front

pub loop-rest-preserved : goal.loop-rest-preserved
loop-rest-preserved c =
    one_unit c.args.bytes.now c.loop-rest.rest.now c.from_le_bytes-unit.result c.loop-rest.invariant (λ i. omega (arith, c.type_inv.bytes i))
    (record { enough = c.in-len2-up.len_at_least; is = c.from_le_bytes-unit.ensures }) c.if-unit-eq0.false
