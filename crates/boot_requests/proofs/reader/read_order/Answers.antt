use Rattle.std.proofs.Common.{◌≡◌, ◌%◌, length, sym, arith}
use Rattle.uefi_vars.proofs.Bytes.{recursion_from_bytes}
use Rattle.boot_requests.proofs.reader.read_order.Goals as goal

pub returns-clause-found : goal.returns-clause-found
returns-clause-found c =
    let even : length c.args.bytes.now % 2 ≡ 0 = omega arith in
    rw (c.new.ensures, c.in_ok-read_units.ensures)
    (sym (c.bytes_are_written_again.ensures c.args.bytes.now (recursion_from_bytes c.args.bytes.now (λ i. omega (arith, c.type_inv.bytes i))) even))

pub returns-clause-valid : goal.returns-clause-valid
returns-clause-valid c =
    rw (c.new.ensures, c.in_ok-read_units.ensures)
    (c.two_bytes_are_a_unit.ensures c.args.bytes.now (recursion_from_bytes c.args.bytes.now (λ i. omega (arith, c.type_inv.bytes i)))).0
