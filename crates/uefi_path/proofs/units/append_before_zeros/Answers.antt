use Rattle.std.proofs.Common.{◌≡◌, ℕ, ◌+◌, ◌*◌, ◌-◌, List, ◌++◌, length, replicate, ap, vec_len, ◌∙◌, arith}
use Rattle.uefi_path.proofs.TwoBytes.{IsOver, over_zeros_whole, units_length}
use Rattle.uefi_path.proofs.units.append_before_zeros.Goals as goal

pub returns-clause-ok : goal.returns-clause-ok
returns-clause-ok c =
    let start = c.len-start.result in
    let count = 2 * length c.args.units.now in
    let behind = c.args.zeros in
    let size : start + count - start ≡ count = omega arith in
    let over : IsOver c.args.out.now.items c.write_units.new.bytes c.resize.new.self.items start count behind = record {
      zeros = start + count + behind - vec_len c.args.out.now;
      zeros-is = omega (arith, c.len-start.ensures);
      start-is = omega (arith, c.len-start.ensures);
      room-is = c.in_ok-resize.ensures.items;
      len = ap length c.write_units.ensures ∙ units_length c.args.units.now;
    } in
    rw (c.deref_mut.ensures.value, size)
    (over_zeros_whole c.args.out.now.items c.write_units.new.bytes c.resize.new.self.items start count behind
    c.resize.new.self.len over (omega (arith, c.in_ok-resize.ensures.len))
    ∙ ap (λ (bytes : List ℕ). c.args.out.now.items ++ (bytes ++ replicate behind 0)) c.write_units.ensures)
