use Rattle.std.proofs.Common.{Some, refl, sym}
use Rattle.uefi_vars.proofs.Plans.{choice_of}
use Rattle.uefi_vars.proofs.planner.next_number.Goals as goal

pub returns-in-Ok : goal.returns-in-Ok
returns-in-Ok c =
    let found = c.in-Ok.ensures.found in
    rw c.in_ok-number.was (
      Some (choice_of c.in_ok-number.number found.0),
      (refl, record { bytes = c.in_ok-bytes.bytes.now; stored = sym c.in_ok-bytes.ensures.value; spelled = found.1 }),
      refl,
    )
