use Rattle.std.proofs.Common.{ℕ, arith}
use Rattle.std.proofs.lemmas.List.{length-take, length-drop}
use Rattle.uefi_option.proofs.Lists.{takes_some}
use Rattle.uefi_option.proofs.reader.read_paths.Goals as goal

pub loop-rest-smaller : goal.loop-rest-smaller
loop-rest-smaller c =
    let some = takes_some c.loop-rest.rest.now c.in-Ok.path c.in-Ok.len c.in-Ok.ensures.found in
    omega (arith, length-take {A = ℕ}, length-drop {A = ℕ}, c.in-Ok.ensures.found.within)
