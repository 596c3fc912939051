use Rattle.std.proofs.Common.{ℕ, ◌∷◌, [], ◌++◌, ◌-◌, length, drop, arith}
use Rattle.std.proofs.lemmas.List.{length-take, length-drop, take_all}
use Rattle.uefi_option.proofs.Lists.{one_path, takes_some}
use Rattle.uefi_option.proofs.reader.check_paths.Goals as goal

pub loop-rest-smaller : goal.loop-rest-smaller
loop-rest-smaller c =
    let front = c.in-Ok.ensures.found in
    let some = takes_some c.loop-rest.rest.now front.0 c.in-Ok.len front.1 in
    omega (arith, length-take {A = ℕ}, length-drop {A = ℕ}, front.1.within)

pub loop-rest-preserved : goal.loop-rest-preserved
loop-rest-preserved c =
    let paths = c.loop-rest.invariant.0 in
    let front = c.in-Ok.ensures.found in
    let rest = c.loop-rest.rest.now in
    rw (take_all (length rest - c.in-Ok.len) (drop c.in-Ok.len rest) (simp length-drop (omega arith)))
    (paths ++ front.0 ∷ [], one_path c.args.list.now paths rest front.0 c.in-Ok.len c.loop-rest.invariant.1 front.1)
