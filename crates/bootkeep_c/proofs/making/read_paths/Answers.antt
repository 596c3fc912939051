use Rattle.std.proofs.Common.{ℕ, ◌-◌, ◌<◌, length, refl, ap, ◌∙◌, arith}
use Rattle.std.proofs.lemmas.List.{length-take, length-drop}
use Rattle.uefi_option.proofs.Lists.{takes_some}
use Rattle.bootkeep_c.specs.declared.failure.Failure.{Failure}
use Rattle.bootkeep_c.specs.Refusals.{list_failure}
use Rattle.bootkeep_c.proofs.PartsOfOptions.{bad_path}
use Rattle.bootkeep_c.proofs.making.read_paths.Goals as goal

pub loop-rest-smaller : goal.loop-rest-smaller
loop-rest-smaller c =
    let some = takes_some c.loop-rest.rest.now c.in-Ok.path c.in-Ok.len c.in-Ok.ensures.found in
    omega (arith, length-take {A = ℕ}, length-drop {A = ℕ}, c.in-Ok.ensures.found.within)

pub returns-in-Err-clause-fault : goal.returns-in-Err-clause-fault
returns-in-Err-clause-fault c = λ other.
    let some : 0 < length c.loop-rest.rest.now = grind (arith, c.is_empty.ensures, c.loop-rest-test.true) in
    bad_path c.args.list.now c.loop-rest.paths.items c.loop-rest.rest.now c.in-Err.fault
    (length c.args.list.now - length c.loop-rest.rest.now) c.in_list.result c.loop-rest.invariant some
    refl c.in-Err.ensures.fault (c.in_list.ensures ∙ ap (λ (f : Failure).
    list_failure (length c.args.list.now - length c.loop-rest.rest.now) f) c.from.ensures) other
