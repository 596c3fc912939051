use Rattle.std.proofs.Common.{◌≤◌, ◌+◌, ◌-◌, length, drop, sym, refl, arith, length-drop}
use Rattle.std.proofs.lemmas.List.{take_all}
use Rattle.partitions.specs.Cut.{cut_of}
use Rattle.partitions.proofs.cut.cut.Goals as goal

pub returns-in-None : goal.returns-in-None
unfolding cut_of
returns-in-None c = let place = sym c.in-None.ensures in rw place refl

pub returns-in-Some : goal.returns-in-Some
unfolding cut_of
returns-in-Some c =
    let text = c.args.text.now in
    let next = c.in-Some.at + 1 in
    let past : length (drop next text) ≤ length text - next = omega (arith, length-drop next text) in
    let place = sym c.in-Some.ensures in
    rw (take_all _ _ past, place) refl
