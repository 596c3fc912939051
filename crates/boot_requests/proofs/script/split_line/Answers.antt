use Rattle.std.proofs.Common.{◌≤◌, ◌+◌, ◌-◌, length, drop, sym, arith, length-drop}
use Rattle.std.proofs.lemmas.List.{take_all}
use Rattle.boot_requests.proofs.EventLists.Lines.{last_line, first_line}
use Rattle.boot_requests.proofs.script.split_line.Goals as goal

pub returns-in-None : goal.returns-in-None
returns-in-None c = last_line c.args.text.now (sym c.in-None.ensures)

pub returns-in-Some : goal.returns-in-Some
returns-in-Some c =
    let text = c.args.text.now in
    let behind = c.in-Some.len + 1 in
    let past : length (drop behind text) ≤ length text - behind = omega (arith, length-drop behind text) in
    rw (take_all _ _ past) (first_line text c.in-Some.len (sym c.in-Some.ensures))
