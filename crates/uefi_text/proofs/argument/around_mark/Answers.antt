use Rattle.std.proofs.Common.{◌≤◌, ◌+◌, ◌-◌, length, drop, sym, refl, arith, length-drop}
use Rattle.std.proofs.lemmas.List.{take_all}
use Rattle.uefi_text.proofs.Read.Marks.{around_found, place_none, lacks_from}
use Rattle.uefi_text.proofs.argument.around_mark.Goals as goal

pub returns-in-None : goal.returns-in-None
returns-in-None c = lacks_from c.args.mark c.args.text.now (place_none _ c.args.text.now (sym c.in-None.ensures))

pub returns-in-Some : goal.returns-in-Some
returns-in-Some c =
    let past : length (drop (c.in-Some.len + 1) c.args.text.now) ≤ length c.args.text.now - (c.in-Some.len + 1) =
    omega (arith, length-drop (c.in-Some.len + 1) c.args.text.now) in
    around_found c.args.mark c.args.text.now c.in-Some.len _ _ (sym c.in-Some.ensures) refl (take_all _ _ past)
