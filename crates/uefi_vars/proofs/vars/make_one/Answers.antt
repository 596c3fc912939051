use Rattle.std.proofs.Common.{sym, ap, ◌∙◌}
use Rattle.std.specs.FinMap.{from_sorted}
use Rattle.uefi_vars.specs.Records.{pairs_of, vars_of, without}
use Rattle.uefi_vars.specs.NameChanges.{with_data}
use Rattle.uefi_vars.proofs.Maps.{from_sorted-put, from_sorted-without}
use Rattle.uefi_vars.proofs.vars.make_one.Goals as goal

pub returns-in-Some-clause-made : goal.returns-in-Some-clause-made
returns-in-Some-clause-made c =
    let variables = c.args.variables.now.items in
    let name = c.args.change.name in
    ap from_sorted c.move_in.ensures.stored ∙ from_sorted-put (pairs_of variables) c.requires.rising name c.in-Some.«data»
    ∙ ap (λ d. with_data (vars_of variables) name d) (sym c.in-Some.is)

pub returns-in-None-clause-made : goal.returns-in-None-clause-made
returns-in-None-clause-made c =
    let variables = c.args.variables.now.items in
    let name = c.args.change.name in
    ap from_sorted (c.erase.ensures.erased ∙ ap (λ n. without n (pairs_of variables)) c.as_bytes.ensures)
    ∙ from_sorted-without (pairs_of variables) c.requires.rising name
    ∙ ap (λ d. with_data (vars_of variables) name d) (sym c.in-None.is)
