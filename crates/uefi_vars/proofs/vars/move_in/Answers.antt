use Rattle.std.proofs.Common.{sym, subst}
use Rattle.uefi_vars.specs.Records.{pairs_of, AreVariables, IsPlace}
use Rattle.uefi_vars.proofs.Maps.{AreVariables-put}
use Rattle.uefi_vars.proofs.vars.move_in.Goals as goal

pub set_at-requires-clause-place : goal.set_at-requires-clause-place
set_at-requires-clause-place c =
    let name = c.args.variable.name in
    (name, subst (λ l. IsPlace (pairs_of l) name c.place_of-place.result) c.deref.ensures.value c.place_of-place.ensures)

pub returns-clause-held : goal.returns-clause-held
returns-clause-held c =
    let variables = c.args.variables.now.items in
    let name = c.args.variable.name in
    let stored = c.set_at.ensures.stored name (subst (λ l. IsPlace (pairs_of l) name c.place_of-place.result) c.deref.ensures.value c.place_of-place.ensures) in
    subst AreVariables (sym stored) (AreVariables-put (pairs_of variables) c.requires.rising name c.args.variable.kept c.requires.valid)
