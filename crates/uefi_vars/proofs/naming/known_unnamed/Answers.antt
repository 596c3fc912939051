use Rattle.std.proofs.Common.{sym, ap, ◌∙◌, is_some}
use Rattle.std.proofs.lemmas.Bool.{false≢true}
use Rattle.uefi_vars.specs.NamingChange.{IsKnownUnnamed}
use Rattle.uefi_vars.proofs.NamingChanges.{none_of}
use Rattle.uefi_vars.proofs.naming.known_unnamed.Goals as goal

pub returns-in-None : goal.returns-in-None
returns-in-None c =
    rw c.new.ensures.items
    (none_of (IsKnownUnnamed c.args.vars.now) (λ n known. false≢true (ap is_some (sym c.in-None.is) ∙ c.in_ok-at_risk.ensures.readable.1 known.readable)))
