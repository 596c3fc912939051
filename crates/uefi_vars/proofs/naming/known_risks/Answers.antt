use Rattle.uefi_vars.specs.Order.{HasBadOrder}
use Rattle.uefi_vars.specs.AtRisk.{IsUnnamed}
use Rattle.uefi_vars.proofs.EntriesAtRisk.{those_along}
use Rattle.uefi_vars.specs.NamingChange.{AreReadable, IsKnownUnnamed}
use Rattle.uefi_vars.proofs.naming.known_risks.Goals as goal

pub returns-in-Ok-clause-unnamed : goal.returns-in-Ok-clause-unnamed
returns-in-Ok-clause-unnamed c =
    let vars = c.args.vars.now in
    let no_bad_order : HasBadOrder vars → ⊥ = λ bad. let err = c.entries_at_risk.ensures.bad_order.1 bad in cc c.in-Ok.is in
    let readable : AreReadable vars = record {
      order = no_bad_order;
      next = λ bad. let err = c.entries_at_risk.ensures.bad_next.1 (no_bad_order, bad) in cc c.in-Ok.is;
    } in
    those_along (IsUnnamed vars) (IsKnownUnnamed vars) c.in-Ok.at_risk.unnamed.items
    (λ n. (λ unnamed. record { readable = readable; unnamed = unnamed }, λ known. known.unnamed)) c.in-Ok.ensures.unnamed
