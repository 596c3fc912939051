use Rattle.std.proofs.Common.{sym, ◌∙◌}
use Rattle.uefi_option.specs.View.{ShowsOption}
use Rattle.uefi_vars.specs.Vars.{entry_of}
use Rattle.uefi_vars.proofs.Chosen.{normal_by}
use Rattle.uefi_vars.proofs.normal_entry.is_normal_entry.Goals as goal

pub returns-in-Some : goal.returns-in-Some
returns-in-Some c =
    let tells = normal_by (entry_of c.args.vars.now) ShowsOption c.args.number c.in-Some.bytes.now c.check_option.result
    c.in-Some.ensures.found c.check_option.ensures.found c.check_option.ensures.only in
    (λ told. tells.0 (sym c.is_ok.ensures.value ∙ told), λ has. c.is_ok.ensures.value ∙ tells.1 has)
