use Rattle.std.proofs.Common.{ap, ◌∙◌}
use Rattle.std.specs.Ordering.{is_lt}
use Rattle.uefi_vars.specs.Vars.{name_cmp}
use Rattle.uefi_vars.proofs.Readings.{rises_is}
use Rattle.uefi_vars.proofs.reader.rises.Goals as goal

pub returns-in-Some : goal.returns-in-Some
returns-in-Some c =
    rises_is c.args.variables.now c.in-Some.last.now c.args.name.now c.lt.result c.in-Some.ensures.value c.requires
    (c.lt.ensures ∙ ap (λ last. is_lt (name_cmp last c.args.name.now)) c.as_str.ensures)
