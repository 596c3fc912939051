use Rattle.std.proofs.Common.{ap, ◌∙◌}
use Rattle.uefi_vars.specs.Records.{vars_of}
use Rattle.uefi_vars.proofs.Maps.{vars_of_none}
use Rattle.uefi_vars.proofs.vars.Vars.new.Goals as goal

pub returns : goal.returns
returns c = ap vars_of c.new.ensures.items ∙ vars_of_none
