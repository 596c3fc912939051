use Rattle.uefi_vars.specs.Vars.{IsVariable}
use Rattle.uefi_vars.specs.Records.{pair_of}
use Rattle.uefi_vars.proofs.Bytes.{all_at}
use Rattle.uefi_vars.proofs.writer.append_variables.Goals as goal

pub append_variable-requires : goal.append_variable-requires
append_variable-requires c = all_at IsVariable pair_of c.args.variables.now c.loop-variable.variable-index c.variable-item.result
    c.requires c.loop-variable-test.true c.variable-item.is
