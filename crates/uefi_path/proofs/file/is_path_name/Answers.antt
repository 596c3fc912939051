use Rattle.std.proofs.Common.{◌∙◌}
use Rattle.uefi_path.proofs.Names.{unit_passed}
use Rattle.uefi_path.proofs.file.is_path_name.Goals as goal

pub loop-rest-preserved : goal.loop-rest-preserved
loop-rest-preserved c =
    unit_passed c.loop-rest.rest.now c.from_le_bytes.result
    (record { enough = c.in-len2-up.len_at_least; is = c.from_le_bytes.ensures }) c.if-from_le_bytes-eq0.false
    ∙ c.loop-rest.invariant
