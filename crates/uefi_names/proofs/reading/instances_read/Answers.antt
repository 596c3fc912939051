use Rattle.std.proofs.Common.{map}
use Rattle.uefi_names.specs.Reading.{IsNamedInstance}
use Rattle.uefi_names.proofs.Finds.{all_read}
use Rattle.uefi_names.proofs.reading.instances_read.Goals as goal

pub returns : goal.returns
returns c =
    all_read (IsNamedInstance c.args.table.now) (map (λ text. text.now) c.args.texts.now) _ _ c.in_default.ensures.none c.loop-text.invariant.read
