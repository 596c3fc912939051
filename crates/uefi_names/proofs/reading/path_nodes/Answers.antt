use Rattle.std.proofs.Common.{map}
use Rattle.std.proofs.lemmas.Result.{IfOk-weaker}
use Rattle.std.specs.Option.{option_map}
use Rattle.uefi_text.specs.Bytes.{Each}
use Rattle.uefi_text.specs.Segment.{comma}
use Rattle.uefi_names.specs.Cut.{pieces, segments_in}
use Rattle.uefi_names.specs.Reading.{IsNamedSegment}
use Rattle.uefi_names.proofs.Finds.{found_mapped}
use Rattle.uefi_names.proofs.reading.path_nodes.Goals as goal

pub returns : goal.returns
returns c =
    IfOk-weaker c.instances_read.result _ _
    (λ read h. found_mapped (Each (IsNamedSegment c.args.table.now)) segments_in (pieces comma c.args.text.now) (option_map (λ all. map (λ nodes. nodes.items) all.items) read) h)
    (rw (c.deref.ensures.value, c.in_ok-texts.ensures) at c.instances_read.ensures)
