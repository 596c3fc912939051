use Rattle.std.proofs.Common.{sym, subst, true≢false, ◌∙◌}
use Rattle.uefi_text.specs.Fault.{ClosesSegment}
use Rattle.uefi_text.proofs.Read.Cuts.{same_bare_parts}
use Rattle.uefi_text.proofs.segment.cut_bare.Goals as goal

pub returns-then-ends_segment-clause-only : goal.returns-then-ends_segment-clause-only
returns-then-ends_segment-clause-only c =
    λ path_name behind front. same_bare_parts c.args.text.now path_name behind _ _ front c.split_bare.ensures

pub returns-else-ends_segment-clause-only : goal.returns-else-ends_segment-clause-only
returns-else-ends_segment-clause-only c =
    λ path_name behind front.
    let same = same_bare_parts c.args.text.now path_name behind _ _ front c.split_bare.ensures in
    let closed = subst ClosesSegment (sym same.1) front.closed in
    absurd (true≢false (sym (c.ends_segment.ensures.1 closed) ∙ c.if-ends_segment.false))
