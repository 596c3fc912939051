use Rattle.std.proofs.Common.{sym, subst, true≢false, ◌∙◌}
use Rattle.uefi_text.specs.Fault.{ClosesSegment}
use Rattle.uefi_text.specs.Cuts.{open_mark}
use Rattle.uefi_text.specs.Within.{Lacks}
use Rattle.uefi_text.proofs.Read.Cuts.{same_parts, has_open, has_close, has_some}
use Rattle.uefi_text.proofs.segment.cut_named.Goals as goal
use Rattle.uefi_text.proofs.segment.cut_named.Goals.{then-contains-via-then-contains, then-contains-via-else-contains+then-not-ends_segment}

pub returns-in_err-name-clause-only : goal.returns-in_err-name-clause-only
returns-in_err-name-clause-only c =
    λ name inside behind front. absurd (has_open c.args.text.now name inside behind front c.in_err-name.ensures)

pub returns-in_err-inside-clause-only : goal.returns-in_err-inside-clause-only
returns-in_err-inside-clause-only c =
    λ name inside behind front.
    absurd (has_close c.args.text.now name inside behind _ _ front c.in_ok-name.ensures c.in_err-inside.ensures)

pub returns-then-contains-clause-only : goal.returns-then-contains-clause-only
returns-then-contains-clause-only c =
    λ name inside behind front.
    let same = same_parts c.args.text.now name inside behind _ _ _ _ front c.in_ok-name.ensures c.in_ok-inside.ensures in
    elim c.then-contains.branch [
      | then-contains-via-then-contains w ↦
          has_some open_mark c.in_ok-inside.inside.now (subst (Lacks open_mark) (sym same.same_inside) front.no_open)
          (sym c.contains.ensures.value ∙ w.if-contains.true)
      | then-contains-via-else-contains+then-not-ends_segment w ↦
          let closed = subst ClosesSegment (sym same.same_rest) front.closed in
          true≢false (sym (w.ends_segment.ensures.1 closed) ∙ w.if-not-ends_segment.true)
    ]

pub returns-clause-only : goal.returns-clause-only
returns-clause-only c =
    λ name inside behind front.
    let same = same_parts c.args.text.now name inside behind _ _ _ _ front c.in_ok-name.ensures c.in_ok-inside.ensures in
    ((same.same_name, same.same_inside), same.same_rest)
