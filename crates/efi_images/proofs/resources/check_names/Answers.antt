use Rattle.std.proofs.Common.{◌+◌, ◌<◌, ◌∙◌, IfSome, sym, subst, arith}
use Rattle.std.proofs.lemmas.Result.{err_from_is_err_and}
use Rattle.efi_images.specs.declared.resources.NamedEntries.{NamedEntries}
use Rattle.efi_images.proofs.NameCounts.{names_over, names_stop, names_go_on, names_end}
use Rattle.efi_images.proofs.resources.check_names.Goals as goal

pub returns-then-index-from : goal.returns-then-index-from
returns-then-index-from c =
    let over : c.loop-index.entries.count < c.loop-index.index + 1 = omega (arith, c.if-index-from.true, c.from.ensures) in
    sym (c.loop-index.invariant.1
    ∙ names_over c.args.file.now c.args.loaded c.args.size c.args.size c.loop-index.index c.loop-index.entries
    c.loop-index-test.true over)

pub returns-in_err-next : goal.returns-in_err-next
returns-in_err-next c =
    let more : c.loop-index.index < c.loop-index.entries.count = omega (arith, c.if-index-from.false, c.from.ensures) in
    let p = err_from_is_err_and c.from_residual.result c.from_residual.ensures.1 in
    rw (p.1, p.2)
    (names_stop c.args.file.now c.args.loaded c.args.size c.args.size c.loop-index.index c.loop-index.entries _ _
    c.loop-index-test.true more c.loop-index.invariant.1 c.in_err-next.ensures.fault)

pub returns-in-None : goal.returns-in-None
returns-in-None c =
    let more : c.loop-index.index < c.loop-index.entries.count = omega (arith, c.if-index-from.false, c.from.ensures) in
    sym (names_end c.args.file.now c.args.loaded c.args.size c.args.size c.loop-index.index c.loop-index.entries _
    c.loop-index-test.true more c.loop-index.invariant.1 c.in_ok-next.ensures.fault
    (sym c.in-None.is ∙ c.in_ok-next.ensures.next))

pub loop-index-preserved : goal.loop-index-preserved
loop-index-preserved c =
    let more : c.loop-index.index < c.loop-index.entries.count = omega (arith, c.if-index-from.false, c.from.ensures) in (
      subst (λ next. IfSome next (λ (e : NamedEntries). e.offset < 4294967296)) c.in-Some.is c.in_ok-next.ensures.bound,
      names_go_on c.args.file.now c.args.loaded c.args.size c.args.size c.loop-index.index c.loop-index.entries _ _
          c.loop-index-test.true more c.loop-index.invariant.1 c.in_ok-next.ensures.fault
          (sym c.in-Some.is ∙ c.in_ok-next.ensures.next),
    )
