use Rattle.std.proofs.Common.{◌∷◌, ◌++◌, rules, arith, refl}
use Rattle.std.proofs.Output.{has_written_append, has_written_of_eq}
use Rattle.uefi_text.specs.Segment.{comma}
use Rattle.uefi_names.specs.Shown.{item_text}
use Rattle.uefi_names.proofs.Texts.{items-more, items-end}
use Rattle.uefi_names.proofs.shown.ItemsTextDisplay.fmt.Goals as goal

pub loop-left-preserved : goal.loop-left-preserved
loop-left-preserved g c = λ plain.
    let so_far = c.loop-left.invariant plain in
    (so_far.0 ++ (comma ∷ item_text c.args.self.now.item c.cut-in-loop-left.result.0.now), has_written_append _ _ _ _ _ _ so_far.1 (search rules), items-more (λ one. comma ∷ item_text c.args.self.now.item one) _ _ so_far.0 _ _ _ _ c.cut-in-loop-left.ensures.front c.cut-in-loop-left.ensures.after (omega arith) so_far.2)

pub returns-clause-writes : goal.returns-clause-writes
returns-clause-writes g c = λ plain ok.
    let wrote = c.in_ok-write.ensures.writes plain refl in
    let others = c.loop-left.invariant wrote.plain in
    has_written_of_eq _ _ _ _ _
    (items-end c.args.self.now.item _ _ _ _ _ _ _ _ c.item_count-count.ensures (omega arith) c.cut.ensures.front c.cut.ensures.after (omega arith) others.2)
    (has_written_append _ _ _ _ _ _ wrote others.1)
