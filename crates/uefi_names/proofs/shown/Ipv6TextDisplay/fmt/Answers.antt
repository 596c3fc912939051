use Rattle.std.proofs.Common.{◌∷◌, ◌++◌, rules, arith, refl}
use Rattle.std.proofs.Output.{has_written_append, has_written_of_eq}
use Rattle.uefi_text.specs.Bytes.{hex_text}
use Rattle.uefi_names.specs.Shown.{colon}
use Rattle.uefi_names.proofs.Texts.{twos-more, twos-end}
use Rattle.uefi_names.proofs.shown.Ipv6TextDisplay.fmt.Goals as goal

pub loop-group-preserved : goal.loop-group-preserved
loop-group-preserved g c = λ plain.
    let so_far = c.loop-group.invariant plain in
    let chunk = c.in-Some-split_first_chunk in
    (so_far.0 ++ (colon ∷ hex_text chunk.group.now), has_written_append _ _ _ _ _ _ so_far.1 (search rules), twos-more (λ group. colon ∷ hex_text group) so_far.0 _ _ _ _ chunk.ensures.cases.0 chunk.ensures.cases.1 (omega (arith, chunk.ensures.cases.2)) so_far.2)

pub returns-clause-writes : goal.returns-clause-writes
returns-clause-writes g c = λ plain ok.
    let wrote = c.in_ok-write.ensures.writes plain refl in
    let others = c.loop-group.invariant wrote.plain in
    has_written_of_eq _ _ _ _ _
    (twos-end _ _ _ _ _ c.in-Some.ensures.cases.0 c.in-Some.ensures.cases.1 (omega (arith, c.in-Some.ensures.cases.2)) c.in_default-split_first_chunk.ensures.cases others.2)
    (has_written_append _ _ _ _ _ _ wrote others.1)
