use Rattle.std.proofs.Common.{rules, tests}
use Rattle.std.proofs.lemmas.Iterator.{IsFirst-from_position, YieldsList-from_slice}
use Rattle.uefi_text.specs.Node.{IsBareUnit}
use Rattle.uefi_text.proofs.Read.Cuts.{bare_cut}
use Rattle.uefi_text.proofs.segment.split_bare.Goals as goal

pub returns : goal.returns
returns c =
    let text = c.args.text.now in
    let len = IsFirst-from_position _ _ c.position.result (λ unit. IsBareUnit unit → ⊥) IsBareUnit
    c.position.ensures.ran (YieldsList-from_slice text cc) (λ x q k. search (rules, tests))
    (λ x q k. search (rules, tests)) in
    bare_cut text _ _ c.position.result len (cc) (cc)
