use Rattle.std.proofs.Common.{◌≡◌, ◌∷◌, ◌++◌, List, ℕ, take, ap, append_assoc, ◌∙◌, rules, flat_map}
use Rattle.std.specs.String.{string_bytes}
use Rattle.uefi_text.specs.Segment.{comma}
use Rattle.uefi_names.proofs.Texts.{joined}
use Rattle.uefi_names.proofs.reading.append_joined.Goals as goal

pub returns : goal.returns
returns c =
    let before = string_bytes c.args.text.now in
    let first = c.in-Some.first.now.now in
    let others = flat_map (λ argument. comma ∷ argument.now) (take c.loop-argument.argument-index c.in-Some.others.now) in
    let pushed : string_bytes c.push_str.new.self ≡ before ++ first = search rules in
    c.loop-argument.invariant
    ∙ (ap (λ (front : List ℕ). front ++ others) pushed
    ∙ (append_assoc before first others
    ∙ ap (λ (text : List ℕ). before ++ text)
    (joined comma (λ argument. argument.now) c.args.arguments.now c.in-Some.first.now c.in-Some.others.now c.loop-argument.argument-index c.in-Some.ensures.cases.0 c.loop-argument-test.false)))
