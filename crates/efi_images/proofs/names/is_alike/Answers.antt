use Rattle.std.proofs.Common.{sym, ◌∙◌, ap}
use Rattle.std.specs.Option.{option_map}
use Rattle.efi_images.specs.Names.{attribute_parts}
use Rattle.efi_images.proofs.Alike.{no_first, no_second, differ, go_on, none_left}
use Rattle.efi_images.proofs.names.is_alike.Goals as goal

pub returns-in_default : goal.returns-in_default
returns-in_default c =
    c.may_end_alike.ensures
    ∙ sym (c.loop.invariant ∙ no_first c.loop.one.now c.loop.other.now c.loop.counter c.loop-test.true
    (sym (ap (option_map attribute_parts) c.in_default.is) ∙ c.read_attribute.ensures))

pub returns-in_default-read_attribute : goal.returns-in_default-read_attribute
returns-in_default-read_attribute c =
    c.may_end_alike-in_default-read_attribute.ensures
    ∙ sym (c.loop.invariant ∙ no_second c.loop.one.now c.loop.other.now c.loop.counter c.loop-test.true
    (sym (ap (option_map attribute_parts) c.in_default-read_attribute.is) ∙ c.read_attribute-in-loop.ensures))

pub returns-then-not-is_same_attribute : goal.returns-then-not-is_same_attribute
returns-then-not-is_same_attribute c =
    sym (c.loop.invariant ∙ differ c.loop.one.now c.loop.other.now c.loop.counter _ _ c.loop-test.true
    c.in-Some.ensures c.in-Some-read_attribute.ensures (sym c.is_same_attribute.ensures ∙ c.if-not-is_same_attribute.true))

pub loop-preserved : goal.loop-preserved
loop-preserved c =
    c.loop.invariant ∙ go_on c.loop.one.now c.loop.other.now c.loop.counter _ _ c.loop-test.true
    c.in-Some.ensures c.in-Some-read_attribute.ensures (sym c.is_same_attribute.ensures ∙ c.if-not-is_same_attribute.false)

pub returns : goal.returns
returns c = sym (c.loop.invariant ∙ none_left c.loop.one.now c.loop.other.now c.loop.counter c.loop-test.false)
