use Rattle.std.proofs.Common.{◌+◌, ◌-◌, map, ap, sym, ◌∙◌}
use Rattle.std.specs.Option.{option_map}
use Rattle.efi_images.specs.X509.{certificate_parts, in_front, bundled}
use Rattle.efi_images.proofs.Bundles.{bundle_more, bundle_unread, bundle_ended, bundle_out}
use Rattle.efi_images.proofs.signers.add_bundle.Goals as goal

pub returns-then-is_empty : goal.returns-then-is_empty
returns-then-is_empty c =
    sym c.loop.invariant ∙ bundle_ended _ c.loop.rest.now _ (sym c.is_empty.ensures ∙ c.if-is_empty.true)

pub returns-in_default : goal.returns-in_default
returns-in_default c =
    sym c.loop.invariant
    ∙ bundle_unread _ c.loop.rest.now c.loop.counter c.loop-test.true (sym c.is_empty.ensures ∙ c.if-is_empty.false)
    (sym (ap (option_map certificate_parts) c.in_default.is) ∙ c.read_certificate.ensures)

pub loop-preserved : goal.loop-preserved
loop-preserved c =
    ap (λ all. in_front (map certificate_parts all) (bundled (32 - (c.loop.counter + 1)) c.in-Some.certificate.rest.now)) c.in_ok-push.ensures.items
    ∙ bundle_more c.loop.all.items c.in-Some.certificate c.loop.rest.now c.loop.counter c.loop-test.true
    (sym c.is_empty.ensures ∙ c.if-is_empty.false) c.in-Some.ensures
    ∙ c.loop.invariant

pub returns : goal.returns
returns c =
    sym c.loop.invariant ∙ bundle_out _ c.loop.rest.now c.loop.counter c.is_empty-2.result c.loop-test.false c.is_empty-2.ensures
