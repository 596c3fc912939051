use Rattle.std.proofs.Common.{◌∙◌, ◌+◌, sym, ap, subst, arith}
use Rattle.efi_images.specs.Certificates.{IsSigned, one_more, broken, padded_len, joined, signing_of}
use Rattle.efi_images.proofs.Whole.{parts, padded, ended}
use Rattle.efi_images.proofs.certificates.read_certificates.Goals as goal

pub returns-then-not-is_whole-clause-certificates : goal.returns-then-not-is_whole-clause-certificates
returns-then-not-is_whole-clause-certificates c =
    c.loop-place.invariant.1 _ (broken c.loop-place-test.true (sym c.is_whole.ensures ∙ c.if-not-is_whole.true))

pub padded_len-place-requires : goal.padded_len-place-requires
padded_len-place-requires c =
    let p = parts c.args.table.now c.loop-place.place (sym c.is_whole.ensures ∙ c.if-not-is_whole.false) in
    omega (arith, p.0)

pub loop-place-smaller : goal.loop-place-smaller
loop-place-smaller c =
    let whole = sym c.is_whole.ensures ∙ c.if-not-is_whole.false in
    let p = padded c.args.table.now c.loop-place.place whole in
    omega (arith, c.loop-place-test.true, c.padded_len-place.ensures.len, p)

pub loop-place-preserved : goal.loop-place-preserved
loop-place-preserved c =
    let table = c.args.table.now in
    let place = c.loop-place.place in
    let whole = sym c.is_whole.ensures ∙ c.if-not-is_whole.false in
    let p = parts table place whole in
    let says = c.joined-found.ensures ∙ ap (λ s. joined c.loop-place.found s) (c.signing_of.ensures ∙ ap signing_of c.signature_bytes.ensures) in (
      omega (arith, p.2, c.padded_len-place.ensures.len),
      (λ answer rest. c.loop-place.invariant.1 answer
          (one_more c.loop-place-test.true whole
          (subst (λ s. IsSigned table s (place + padded_len table place) answer) says
          (subst (λ n. IsSigned table c.joined-found.result (place + n) answer) c.padded_len-place.ensures.len rest)))),
    )

pub returns-clause-certificates : goal.returns-clause-certificates
returns-clause-certificates c = c.loop-place.invariant.1 _ (ended c.args.table.now c.loop-place.place c.loop-place.found c.loop-place.invariant.0 c.loop-place-test.false)
