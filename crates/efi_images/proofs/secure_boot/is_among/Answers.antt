use Rattle.std.proofs.Common.{◌∙◌, sym, arith, rules}
use Rattle.efi_images.proofs.Among.{here, after, none_left}
use Rattle.efi_images.proofs.secure_boot.is_among.Goals as goal

pub returns-then-eq : goal.returns-then-eq
returns-then-eq c =
    sym (c.loop.invariant.1 ∙ here c.args.digest.now c.args.signatures.now c.loop.place _ c.loop.counter c.loop-test.true (search rules))

pub loop-preserved : goal.loop-preserved
loop-preserved c = (
  omega (arith, c.loop.invariant.0),
  c.loop.invariant.1 ∙ after c.args.digest.now c.args.signatures.now c.loop.place _ c.loop.counter c.loop-test.true (search rules),
)

pub returns : goal.returns
returns c =
    sym (c.loop.invariant.1 ∙ none_left c.args.digest.now c.args.signatures.now c.loop.place _ c.loop.counter (omega (arith, c.loop-test.false)))
