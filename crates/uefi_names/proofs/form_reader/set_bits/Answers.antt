use Rattle.std.proofs.Common.{sym, ◌∙◌, drop}
use Rattle.uefi_names.proofs.Bodies.{bits_behind}
use Rattle.uefi_names.proofs.form_reader.set_bits.Goals as goal

pub returns-then-place-body : goal.returns-then-place-body
returns-then-place-body c =
    sym (bits_behind c.loop-one.place (drop c.loop-one.one-index c.args.bits.now) c.loop-one.body c.if-place-body.true) ∙ c.loop-one.invariant
