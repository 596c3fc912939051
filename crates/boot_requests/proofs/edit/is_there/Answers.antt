use Rattle.std.proofs.Common.{◌<◌, ◌^◌, sym, ap, ◌∙◌, arith}
use Rattle.std.specs.Option.{is_some}
use Rattle.boot_requests.proofs.Turn.Steps.{some_of_map}
use Rattle.boot_requests.proofs.edit.is_there.Goals as goal

pub returns : goal.returns
returns c = λ m h.
    let fits : c.args.number < 2 ^ 16 = omega (arith, c.ranges.number.fits) in
    c.is_some.ensures ∙ sym (some_of_map (λ bytes. bytes.now) c.entry.result) ∙ ap is_some (c.entry.ensures ∙ h.image.entry c.args.number fits)
