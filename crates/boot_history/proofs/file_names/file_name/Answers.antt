use Rattle.std.proofs.Common.{◌≡◌, ◌-◌, ◌^◌, false, [], ap, ◌∙◌}
use Rattle.std.specs.Fmt.{decimal, padded_integral, format_spec}
use Rattle.std.specs.String.{string_bytes}
use Rattle.std.proofs.lemmas.Result.{IfOk-weaker}
use Rattle.boot_history.specs.FileNames.{number_named}
use Rattle.boot_history.proofs.FileNames.{named}
use Rattle.boot_history.proofs.file_names.file_name.Goals as goal

pub returns : goal.returns
returns c = λ small.
    let written = rw c.laid_out.ensures at c.format.ensures.ok in
    IfOk-weaker c.format.result
    (λ s. string_bytes s ≡ padded_integral (format_spec 32 0 4 10 (2 ^ 64 - 1)) false [] (decimal c.args.number)) _
    (λ s is. ap number_named is ∙ named c.args.number small) written
