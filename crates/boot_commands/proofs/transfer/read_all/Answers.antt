use Rattle.std.proofs.Common.{◌≡◌, ap, Err}
use Rattle.std.proofs.lemmas.Result.{err_from_is_err_and}
use Rattle.boot_commands.specs.declared.fault.ScriptRunFault.{ScriptRunFault}
use Rattle.boot_commands.specs.declared.fault.ScriptRunFault.TheVariants as fault
use Rattle.boot_commands.proofs.transfer.read_all.Goals as goal

pub returns-in_err-fill-clause-one_past : goal.returns-in_err-fill-clause-one_past
returns-in_err-fill-clause-one_past g c = λ is.
    let made = c.from_residual-in_err-fill in
    let p = err_from_is_err_and made.result made.ensures.1 in
    let told : c.in_err-fill.field-0.0 ≡ fault.TooMuch = cc in
    c.in_err-fill.ensures.one_past (ap (λ (f : ScriptRunFault). Err f) told)
