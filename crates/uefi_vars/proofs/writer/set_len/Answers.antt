use Rattle.std.proofs.Common.{◌≡◌, ◌++◌, length, take, ap, ◌∙◌, arith}
use Rattle.std.proofs.lemmas.List.{take_all}
use Rattle.std.proofs.lemmas.Grind.{common_steps}
use Rattle.uefi_vars.specs.Vars.{IsVariable}
use Rattle.uefi_vars.specs.Set.{magic, records_bytes}
use Rattle.uefi_vars.specs.Records.{pair_of, pairs_of}
use Rattle.uefi_vars.proofs.Bytes.{all_at}
use Rattle.uefi_vars.proofs.Records.{length-records_bytes-take}
use Rattle.uefi_vars.proofs.writer.set_len.Goals as goal

pub record_len-requires : goal.record_len-requires
record_len-requires c = all_at IsVariable pair_of c.args.variables.now c.loop-variable.variable-index c.variable-item.result
    c.requires c.loop-variable-test.true c.variable-item.is

pub returns-in_err-len : goal.returns-in_err-len
returns-in_err-len c =
    let front = length-records_bytes-take c.args.variables.now c.loop-variable.variable-index c.variable-item.result
    c.loop-variable-test.true c.variable-item.is in
    grind (arith, common_steps, front)

pub returns : goal.returns
returns c =
    let all : take c.loop-variable.variable-index c.args.variables.now ≡ c.args.variables.now =
    take_all c.loop-variable.variable-index c.args.variables.now c.loop-variable-test.false in
    let counted = c.loop-variable.invariant.counted ∙ ap (λ l. length (magic ++ records_bytes (pairs_of l))) all in
    (omega (arith, counted, c.loop-variable.invariant.fits), counted)
