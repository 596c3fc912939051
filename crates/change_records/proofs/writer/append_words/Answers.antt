-- A word that is too long is one of the words.
use Rattle.std.proofs.Common.{sym, subst}
use Rattle.std.specs.String.{string_bytes}
use Rattle.std.proofs.lemmas.Result.{err_from_is_err_and}
use Rattle.uefi_vars.proofs.Bytes.{all_at}
use Rattle.change_records.specs.Fields.{IsShort}
use Rattle.change_records.proofs.writer.append_words.Goals as goal

pub returns-in_err-append_field-clause-fault : goal.returns-in_err-append_field-clause-fault
returns-in_err-append_field-clause-fault c =
    let p = err_from_is_err_and c.from_residual.result c.from_residual.ensures.1 in
    rw (p.1, p.2) (λ long all. c.in_err-append_field.ensures.fault long
    (subst IsShort (sym c.as_bytes.ensures.value)
    (all_at IsShort string_bytes c.args.words.now c.loop-word.word-index c.word-item.result all c.loop-word-test.true c.word-item.is)))
