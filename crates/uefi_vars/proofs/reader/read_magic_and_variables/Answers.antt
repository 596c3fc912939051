use Rattle.std.proofs.Common.{[], drop, subst}
use Rattle.std.proofs.lemmas.Result.{err_from_is_err_and}
use Rattle.uefi_vars.specs.Records.{pairs_of}
use Rattle.uefi_vars.specs.Reader.{HasRecords, HasRecordsFault}
use Rattle.uefi_vars.proofs.Readings.{begins, are_variables}
use Rattle.uefi_vars.proofs.Sets.{records_fault_is, records_spell}
use Rattle.uefi_vars.proofs.reader.read_magic_and_variables.Goals as goal

pub returns-in_err-variables-clause-bad_magic : goal.returns-in_err-variables-clause-bad_magic
returns-in_err-variables-clause-bad_magic c = λ none. absurd
    (none _ (begins c.args.bytes.now c.starts_with.result c.starts_with.ensures.value c.if-not-starts_with.false))

pub returns-clause-bad_magic : goal.returns-clause-bad_magic
returns-clause-bad_magic c = λ none. absurd (none _ (begins c.args.bytes.now c.starts_with.result c.starts_with.ensures.value c.if-not-starts_with.false))

pub returns-in_err-variables-clause-fault : goal.returns-in_err-variables-clause-fault
returns-in_err-variables-clause-fault c =
    let bytes = c.args.bytes.now in
    let p = err_from_is_err_and c.from_residual-in_err-variables.result c.from_residual-in_err-variables.ensures.1 in
    rw (p.1, p.2) (λ cause. records_fault_is bytes (drop 4 bytes) c.in_err-variables.field-0.0
    (begins bytes c.starts_with.result c.starts_with.ensures.value c.if-not-starts_with.false)
    (subst (λ l. HasRecordsFault (drop 4 l) 4 c.in_err-variables.field-0.0) c.in_ok-file.ensures
    (c.in_err-variables.ensures.fault cause)))

pub from_variables-requires : goal.from_variables-requires
from_variables-requires c =
    are_variables _ _ _ c.in_ok-variables.ensures.found

pub returns-clause-found : goal.returns-clause-found
returns-clause-found c =
    let bytes = c.args.bytes.now in
    rw c.from_variables.ensures (records_spell bytes (drop 4 bytes) (pairs_of c.in_ok-variables.variables.items)
    (begins bytes c.starts_with.result c.starts_with.ensures.value c.if-not-starts_with.false)
    (subst (λ l. HasRecords (drop 4 l) (pairs_of c.in_ok-variables.variables.items) []) c.in_ok-file.ensures c.in_ok-variables.ensures.found))
