-- The length that was tested is that of the value.
use Rattle.std.proofs.Common.{◌≤◌, length, sym, subst, arith}
use Rattle.std.specs.Prelude.{IfSome}
use Rattle.uefi_vars.specs.Vars.{data_max, IsData}
use Rattle.boot_journal.proofs.Fields.{first_fits, stored-IsData}
use Rattle.boot_journal.proofs.reader.split_value.Goals as goal

pub returns-clause-valid : goal.returns-clause-valid
returns-clause-valid c =
    let value = c.split_at.result.0.now in
    let fits =
    first_fits c.args.bytes.now c.in_ok-len.behind.now value c.split_at.result.1.now
    (λ i. omega (arith, c.type_inv.bytes i)) c.in_ok-len.ensures.behind c.split_at.ensures.by_index.0 in
    let short : length value ≤ data_max = omega (arith, c.split_at.ensures.front_len, c.if-len-gt-DATA_MAX.false) in
    subst (λ o. IfSome o IsData) (sym c.stored.ensures) (stored-IsData value fits short)
