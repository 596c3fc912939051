use Rattle.std.proofs.Common.{◌≡◌, drop}
use Rattle.uefi_names.specs.Read.{rows_read}
use Rattle.uefi_names.proofs.form_reader.rows_read.Given as goal

abbrev pub invariant-loop-row : goal.invariant-loop-row
invariant-loop-row l = rows_read l.kind l.name l.inside (drop l.row-index l.rows) ≡ rows_read l.kind l.name l.inside l.rows
