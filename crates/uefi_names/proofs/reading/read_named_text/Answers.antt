use Rattle.std.proofs.lemmas.Result.{IfOk-weaker}
use Rattle.uefi_names.specs.Standard.{standard_table}
use Rattle.uefi_names.specs.Reading.{IsNamedText}
use Rattle.uefi_names.proofs.StandardRead.{standard-path, standard-path-back}
use Rattle.uefi_names.proofs.Only.{only_path}
use Rattle.uefi_names.proofs.reading.read_named_text.Goals as goal

pub returns-clause-found : goal.returns-clause-found
returns-clause-found c =
    let table = c.standard-table.result in
    let text = c.args.text.now in
    IfOk-weaker c.path_read.result (λ path. IsNamedText table text path) (λ path. IsNamedText standard_table text path)
    (λ path named. standard-path table c.standard-table.ensures.rows text path named) c.path_read.ensures.found

pub returns-clause-only : goal.returns-clause-only
returns-clause-only c = λ path is.
    let table = c.standard-table.result in
    let text = c.args.text.now in
    only_path (IsNamedText table text) (c.a_named_text_stands_for_one_path.ensures table text) c.path_read.result c.path_read.ensures.found c.path_read.ensures.fault path
    (standard-path-back table c.standard-table.ensures.rows text path is)
