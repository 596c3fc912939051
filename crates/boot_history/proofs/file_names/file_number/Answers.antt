use Rattle.std.proofs.Common.{◌∙◌, sym}
use Rattle.boot_history.proofs.FileNames.{read}
use Rattle.boot_history.proofs.file_names.file_number.Goals as goal

pub returns-then-is_name : goal.returns-then-is_name
returns-then-is_name c =
    c.ok.ensures.value ∙ read c.args.name.now c.parse.result c.parse.ensures.value.0 (sym c.is_name.ensures ∙ c.if-is_name.true)
