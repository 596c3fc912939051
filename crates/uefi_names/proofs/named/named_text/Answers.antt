use Rattle.std.proofs.Common.{◌∙◌}
use Rattle.uefi_names.proofs.StandardRead.{standard-text}
use Rattle.uefi_names.proofs.named.named_text.Goals as goal

pub returns : goal.returns
returns c =
    (rw c.new-text.ensures.bytes at c.in_ok-append_path.ensures) ∙ standard-text c.standard-table.result c.standard-table.ensures.rows c.args.path.now
