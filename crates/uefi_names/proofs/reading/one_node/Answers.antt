use Rattle.std.proofs.Common.{sym, ◌∙◌, true≢false}
use Rattle.uefi_names.proofs.Finds.{one_found, none_found}
use Rattle.uefi_names.proofs.reading.one_node.Goals as goal

pub returns-in-Ok : goal.returns-in-Ok
returns-in-Ok c = one_found c.args.text.now _ c.only_node.result c.in-Ok.ensures.found c.in-Ok.ensures.only c.only_node.ensures

pub returns-else-is_memory : goal.returns-else-is_memory
returns-else-is_memory c =
    none_found c.args.text.now c.in-Err.fault (λ e. true≢false (sym (c.is_memory.ensures.1 e) ∙ c.if-is_memory.false)) c.in-Err.ensures.only
