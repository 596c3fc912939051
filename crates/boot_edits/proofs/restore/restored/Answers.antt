use Rattle.std.proofs.Common.{sym, ap, ◌∙◌}
use Rattle.std.proofs.lemmas.Bool.{false≢true}
use Rattle.std.specs.FinMap.{get, get-empty}
use Rattle.uefi_vars.specs.Vars.{Variables, name_cmp}
use Rattle.boot_edits.proofs.restore.restored.Goals as goal

pub copy_those-requires : goal.copy_those-requires
copy_those-requires c = λ name so. ap (λ (m : Variables). get m name) c.new-back.ensures ∙ get-empty name_cmp name

pub copy_those-requires-2 : goal.copy_those-requires-2
copy_those-requires-2 c = λ name so.
    c.in_ok-copy_those.ensures.kept name (λ boot. false≢true (sym so ∙ boot)) ∙ ap (λ (m : Variables). get m name) c.new-back.ensures
    ∙ get-empty name_cmp name
