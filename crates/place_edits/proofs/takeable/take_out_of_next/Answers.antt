use Rattle.std.proofs.Common.{ℕ, List, ap, ◌∙◌}
use Rattle.std.specs.FinMap.{remove}
use Rattle.uefi_vars.specs.Name.{next_text}
use Rattle.place_edits.proofs.Taking.{changed_by_removal}
use Rattle.place_edits.proofs.takeable.take_out_of_next.Goals as goal

pub returns-then-is_next : goal.returns-then-is_next
returns-then-is_next c =
    changed_by_removal c.args.vars.now c.remove.new.self next_text
    (c.remove.ensures.removed
    ∙ ap (λ (name : List ℕ). remove c.args.vars.now name) c.constants_are_those_of_the_definitions.ensures.boot_next)
