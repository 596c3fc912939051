use Rattle.std.proofs.Common.{ℕ, List, ap, ◌∙◌}
use Rattle.std.specs.FinMap.{remove}
use Rattle.uefi_vars.specs.Name.{order_text}
use Rattle.place_edits.proofs.Taking.{changed_by_removal}
use Rattle.place_edits.proofs.takeable.take_out_of_order.Goals as goal

pub returns-in-Gone : goal.returns-in-Gone
returns-in-Gone c =
    changed_by_removal c.args.vars.now c.remove.new.self order_text
    (c.remove.ensures.removed
    ∙ ap (λ (name : List ℕ). remove c.args.vars.now name) c.constants_are_those_of_the_definitions.ensures.boot_order)
