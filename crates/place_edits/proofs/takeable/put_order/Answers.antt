use Rattle.std.proofs.Common.{ℕ, List, ap, ◌∙◌}
use Rattle.std.specs.FinMap.{insert}
use Rattle.uefi_vars.specs.Name.{order_text}
use Rattle.place_edits.proofs.Taking.{put_at}
use Rattle.place_edits.proofs.takeable.put_order.Goals as goal

pub returns-in-Ok : goal.returns-in-Ok
returns-in-Ok c =
    put_at c.args.vars.now c.put.new.self order_text c.args.value.now
    (c.in-Ok.ensures.put
    ∙ ap (λ (name : List ℕ). insert c.args.vars.now name c.args.value.now)
    c.constants_are_those_of_the_definitions.ensures.boot_order)
