use Rattle.std.proofs.Common.{◌≡◌, map, take}
use Rattle.uefi_vars.specs.declared.boot_plan.Choice.{Choice}
use Rattle.bootkeep_c.proofs.reply.normal_numbers.Given as goal

abbrev pub invariant-loop-choice : goal.invariant-loop-choice
invariant-loop-choice l = l.numbers.items ≡ map (λ (choice : Choice). choice.number) (take l.choice-index l.choices)
