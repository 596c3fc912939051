use Rattle.std.proofs.Common.{◌≡◌, take}
use Rattle.uefi_vars.proofs.boot_plan.copy_choices.Given as goal

abbrev pub invariant-loop-choice : goal.invariant-loop-choice
invariant-loop-choice l = record {
  copied : l.copies.items ≡ take l.choice-index l.choices;
}
