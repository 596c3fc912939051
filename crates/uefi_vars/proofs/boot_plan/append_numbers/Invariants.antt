use Rattle.std.proofs.Common.{◌≡◌, ◌++◌, take}
use Rattle.std.specs.List.{flat_map}
use Rattle.std.specs.String.{string_bytes}
use Rattle.uefi_vars.specs.Words.{number_words}
use Rattle.uefi_vars.proofs.boot_plan.append_numbers.Given as goal

abbrev pub invariant-loop-choice : goal.invariant-loop-choice
invariant-loop-choice l = record {
  written : string_bytes l.text ≡ string_bytes l.fn.text ++ flat_map (λ c. number_words c.number) (take l.choice-index l.choices);
}
