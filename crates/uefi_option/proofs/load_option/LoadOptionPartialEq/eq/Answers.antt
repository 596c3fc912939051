use Rattle.std.proofs.Common.{rules}
use Rattle.uefi_option.proofs.Comparison.{option_eq-Decides}
use Rattle.uefi_option.proofs.load_option.LoadOptionPartialEq.eq.Goals as goal

pub returns-then-eq-2-clause-equal : goal.returns-then-eq-2-clause-equal
returns-then-eq-2-clause-equal c = option_eq-Decides c.paths_compare_as_values.ensures c.args.self.now c.args.other.now c.eq-then-eq-2.result (search rules)

pub returns-else-eq-2-clause-equal : goal.returns-else-eq-2-clause-equal
returns-else-eq-2-clause-equal c = option_eq-Decides c.paths_compare_as_values.ensures c.args.self.now c.args.other.now c.if-eq.value (search rules)
