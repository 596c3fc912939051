use Rattle.std.proofs.Common.{refl}
use Rattle.std.specs.Cmp.Lexicographic.{pointwise}
use Rattle.uefi_path.proofs.Comparison.{node_eq, path_eq-Decides}
use Rattle.uefi_path.proofs.laws.paths_compare_as_values.Goals as goal

pub returns : goal.returns
returns c = λ a b. path_eq-Decides a b (pointwise (pointwise node_eq) a b) refl
