use Rattle.std.proofs.Common.{ℕ, List, [], ◌++◌, ap, sym, ◌∙◌}
use Rattle.uefi_path.proofs.Paths.{same_path}
use Rattle.uefi_path.proofs.laws.bytes_spell_one_path.Goals as goal

pub returns : goal.returns
returns c = λ bytes p q first second. (same_path p q [] [] first.0 second.0 (ap (λ (t : List ℕ). t ++ []) (sym first.1 ∙ second.1))).0
