use Rattle.std.proofs.Common.{ℕ, List, [], ◌++◌, ap, sym, ◌∙◌}
use Rattle.uefi_path.specs.Node.{row_of}
use Rattle.uefi_path.proofs.Rows.{same_row}
use Rattle.uefi_path.proofs.Inverse.{row_of_is_row, same_node}
use Rattle.uefi_path.proofs.laws.bytes_spell_one_node.Goals as goal

pub returns : goal.returns
returns c = λ bytes m n first second.
    let same = same_row (row_of m) (row_of n) [] [] (row_of_is_row m first.0).0 (row_of_is_row n second.0).0
    (ap (λ (t : List ℕ). t ++ []) (sym first.1 ∙ second.1)) in
    same_node m n first.0 second.0 same.0
