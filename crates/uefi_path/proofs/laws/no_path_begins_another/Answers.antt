use Rattle.std.proofs.Common.{◌≡◌, ℕ, List, [], ◌++◌, ap, sym, ◌∙◌}
use Rattle.std.proofs.lemmas.List.{append-nil}
use Rattle.uefi_path.specs.Path.{path_bytes}
use Rattle.uefi_path.proofs.Paths.{same_path}
use Rattle.uefi_path.proofs.laws.no_path_begins_another.Goals as goal

pub returns : goal.returns
returns c = λ bytes more p q first second.
    let whole : path_bytes p ++ more ≡ path_bytes q ++ [] = ap (λ (t : List ℕ). t ++ more) (sym first.1) ∙ second.1 ∙ sym (append-nil (path_bytes q)) in
    (same_path p q more [] first.0 second.0 whole).1
