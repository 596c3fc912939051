use Rattle.std.proofs.Common.{take, sym}
use Rattle.std.proofs.lemmas.Bool.Decides.{Decides-eqb}
use Rattle.std.proofs.lemmas.Slice.Eq.{slice_eq-Decides}
use Rattle.uefi_vars.specs.Set.{magic}
use Rattle.var_places.proofs.file_kinds.begins_set.Goals as goal

pub returns : goal.returns
returns c =
    let same = slice_eq-Decides Decides-eqb magic (take 4 c.args.bytes.now) c.starts_with.result c.starts_with.ensures.value in
    (λ begins. sym (same.0 begins), λ begins. same.1 (sym begins))
