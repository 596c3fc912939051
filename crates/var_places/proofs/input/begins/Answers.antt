use Rattle.std.proofs.Common.{take, length, sym}
use Rattle.std.proofs.lemmas.Bool.Decides.{Decides-eqb}
use Rattle.std.proofs.lemmas.Slice.Eq.{slice_eq-Decides}
use Rattle.var_places.proofs.input.begins.Goals as goal

pub returns : goal.returns
returns c =
    let front = c.args.front.now in
    let same = slice_eq-Decides Decides-eqb front (take (length front) c.args.path.now) c.starts_with.result c.starts_with.ensures.value in
    (λ begins. sym (same.0 begins), λ begins. same.1 (sym begins))
