use Rattle.std.proofs.Common.{ℕ, ◌+◌, List, ◌∷◌, drop, sym, ap, ◌∙◌}
use Rattle.std.proofs.lemmas.List.{drop_more}
use Rattle.boot_profiles.proofs.Refusals.{name_error_at}
use Rattle.boot_profiles.proofs.names.number_at.Goals as goal

pub returns-in-Err-clause-refused : goal.returns-in-Err-clause-refused
returns-in-Err-clause-refused c =
    let name = c.index-names-place.result in
    let rest = drop (c.args.place + 1) c.args.names.now in
    name_error_at c.args.vars.now c.args.names.now c.args.place name rest
    (drop_more c.args.names.now c.args.place name c.requires ∙ ap (λ (n : List ℕ). n ∷ rest) (sym c.index-names-place.is))
    c.in-Err.error c.in-Err.ensures.refused c.name_error_at.result c.name_error_at.ensures
