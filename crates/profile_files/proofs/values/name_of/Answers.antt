use Rattle.std.proofs.Common.{ℕ, List, sym, subst, ◌∙◌}
use Rattle.profile_files.specs.Values.{IsDescriptionOf}
use Rattle.profile_files.proofs.values.name_of.Goals as goal

pub returns : goal.returns
returns c =
    let read = c.in_ok-text.ensures in
    let same = sym c.in_ok-from_str.ensures.ok in
    let bytes = c.in_ok-description_bytes in
    ((read.0, read.1, read.2, read.3 ∙ same), subst (λ (text : List ℕ). IsDescriptionOf text bytes.field-0.items) same bytes.ensures)
