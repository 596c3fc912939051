use Rattle.std.proofs.Common.{ℕ, sym, ap, subst, ◌∙◌}
use Rattle.std.proofs.lemmas.Map.Text.{is_eq-slice_cmp}
use Rattle.uefi_vars.specs.BootChange.{same_name}
use Rattle.bootkeep_c.specs.Changes.{StandsForName}
use Rattle.bootkeep_c.proofs.NamesOfChanges.{stands}
use Rattle.bootkeep_c.proofs.change.variable_number.Goals as goal

pub returns : goal.returns
returns c = λ boot.
    let name = c.args.name.now in
    subst (λ (told : ℕ). StandsForName told name) (sym c.standing_for.ensures)
    (stands name c.entry_number.result c.eq.result c.eq-2.result boot c.entry_number.ensures
    (c.eq.ensures ∙ sym (is_eq-slice_cmp name _) ∙ ap (same_name name) c.constants_are_those_of_the_definitions.ensures.boot_order)
    (c.eq-2.ensures ∙ sym (is_eq-slice_cmp name _) ∙ ap (same_name name) c.constants_are_those_of_the_definitions.ensures.boot_next))
