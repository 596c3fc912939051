use Rattle.std.proofs.Common.{List, ℕ, sym, ap, ◌∙◌}
use Rattle.std.proofs.lemmas.Map.Text.{is_eq-slice_cmp}
use Rattle.uefi_vars.specs.BootChange.{same_name}
use Rattle.uefi_vars.specs.Name.{global_vendor}
use Rattle.var_stores.proofs.stored_vars.is_global.Goals as goal

pub returns : goal.returns
returns c =
    c.eq.ensures ∙ sym (is_eq-slice_cmp c.as_slice.result.now c.vendor.result.now)
    ∙ ap (λ (guid : List ℕ). same_name guid c.vendor.result.now) c.as_slice.ensures
    ∙ ap (same_name global_vendor) c.vendor.ensures
