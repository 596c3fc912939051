use Rattle.std.proofs.Common.{◌≡◌, ℕ, List, true, sym, subst, ◌∙◌}
use Rattle.std.proofs.lemmas.Bool.{not-false, not-true, false≢true}
use Rattle.var_stores.specs.Record.{record_parts, vendor_in, attribute_bytes}
use Rattle.uefi_vars.specs.Name.{global_vendor}
use Rattle.var_stores.specs.Present.{is_set_value}
use Rattle.uefi_vars.proofs.Members.{bytes_same}
use Rattle.var_stores.proofs.GlobalKeys.{vendor_len, puts_global, puts_foreign}
use Rattle.var_stores.specs.PresentMap.{PutsStored}
use Rattle.var_stores.proofs.StoredVars.{on_ok}
use Rattle.var_stores.proofs.WholeRecords.{attributes_fit}
use Rattle.var_stores.proofs.stored_vars.put_attributes.Goals as goal

pub returns-then-ne : goal.returns-then-ne
returns-then-ne c = λ whole name is.
    let r = record_parts c.args.record.now in
    puts_foreign c.args.vars.now r (attribute_bytes r.header) (vendor_len r whole)
    (λ vendor. false≢true (sym (not-true _ (sym c.if-ne.ensures))
    ∙ (bytes_same c.vendor.result.now c.as_slice.result.now).1 (c.vendor.ensures ∙ vendor ∙ sym c.as_slice.ensures))) name

pub returns : goal.returns
returns c =
    let r = record_parts c.args.record.now in
    let old = c.args.vars.now in
    let new = c.put.new.vars in
    let vendor : vendor_in r.header ≡ global_vendor =
    sym c.vendor.ensures ∙ (bytes_same c.vendor.result.now c.as_slice.result.now).0 (not-false _ (sym c.if-ne.ensures)) ∙ c.as_slice.ensures in
    let fits : is_set_value r.value ≡ true = sym c.is_set_value.ensures ∙ c.if-not-is_set_value.false in
    on_ok c.put.result c.put.ensures (λ puts whole.
    puts_global old new r (attribute_bytes r.header) vendor (attributes_fit r whole ∙ sym fits)
    (subst (λ (part : List ℕ). PutsStored old new r.name part) c.attributes.ensures puts))
