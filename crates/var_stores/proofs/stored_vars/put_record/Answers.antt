use Rattle.std.proofs.Common.{◌≡◌, refl, sym, ◌∙◌}
use Rattle.std.proofs.lemmas.Bool.{not-false, not-true, false≢true}
use Rattle.var_stores.specs.Record.{record_parts, vendor_in}
use Rattle.uefi_vars.specs.Name.{global_vendor}
use Rattle.uefi_vars.proofs.Members.{bytes_same}
use Rattle.var_stores.proofs.GlobalKeys.{vendor_len, puts_global, puts_foreign}
use Rattle.var_stores.proofs.StoredVars.{on_ok}
use Rattle.var_stores.proofs.stored_vars.put_record.Goals as goal

pub returns-then-ne : goal.returns-then-ne
returns-then-ne c = λ whole name is.
    let r = record_parts c.args.record.now in
    puts_foreign c.args.vars.now r r.value (vendor_len r whole)
    (λ vendor. false≢true (sym (not-true _ (sym c.if-ne.ensures))
    ∙ (bytes_same c.vendor.result.now c.as_slice.result.now).1 (c.vendor.ensures ∙ vendor ∙ sym c.as_slice.ensures))) name

pub returns : goal.returns
returns c =
    let r = record_parts c.args.record.now in
    let vendor : vendor_in r.header ≡ global_vendor =
    sym c.vendor.ensures ∙ (bytes_same c.vendor.result.now c.as_slice.result.now).0 (not-false _ (sym c.if-ne.ensures)) ∙ c.as_slice.ensures in
    on_ok c.put.result c.put.ensures (λ puts whole. puts_global c.args.vars.now c.put.new.vars r r.value vendor refl puts)
