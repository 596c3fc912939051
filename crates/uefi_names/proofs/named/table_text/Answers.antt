use Rattle.uefi_names.proofs.named.table_text.Goals as goal

pub returns : goal.returns
returns c = rw (c.forms_for-forms.ensures, c.kind-kind.ensures, c.sub-sub.ensures, c.in_ok-body.ensures) at c.text_in_forms.ensures
