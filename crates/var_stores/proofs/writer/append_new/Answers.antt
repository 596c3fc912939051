use Rattle.std.proofs.Common.{◌≡◌, ◌+◌, ◌*◌, ◌++◌, ◌∷◌, ℕ, List, Option, length, sym, ap, ◌∙◌}
use Rattle.std.proofs.Math.ListN.{replicate}
use Rattle.std.specs.FinMap.{get}
use Rattle.var_stores.specs.Record.{padding_len}
use Rattle.var_stores.specs.Present.{stored_name, global_key}
use Rattle.var_stores.specs.PresentMap.{record_under}
use Rattle.var_stores.specs.Rewriting.{new_attributes, header_of}
use Rattle.var_stores.proofs.NewRecords.{record_appended}
use Rattle.var_stores.proofs.StoredNames.{stored_name-len}
use Rattle.var_stores.proofs.StoredVars.{on_ok}
use Rattle.var_stores.proofs.writer.append_new.Goals as goal

pub returns : goal.returns
returns c =
    let old = c.args.bytes.now.items in
    let name = c.args.name.now in
    let stored = stored_name name in
    let value = c.args.value.now in
    let present = c.args.present.now in
    let given = c.new_attributes-attributes.result in
    let size = 2 * length name + 2 in
    let key : c.deref.result.now ≡ global_key name = c.deref.ensures.value ∙ c.in_ok-append_name.ensures
    ∙ ap (λ (guid : List ℕ). guid ++ stored) c.in_ok-key.ensures.items in
    let asked = get c.args.attributes.now name in
    let attributes : given ≡ new_attributes asked (record_under present (global_key name)) =
    c.new_attributes-attributes.ensures ∙ ap (λ (o : Option (List ℕ)). new_attributes o (record_under present c.deref.result.now)) c.get.ensures.value
    ∙ ap (λ (k : List ℕ). new_attributes asked (record_under present k)) key in
    let bytes : c.extend_from_slice.new.self.items ≡ ((old ++ (0xAA ∷ 0x55 ∷ 0x3F ∷ header_of given size (length value))) ++ stored) ++ value =
    c.in_ok-extend_from_slice.ensures.items ∙ ap (λ (b : List ℕ). b ++ value)
    (c.in_ok-append_name-2.ensures ∙ ap (λ (b : List ℕ). b ++ stored) c.in_ok-append_head.ensures) in
    on_ok c.append_padding.result c.append_padding.ensures (λ padded.
    padded ∙ ap (λ (b : List ℕ). b ++ replicate (padding_len (size + length value)) 0xFF) bytes
    ∙ record_appended old (header_of given size (length value)) stored value (replicate (padding_len (size + length value)) 0xFF)
    ∙ ap (λ (n : ℕ). old ++ (0xAA ∷ 0x55 ∷ 0x3F ∷ (header_of given n (length value)
    ++ (stored ++ (value ++ replicate (padding_len (n + length value)) 0xFF))))) (sym (stored_name-len name))
    ∙ ap (λ (a : List ℕ). old ++ (0xAA ∷ 0x55 ∷ 0x3F ∷ (header_of a (length stored) (length value)
    ++ (stored ++ (value ++ replicate (padding_len (length stored + length value)) 0xFF))))) attributes)
