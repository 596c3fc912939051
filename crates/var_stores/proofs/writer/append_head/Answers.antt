use Rattle.std.proofs.Common.{◌≡◌, ◌++◌, ◌∷◌, [], ℕ, List, ap, ◌∙◌}
use Rattle.std.specs.Int.{w32, to_le_bytes}
use Rattle.std.proofs.Math.ListN.{replicate}
use Rattle.uefi_vars.specs.Name.{global_vendor}
use Rattle.var_stores.proofs.NewRecords.{head_appended}
use Rattle.var_stores.proofs.writer.append_head.Goals as goal

pub returns : goal.returns
returns c =
    let old = c.args.bytes.now.items in
    let a = c.args.attributes in
    let n = to_le_bytes w32 c.args.name_size in
    let v = to_le_bytes w32 c.args.value_size in
    let z : List ℕ = replicate 28 0 in
    let first : c.extend_from_slice-2.new.self.items ≡ (old ++ (0xAA ∷ 0x55 ∷ 0x3F ∷ 0 ∷ [])) ++ a =
    c.in_ok-extend_from_slice-2.ensures.items ∙ ap (λ (b : List ℕ). b ++ a) c.in_ok-extend_from_slice.ensures.items in
    let second : c.extend_from_slice-4.new.self.items ≡ (((old ++ (0xAA ∷ 0x55 ∷ 0x3F ∷ 0 ∷ [])) ++ a) ++ z) ++ n =
    c.in_ok-extend_from_slice-4.ensures.items ∙ ap (λ (b : List ℕ). b ++ c.to_le_bytes.result)
    (c.in_ok-extend_from_slice-3.ensures.items ∙ ap (λ (b : List ℕ). b ++ z) first)
    ∙ ap (λ (b : List ℕ). (((old ++ (0xAA ∷ 0x55 ∷ 0x3F ∷ 0 ∷ [])) ++ a) ++ z) ++ b) c.to_le_bytes.ensures in
    c.in_ok-extend_from_slice-6.ensures.items
    ∙ ap (λ (b : List ℕ). b ++ global_vendor) (c.in_ok-extend_from_slice-5.ensures.items ∙ ap (λ (b : List ℕ). b ++ c.to_le_bytes-2.result) second
    ∙ ap (λ (b : List ℕ). ((((old ++ (0xAA ∷ 0x55 ∷ 0x3F ∷ 0 ∷ [])) ++ a) ++ z) ++ n) ++ b) c.to_le_bytes-2.ensures)
    ∙ head_appended old a z n v global_vendor
