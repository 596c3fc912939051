use Rattle.std.proofs.Common.{◌≡◌, ℕ, List, [], ◌∷◌, ◌++◌, refl, ap, subst, ◌∙◌, append_assoc}
use Rattle.std.specs.Prelude.{OnOk}
use Rattle.std.specs.List.{concat}
use Rattle.std.proofs.lemmas.List.{append-nil}
use Rattle.uefi_path.specs.Parts.{ipv4_fields}
use Rattle.uefi_path.proofs.Numbers.{byte_alone}
use Rattle.uefi_path.proofs.ipv4.Ipv4Node.append.Goals as goal

pub returns-clause-ok : goal.returns-clause-ok
returns-clause-ok c =
    let given = c.self.inside.local ∷ c.self.inside.remote ∷ c.to_le_bytes.result ∷ c.to_le_bytes-2.result
    ∷ c.to_le_bytes-3.result ∷ c.to_le_bytes-4.result ∷ c.self.inside.gateway ∷ c.self.inside.mask ∷ [] in
    let put : c.put-8.new.self ≡ c.args.header ++ concat given =
    simp (
      c.put-8.ensures,
      c.put-7.ensures,
      c.put-6.ensures,
      c.put-5.ensures,
      c.put-4.ensures,
      c.put-3.ensures,
      c.put-2.ensures,
      c.put.ensures,
      c.new-node.ensures,
      append_assoc,
      append-nil,
    ) in
    let same : given ≡ ipv4_fields c.args.self.now =
    rw (
      ← c.self.view_is,
      byte_alone _ c.self.invariant.fixed,
      c.to_le_bytes.ensures,
      c.to_le_bytes-2.ensures,
      c.to_le_bytes-3.ensures,
      c.to_le_bytes-4.ensures,
    ) refl in
    subst (λ (bytes : List ℕ). OnOk c.append_to.result (c.append_to.new.out.items ≡ c.args.out.now.items ++ bytes))
    (put ∙ ap (λ (fields : List (List ℕ)). c.args.header ++ concat fields) same) c.append_to.ensures.ok
