use Rattle.std.proofs.Common.{◌≡◌, ℕ, List, [], ◌∷◌, ◌++◌, refl, ap, sym, subst, ◌∙◌, append_assoc}
use Rattle.std.specs.Prelude.{OnOk}
use Rattle.std.specs.List.{concat}
use Rattle.std.specs.Int.{w32, w64, to_le_bytes}
use Rattle.std.proofs.lemmas.List.{append-nil}
use Rattle.uefi_path.specs.declared.node.Node.{Node}
use Rattle.uefi_path.specs.Node.{row_of}
use Rattle.uefi_path.proofs.node.Node.append.Goals as goal

pub returns-in-Cdrom-clause-ok : goal.returns-in-Cdrom-clause-ok
returns-in-Cdrom-clause-ok c =
    let given = c.to_le_bytes-in-Cdrom.result ∷ c.to_le_bytes-in-Cdrom-2.result ∷ c.to_le_bytes-in-Cdrom-3.result ∷ [] in
    let put : c.put-in-Cdrom-3.new.self ≡ c.args.header ++ concat given =
    simp (c.put-in-Cdrom-3.ensures, c.put-in-Cdrom-2.ensures, c.put-in-Cdrom.ensures, c.new-node-in-Cdrom.ensures, append_assoc, append-nil) in
    let fields = to_le_bytes w32 c.in-Cdrom.entry ∷ to_le_bytes w64 c.in-Cdrom.start ∷ to_le_bytes w64 c.in-Cdrom.size ∷ [] in
    let same : given ≡ fields =
    rw (c.to_le_bytes-in-Cdrom.ensures, c.to_le_bytes-in-Cdrom-2.ensures, c.to_le_bytes-in-Cdrom-3.ensures) refl in
    let row : concat fields ≡ (row_of c.args.self.now).body = ap (λ (node : Node). (row_of node).body) (sym c.in-Cdrom.is) in
    subst (λ (bytes : List ℕ). OnOk c.append_to-in-Cdrom.result (c.append_to-in-Cdrom.new.out.items ≡ c.args.out.now.items ++ bytes))
    (put ∙ ap (λ (bytes : List (List ℕ)). c.args.header ++ concat bytes) same
    ∙ ap (λ (bytes : List ℕ). c.args.header ++ bytes) row) c.append_to-in-Cdrom.ensures.ok
