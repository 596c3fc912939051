use Rattle.std.proofs.Common.{◌≡◌, ◌∷◌, ◌++◌, List, ℕ, take, ap, append_assoc, ◌∙◌, flat_map}
use Rattle.std.specs.String.{string_bytes}
use Rattle.uefi_text.specs.Segment.{slash}
use Rattle.uefi_names.proofs.Texts.{joined}
use Rattle.efibootmgr_words.specs.EfivarText.{node_text}
use Rattle.efibootmgr_words.proofs.efivar_path.append_instance.Goals as goal

pub returns : goal.returns
returns c =
    let text = node_text c.args.tables.now.own c.args.tables.now.standard in
    let before = string_bytes c.args.text.now in
    let others = flat_map (λ node. slash ∷ text node) (take c.loop-node.node-index c.in-Some.others.now) in
    let appended : string_bytes c.append_node.new.text ≡ before ++ text c.in-Some.node.now = c.in_ok-append_node.ensures in
    c.loop-node.invariant
    ∙ (ap (λ (front : List ℕ). front ++ others) appended
    ∙ (append_assoc before (text c.in-Some.node.now) others
    ∙ ap (λ (whole : List ℕ). before ++ whole)
    (joined slash text c.args.nodes.now c.in-Some.node.now c.in-Some.others.now c.loop-node.node-index c.in-Some.ensures.cases.0 c.loop-node-test.false)))
