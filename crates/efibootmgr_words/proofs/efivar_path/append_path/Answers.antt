use Rattle.std.proofs.Common.{◌≡◌, ◌∷◌, ◌++◌, List, ℕ, take, ap, append_assoc, ◌∙◌, flat_map}
use Rattle.std.specs.String.{string_bytes}
use Rattle.uefi_text.specs.Segment.{comma}
use Rattle.uefi_names.proofs.Texts.{path-joined}
use Rattle.efibootmgr_words.specs.EfivarText.{instance_text}
use Rattle.efibootmgr_words.proofs.efivar_path.append_path.Goals as goal

pub returns : goal.returns
returns c =
    let text = instance_text c.args.tables.now.own c.args.tables.now.standard in
    let before = string_bytes c.args.text.now in
    let others = flat_map (λ nodes. comma ∷ text nodes.items) (take c.loop-nodes.nodes-index c.in-Some.others.now) in
    let appended : string_bytes c.append_instance.new.text ≡ before ++ text c.in-Some.first.now.items = rw c.deref.ensures.value at c.in_ok-append_instance.ensures in
    c.loop-nodes.invariant
    ∙ (ap (λ (front : List ℕ). front ++ others) appended
    ∙ (append_assoc before (text c.in-Some.first.now.items) others
    ∙ ap (λ (whole : List ℕ). before ++ whole)
    (path-joined text (λ nodes. nodes.items) c.args.path.now c.instances.result.now c.in-Some.first.now c.in-Some.others.now c.loop-nodes.nodes-index c.instances.ensures.items c.in-Some.ensures.cases.0 c.loop-nodes-test.false)))
