use Rattle.std.proofs.Common.{◌≡◌, ◌++◌, ◌∷◌, take, flat_map}
use Rattle.std.specs.String.{string_bytes}
use Rattle.uefi_text.specs.Segment.{comma}
use Rattle.efibootmgr_words.specs.EfivarText.{instance_text}
use Rattle.efibootmgr_words.proofs.efivar_path.append_path.Given as goal

abbrev pub invariant-loop-nodes : goal.invariant-loop-nodes
invariant-loop-nodes l =
    string_bytes l.text ≡ string_bytes l.initial.text ++ flat_map (λ nodes. comma ∷ instance_text l.tables.own l.tables.standard nodes.items) (take l.nodes-index l.others)
