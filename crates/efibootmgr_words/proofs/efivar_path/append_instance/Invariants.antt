use Rattle.std.proofs.Common.{◌≡◌, ◌++◌, ◌∷◌, take, flat_map}
use Rattle.std.specs.String.{string_bytes}
use Rattle.uefi_text.specs.Segment.{slash}
use Rattle.efibootmgr_words.specs.EfivarText.{node_text}
use Rattle.efibootmgr_words.proofs.efivar_path.append_instance.Given as goal

abbrev pub invariant-loop-node : goal.invariant-loop-node
invariant-loop-node l =
    string_bytes l.text ≡ string_bytes l.initial.text ++ flat_map (λ node. slash ∷ node_text l.tables.own l.tables.standard node) (take l.node-index l.others)
