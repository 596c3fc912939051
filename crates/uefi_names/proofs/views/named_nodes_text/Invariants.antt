use Rattle.std.proofs.Common.{◌≡◌, List}
use Rattle.std.specs.String.{string_bytes}
use Rattle.uefi_path.specs.declared.node.Node.{Node}
use Rattle.uefi_path.specs.Path.{IsPath, path_rows}
use Rattle.uefi_path.specs.Views.{rows_left}
use Rattle.uefi_names.proofs.Left.{IsLeft}
use Rattle.uefi_names.proofs.views.named_nodes_text.Given as goal

abbrev pub invariant-loop-view : goal.invariant-loop-view
invariant-loop-view l =
    (path : List (List Node)) → IsPath path → rows_left l.fn.nodes ≡ path_rows path
    → IsLeft l.table path (string_bytes l.text) l.is_first (rows_left l.view-iterator)
