use Rattle.std.proofs.Common.{map}
use Rattle.uefi_path.specs.Views.{rows_left}
use Rattle.uefi_path.proofs.Readings.{HasMade}
use Rattle.uefi_path.proofs.reader.read_instances.Given as goal

abbrev pub invariant-loop-view : goal.invariant-loop-view
invariant-loop-view l = HasMade (rows_left l.fn.views) (map (λ nodes. nodes.items) l.instances.items) l.nodes.items (rows_left l.view-iterator)
