use Rattle.std.proofs.Common.{◌≡◌, drop, map, []}
use Rattle.uefi_names.specs.Read.{items_read}
use Rattle.uefi_names.proofs.form_reader.items_read.Given as goal

abbrev pub invariant-loop-argument : goal.invariant-loop-argument
invariant-loop-argument l =
    items_read l.item l.size l.all.items (map (λ argument. argument.now) (drop l.argument-index l.arguments))
    ≡ items_read l.item l.size [] (map (λ argument. argument.now) l.arguments)
