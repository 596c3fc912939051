use Rattle.std.proofs.Common.{◌≡◌, ◌++◌, ◌&&◌, map}
use Rattle.std.specs.List.{filter}
use Rattle.uefi_vars.specs.Iter.{variables_left}
use Rattle.uefi_vars.specs.BootChange.{change_parts, is_entry_name, differs, put_names, change_under}
use Rattle.uefi_vars.proofs.boot_change.push_puts.Given as goal

-- what is there, with what is still to come
abbrev pub invariant-loop-name : goal.invariant-loop-name
invariant-loop-name l =
    map change_parts l.changes.items
    ++ map (change_under l.from l.to) (filter (λ name. is_entry_name name && differs l.from l.to name) (map (λ e. e.0) (variables_left l.name-iterator)))
    ≡ map change_parts l.fn.changes.items ++ map (change_under l.from l.to) (put_names l.from l.to)
