use Rattle.std.proofs.Common.{◌≡◌, ◌++◌, map, take}
use Rattle.disk_files.specs.FilePath.{slash_of}
use Rattle.disk_files.proofs.short_form.append_slashed.Given as goal

abbrev pub invariant-loop-byte : goal.invariant-loop-byte
invariant-loop-byte l = l.name.items ≡ l.initial.name.items ++ map slash_of (take l.byte-index l.loader)
