use Rattle.std.proofs.Common.{◌≡◌, ◌++◌, take}
use Rattle.uefi_option.specs.LoadOption.{list_bytes}
use Rattle.uefi_option.proofs.writer.append_paths.Given as goal

abbrev pub invariant-loop-path : goal.invariant-loop-path
invariant-loop-path l = record {
  written : l.bytes.items ≡ l.fn.bytes.items ++ list_bytes (take l.path-index l.paths);
}
