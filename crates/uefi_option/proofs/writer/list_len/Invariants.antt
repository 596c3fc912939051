use Rattle.std.proofs.Common.{◌≡◌, ◌+◌, ◌<◌, ◌^◌, length, take, drop}
use Rattle.std.specs.List.{AllByRecursion}
use Rattle.uefi_path.specs.Path.{IsPath}
use Rattle.uefi_option.specs.LoadOption.{list_bytes}
use Rattle.uefi_option.proofs.writer.list_len.Given as goal

abbrev pub invariant-loop-path : goal.invariant-loop-path
invariant-loop-path l = record {
  fits : l.len < 2 ^ 16;
  counted : l.len + length (list_bytes (drop l.path-index l.paths)) ≡ length (list_bytes l.paths);
  valid : AllByRecursion IsPath (take l.path-index l.paths);
}
