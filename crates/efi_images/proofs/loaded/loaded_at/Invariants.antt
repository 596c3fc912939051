use Rattle.std.proofs.Common.{◌≡◌, ◌<◌}
use Rattle.efi_images.specs.Loaded.{loaded_at, written_by}
use Rattle.efi_images.proofs.Rows.{from}
use Rattle.efi_images.proofs.loaded.loaded_at.Given as goal

abbrev pub invariant-loop-index : goal.invariant-loop-index
invariant-loop-index l =
    (l.loaded.place < 8589934592)
    × (l.loaded.size < 4294967296)
    × (loaded_at l.headers l.address ≡ written_by (from l.headers l.index) l.address l.loaded)
