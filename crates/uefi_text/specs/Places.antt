-- For private functions of the reader: where a fault of a segment has its place in the text.
use Rattle.std.specs.Prelude.{◌≡◌, ℕ}
use Rattle.uefi_text.specs.declared.fault.SegmentFault.{SegmentFault}
use Rattle.uefi_text.specs.declared.fault.TextFault.{TextFault}
use Rattle.uefi_text.specs.declared.fault.TextFault.TheVariants as text
use Rattle.uefi_text.specs.Fault.{IsPlaceOf}
use Rattle.uefi_text.specs.Reader.{Tells}

-- the fault of a text has the place of the segment's fault, which is from here to there; out of memory has none
abbrev pub IsFaultIn : SegmentFault → TextFault → ℕ → ℕ → Type 0
IsFaultIn fault told place end = Tells fault (IsPlaceOf told place end) (told ≡ text.OutOfMemory)
