-- Where in its bytes a fault of a frame is.
use Rattle.std.specs.Prelude.{◌≡◌, ◌+◌, ℕ, List, length, drop}
use Rattle.uefi_option.specs.Fault.{IsFirstFault as IsFirstOptionFault}
use Rattle.boot_requests.specs.declared.fault.FrameFault.{FrameFault}
use Rattle.boot_requests.specs.declared.fault.FrameFault.TheVariants as fault
use Rattle.boot_requests.specs.Kind.{layout_of, option_place}
use Rattle.boot_requests.specs.FrameFault.{IsRawWith, IsKindWith}

-- the load option of such bytes, if they have one, begins at the offset: behind the header, and behind what is before it in
-- a payload of their kind
abbrev pub IsOptionOffset : List ℕ → ℕ → Type 0
IsOptionOffset bytes offset =
    IsRawWith bytes (λ raw. IsKindWith raw.version raw.kind (λ kind. offset ≡ 12 + option_place (layout_of kind)))

-- This is the offset of what is at fault in the bytes: the end, behind which bytes are missing; a field of the header; the
-- payload; or the load option in it, which is so to its end.
abbrev pub IsFaultOffset : List ℕ → FrameFault → ℕ → Type 0
IsFaultOffset bytes (fault.Short found) offset = offset ≡ length bytes
IsFaultOffset bytes fault.BadMagic offset = offset ≡ 0
IsFaultOffset bytes fault.BadVersion offset = offset ≡ 2
IsFaultOffset bytes fault.TooLong offset = offset ≡ 8
IsFaultOffset bytes (fault.BadSize stated found) offset = offset ≡ 8
IsFaultOffset bytes fault.BadKind offset = offset ≡ 3
IsFaultOffset bytes fault.BadNumber offset = offset ≡ 4
IsFaultOffset bytes fault.BadPayload offset = offset ≡ 12
IsFaultOffset bytes (fault.Option option_fault) offset =
    IsOptionOffset bytes offset × IsFirstOptionFault (drop offset bytes) option_fault
IsFaultOffset bytes fault.OutOfMemory offset = offset ≡ 0
