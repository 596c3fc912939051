-- For private functions of the reader and the writer: what is in a frame.
use Rattle.std.specs.Prelude.{◌≡◌, ℕ, ◌<◌, ◌≤◌, List, ◌++◌, length, drop}
use Rattle.std.specs.Int.{w16, to_le_bytes}
use Rattle.uefi_option.specs.LoadOption.{OptionParts, IsOption, option_bytes}
use Rattle.uefi_option.specs.Fault.{IsFirstFault as IsFirstOptionFault}
use Rattle.boot_requests.specs.declared.frame.Kind.{Kind}
use Rattle.boot_requests.specs.declared.fault.FeedFault.{FeedFault}
use Rattle.boot_requests.specs.declared.fault.FeedFault.TheVariants as feeding
use Rattle.boot_requests.specs.declared.fault.FrameFault.{FrameFault}
use Rattle.boot_requests.specs.declared.fault.FrameFault.TheVariants as fault
use Rattle.boot_requests.specs.declared.request.Request.{Request}
use Rattle.boot_requests.specs.Limits.{payload_max, no_number}
use Rattle.boot_requests.specs.Kind.{layout_of}
use Rattle.boot_requests.specs.Request.{IsRequest, kind_of, payload_of}
use Rattle.boot_requests.specs.Frame.{header_bytes}
use Rattle.boot_requests.specs.FrameFault.{Raw, IsBadPayload, IsBadOption, FailsMagic, FailsVersion, PassesVersion, FailsLength}

abbrev pub raw_of : List ℕ → ℕ → ℕ → ℕ → ℕ → List ℕ → Raw
raw_of magic version kind number len payload =
    record { magic = magic; version = version; kind = kind; number = number; len = len; payload = payload }

-- a header that is good, whatever is after it
abbrev pub PassesLength : Raw → Type 0
PassesLength raw = PassesVersion raw × (raw.len ≤ payload_max)

-- the fault is the first of a header
abbrev pub FailsHeader : Raw → FeedFault → Type 0
FailsHeader raw feeding.BadMagic = FailsMagic raw
FailsHeader raw feeding.BadVersion = FailsVersion raw
FailsHeader raw feeding.TooLong = FailsLength raw
FailsHeader raw feeding.OutOfMemory = ⊥

-- a frame has the fault of its header
abbrev pub frame_fault_of : FeedFault → FrameFault
frame_fault_of feeding.BadMagic = fault.BadMagic
frame_fault_of feeding.BadVersion = fault.BadVersion
frame_fault_of feeding.TooLong = fault.TooLong
frame_fault_of feeding.OutOfMemory = fault.OutOfMemory

-- the bytes are those of a frame, as far as can be told without reading the payload
pub record SplitsFrame (bytes : List ℕ) (number : ℕ) (kind : Kind) (payload : List ℕ) : Type 0 where
  pub below : number < no_number
  pub len : length payload ≤ payload_max
  pub parts : bytes ≡ header_bytes kind number (length payload) ++ payload

-- the payload is that of the request, which has this kind
pub record SpellsPayload (kind : Kind) (payload : List ℕ) (request : Request) : Type 0 where
  pub valid : IsRequest request
  pub same_kind : kind ≡ kind_of request
  pub is : payload ≡ payload_of request

-- the payload is that of no request of this kind
abbrev pub IsPayloadFault : Kind → List ℕ → FrameFault → Type 0
IsPayloadFault kind payload fault.BadPayload = IsBadPayload (layout_of kind) payload
IsPayloadFault kind payload (fault.Option option_fault) = IsBadOption (layout_of kind) payload option_fault
IsPayloadFault kind payload fault.OutOfMemory = Unit {0}
IsPayloadFault kind payload _ = ⊥

-- the payload is the number of an entry and the spelling of an option
pub record SpellsEntry (payload : List ℕ) (entry : ℕ) (option : OptionParts) : Type 0 where
  pub valid : IsOption option
  pub is : payload ≡ to_le_bytes w16 entry ++ option_bytes option

-- the payload isn't the number of an entry and the spelling of an option
abbrev pub IsEntryFault : List ℕ → FrameFault → Type 0
IsEntryFault payload fault.BadPayload = length payload < 2
IsEntryFault payload (fault.Option option_fault) =
    (2 ≤ length payload) × IsFirstOptionFault (drop 2 payload) option_fault
IsEntryFault payload fault.OutOfMemory = Unit {0}
IsEntryFault payload _ = ⊥

-- the payload isn't the spelling of an option
abbrev pub IsOptionFault : List ℕ → FrameFault → Type 0
IsOptionFault payload (fault.Option option_fault) = IsFirstOptionFault payload option_fault
IsOptionFault payload fault.OutOfMemory = Unit {0}
IsOptionFault payload _ = ⊥
