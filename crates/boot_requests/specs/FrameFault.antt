-- The first fault of bytes that aren't a frame.
use Rattle.std.specs.Prelude.{◌≡◌, ◌≢◌, ℕ, ◌%◌, ◌^◌, ◌<◌, ◌≤◌, List, [], ◌∷◌, ◌++◌, length, drop}
use Rattle.std.specs.Int.{w32, to_le_bytes}
use Rattle.uefi_option.specs.declared.fault.OptionFault.{OptionFault}
use Rattle.uefi_option.specs.Fault.{IsFirstFault as IsFirstOptionFault}
use Rattle.boot_requests.specs.declared.frame.Kind.{Kind}
use Rattle.boot_requests.specs.declared.fault.FrameFault.{FrameFault}
use Rattle.boot_requests.specs.declared.fault.FrameFault.TheVariants as fault
use Rattle.boot_requests.specs.Limits.{payload_max, no_number}
use Rattle.boot_requests.specs.Kind.{version_of, byte_of, IsVersion, IsKind, Layout, EntryAndOption, Entry, Numbers, OptionAlone, layout_of}
use Rattle.boot_requests.specs.Frame.{magic}

-- The twelve bytes before a payload, whatever they say, and the bytes after them.
pub record Raw : Type 0 where
  pub magic : List ℕ
  pub version : ℕ
  pub kind : ℕ
  pub number : ℕ
  pub len : ℕ
  pub payload : List ℕ

-- the input is these
pub record IsRaw (input : List ℕ) (raw : Raw) : Type 0 where
  pub two_bytes : length raw.magic ≡ 2
  pub number : raw.number < 2 ^ 32
  pub len : raw.len < 2 ^ 32
  pub parts : input ≡ raw.magic ++ (raw.version ∷ raw.kind ∷ []) ++ to_le_bytes w32 raw.number ++ to_le_bytes w32 raw.len
      ++ raw.payload

-- the version and the byte stand for a kind of which this holds
pub record IsKindWith (version byte : ℕ) (P : Kind → Type 0) : Type 0 where
  pub kind : Kind
  pub version_is : version_of kind ≡ version
  pub is : byte_of kind ≡ byte
  pub here : P kind

-- the payload doesn't have the length of one that is laid out so
abbrev pub IsBadPayload : Layout → List ℕ → Type 0
IsBadPayload EntryAndOption payload = length payload < 2
IsBadPayload Entry payload = length payload ≢ 2
IsBadPayload Numbers payload = length payload % 2 ≢ 0
IsBadPayload OptionAlone payload = ⊥

-- the load option of a payload that is laid out so has this first fault
abbrev pub IsBadOption : Layout → List ℕ → OptionFault → Type 0
IsBadOption EntryAndOption payload option_fault = (2 ≤ length payload) × IsFirstOptionFault (drop 2 payload) option_fault
IsBadOption Entry payload option_fault = ⊥
IsBadOption Numbers payload option_fault = ⊥
IsBadOption OptionAlone payload option_fault = IsFirstOptionFault payload option_fault

-- The same of what is after a header. Its version and its kind say how that is laid out.
abbrev pub HasBadPayload : Raw → Type 0
HasBadPayload raw = IsKindWith raw.version raw.kind (λ kind. IsBadPayload (layout_of kind) raw.payload)

abbrev pub HasBadOption : Raw → OptionFault → Type 0
HasBadOption raw option_fault = IsKindWith raw.version raw.kind (λ kind. IsBadOption (layout_of kind) raw.payload option_fault)

-- What each test finds, in the order of the tests: that it fails, when all before it passed.
abbrev pub FailsMagic : Raw → Type 0
FailsMagic raw = raw.magic ≢ magic

abbrev pub FailsVersion : Raw → Type 0
FailsVersion raw = (raw.magic ≡ magic) × (¬ IsVersion raw.version)

abbrev pub PassesVersion : Raw → Type 0
PassesVersion raw = (raw.magic ≡ magic) × IsVersion raw.version

abbrev pub FailsLength : Raw → Type 0
FailsLength raw = PassesVersion raw × (payload_max < raw.len)

abbrev pub FailsSize : Raw → Type 0
FailsSize raw = PassesVersion raw × (raw.len ≤ payload_max) × (length raw.payload ≢ raw.len)

abbrev pub PassesSize : Raw → Type 0
PassesSize raw = PassesVersion raw × (raw.len ≤ payload_max) × (length raw.payload ≡ raw.len)

abbrev pub FailsKind : Raw → Type 0
FailsKind raw = PassesSize raw × (¬ IsKind raw.version raw.kind)

abbrev pub FailsNumber : Raw → Type 0
FailsNumber raw = PassesSize raw × IsKind raw.version raw.kind × (raw.number ≡ no_number)

abbrev pub PassesNumber : Raw → Type 0
PassesNumber raw = PassesSize raw × IsKind raw.version raw.kind × (raw.number ≢ no_number)

abbrev pub FailsPayload : Raw → Type 0
FailsPayload raw = PassesNumber raw × HasBadPayload raw

-- the input is a header, whatever it says, and bytes after it, of which this holds
pub record IsRawWith (input : List ℕ) (P : Raw → Type 0) : Type 0 where
  pub raw : Raw
  pub is : IsRaw input raw
  pub here : P raw

-- The fault is the first of the input, by cases, and has its sizes.
abbrev pub IsFirstFault : List ℕ → FrameFault → Type 0
IsFirstFault input (fault.Short found) = (found ≡ length input) × (length input < 12)
IsFirstFault input fault.BadMagic = IsRawWith input FailsMagic
IsFirstFault input fault.BadVersion = IsRawWith input FailsVersion
IsFirstFault input fault.TooLong = IsRawWith input FailsLength
IsFirstFault input (fault.BadSize stated found) =
    IsRawWith input (λ raw. FailsSize raw × (stated ≡ raw.len) × (found ≡ length raw.payload))
IsFirstFault input fault.BadKind = IsRawWith input FailsKind
IsFirstFault input fault.BadNumber = IsRawWith input FailsNumber
IsFirstFault input fault.BadPayload = IsRawWith input FailsPayload
IsFirstFault input (fault.Option option_fault) = IsRawWith input (λ raw. PassesNumber raw × HasBadOption raw option_fault)
IsFirstFault input fault.OutOfMemory = ⊥
