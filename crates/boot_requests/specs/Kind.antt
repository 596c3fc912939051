-- The kinds of requests, and what depends on the kind alone: the version of its frame, the byte that stands for it
-- there, and what its payload is laid out as.
use Rattle.std.specs.Prelude.{◌≡◌, ℕ}
use Rattle.boot_requests.specs.declared.frame.Kind.{Kind}
use Rattle.boot_requests.specs.declared.frame.Kind.TheVariants as kind

-- the version of a frame of the kind
abbrev pub version_of : Kind → ℕ
version_of kind.Add = 1
version_of kind.Replace = 1
version_of kind.Remove = 1
version_of kind.Order = 1
version_of kind.Next = 1
version_of kind.AddFree = 2
version_of kind.AddFirst = 3
version_of kind.First = 3

-- the byte that stands for the kind
abbrev pub byte_of : Kind → ℕ
byte_of kind.Add = 1
byte_of kind.Replace = 2
byte_of kind.Remove = 3
byte_of kind.Order = 4
byte_of kind.Next = 5
byte_of kind.AddFree = 6
byte_of kind.AddFirst = 7
byte_of kind.First = 8

-- The number of an entry, and a load option after it; the number of an entry; any numbers of entries; a load option.
pub data Layout : Type 0 where
  EntryAndOption : Layout
  Entry : Layout
  Numbers : Layout
  OptionAlone : Layout

-- what the payload of a request of the kind is laid out as
abbrev pub layout_of : Kind → Layout
layout_of kind.Add = EntryAndOption
layout_of kind.Replace = EntryAndOption
layout_of kind.Remove = Entry
layout_of kind.Order = Numbers
layout_of kind.Next = Entry
layout_of kind.AddFree = OptionAlone
layout_of kind.AddFirst = OptionAlone
layout_of kind.First = Entry

-- how many bytes of such a payload are before its load option, if it has one
abbrev pub option_place : Layout → ℕ
option_place EntryAndOption = 2
option_place Entry = 0
option_place Numbers = 0
option_place OptionAlone = 0

-- a version that some kind has
abbrev pub IsVersion : ℕ → Type 0
IsVersion version = (kind : Kind) × (version_of kind ≡ version)

-- the version and the byte stand for a kind
abbrev pub IsKind : ℕ → ℕ → Type 0
IsKind version byte = (kind : Kind) × (version_of kind ≡ version) × (byte_of kind ≡ byte)
