-- What single values mean.
use Rattle.std.specs.Prelude.{◌≡◌, ◌⊎◌, ◌<◌, ◌^◌, ℕ, pos, Bool, false, List, flat_map, Option, Some, None, String, string_bytes}
use Rattle.std.specs.declared.alloc.Global.{Global}
use Rattle.std.specs.Char.Escape.{encode_utf16}
use Rattle.std.specs.Str.{chars}
use Rattle.uefi_path.specs.Units.{units_bytes}
use Rattle.value_texts.specs.Description.{IsDescription}
use Rattle.profile_files.specs.declared.tree.Node.{Node}
use Rattle.profile_files.specs.declared.tree.Node.TheVariants as node
use Rattle.profile_files.specs.declared.written.WrittenName.{WrittenName}
use Rattle.profile_files.specs.declared.written.WrittenNext.{WrittenNext}
use Rattle.profile_files.specs.declared.written.WrittenNext.TheVariants as next
use Rattle.profile_files.specs.declared.written.WrittenTimeout.{WrittenTimeout}
use Rattle.profile_files.specs.declared.written.WrittenTimeout.TheVariants as timeout

-- the value is true or false
abbrev pub IsFlag : Node → Bool → Type 0
IsFlag value flag = (place : ℕ) × (value ≡ node.Flag place flag)

-- it is a text of these bytes
abbrev pub IsText : Node → List ℕ → Type 0
IsText value bytes = (place : ℕ) × (text : String Global) × (value ≡ node.Text place text) × (string_bytes text ≡ bytes)

-- the bytes of the units of UTF-16 that a text has
abbrev pub unit_bytes : List ℕ → List ℕ
unit_bytes text = units_bytes (flat_map encode_utf16 (chars text))

-- the bytes of the units of the description for which a text stands
abbrev pub IsDescriptionOf : List ℕ → List ℕ → Type 0
IsDescriptionOf text bytes = (units : List ℕ) × IsDescription (chars text) units × (bytes ≡ units_bytes units)

-- it is a description, whose units are those for which the text stands
abbrev pub IsName : Node → WrittenName → Type 0
IsName value name = IsText value (string_bytes name.text) × IsDescriptionOf (string_bytes name.text) name.bytes.items

-- what is said of Timeout: nothing, that it isn't to be there, or so many seconds
abbrev pub IsTimeout : Option Node → WrittenTimeout → Type 0
IsTimeout None said = said ≡ timeout.Kept
IsTimeout (Some value) said =
    (IsFlag value false × (said ≡ timeout.Gone))
    ⊎ ((place : ℕ) × (seconds : ℕ) × (value ≡ node.Number place (pos seconds)) × (seconds < 2 ^ 16) × (said ≡ timeout.Seconds seconds))

-- what is said of BootNext: nothing, that it isn't to be there, or a description
abbrev pub IsNext : Option Node → WrittenNext → Type 0
IsNext None said = said ≡ next.Kept
IsNext (Some value) next.Kept = ⊥
IsNext (Some value) next.Gone = IsFlag value false
IsNext (Some value) (next.Entry name) = IsName value name
