-- What entries, orders and whole profiles mean, by the members of their tables.
use Rattle.std.specs.Prelude.{◌≡◌, ◌⊎◌, ℕ, Bool, List, [], Option, Some, None, Ok, codes, string_bytes, Vec}
use Rattle.std.specs.List.{AllByRecursion}
use Rattle.std.specs.declared.alloc.Global.{Global}
use Rattle.hex.specs.Hex.{decode_of}
use Rattle.uefi_path.specs.Units.{units_bytes}
use Rattle.uefi_text.specs.Bytes.{Each}
use Rattle.uefi_option.specs.LoadOption.{OptionParts, SpellsOption}
use Rattle.profile_files.specs.declared.tree.Key.{Key}
use Rattle.profile_files.specs.declared.tree.Node.{Node}
use Rattle.profile_files.specs.declared.tree.Node.TheVariants as node
use Rattle.profile_files.specs.declared.written.WrittenName.{WrittenName}
use Rattle.profile_files.specs.declared.written.WrittenEntry.{WrittenEntry}
use Rattle.profile_files.specs.declared.written.WrittenState.{WrittenState}
use Rattle.profile_files.specs.declared.written.WrittenState.TheVariants as state
use Rattle.profile_files.specs.declared.written.WrittenPresent.{WrittenPresent}
use Rattle.profile_files.specs.declared.written.WrittenStart.{WrittenStart}
use Rattle.profile_files.specs.declared.written.WrittenStart.TheVariants as start
use Rattle.profile_files.specs.declared.written.WrittenOrder.{WrittenOrder}
use Rattle.profile_files.specs.declared.written.WrittenOrder.TheVariants as order
use Rattle.profile_files.specs.declared.written.WrittenProfile.{WrittenProfile}
use Rattle.profile_files.specs.Members.{Members, HasNone, HasValue, HasMember, IsOfAbsent}
use Rattle.profile_files.specs.Values.{IsFlag, IsText, IsName, IsNext, IsTimeout, unit_bytes}

-- the value is a table of these members
abbrev pub IsTable : Node → Members → Type 0
IsTable value members = (place : ℕ) × (them : Vec (Key × Node) Global) × (value ≡ node.Table place them) × (them.items ≡ members)

-- the value is a list of these values
abbrev pub IsList : Node → List Node → Type 0
IsList value items = (place : ℕ) × (them : Vec Node Global) × (value ≡ node.List place them) × (them.items ≡ items)

-- the member of this name is this text
abbrev pub HasText : List ℕ → List ℕ → Members → Type 0
HasText name text members = (value : Node) × HasValue name value members × IsText value text

-- ---- what an entry starts

-- the value is a text of hexadecimal digits, two for each of these bytes
abbrev pub IsHex : Node → List ℕ → Type 0
IsHex value bytes = (digits : List ℕ) × IsText value digits × (decode_of digits ≡ Ok bytes)

-- the value is a text, whose units have these bytes
abbrev pub IsUnits : Node → List ℕ → Type 0
IsUnits value bytes = (text : List ℕ) × IsText value text × (bytes ≡ unit_bytes text)

-- the optional data of an entry, by its members `optional` and `optional_text`
abbrev pub IsOptional : Option Node → Option Node → List ℕ → Type 0
IsOptional None None bytes = bytes ≡ []
IsOptional (Some digits) None bytes = IsHex digits bytes
IsOptional None (Some value) bytes = IsUnits value bytes
IsOptional (Some digits) (Some value) bytes = ⊥

-- the members say these optional data
pub record HasOptional (members : Members) (bytes : List ℕ) : Type 0 where
  pub digits : Option Node
  pub text : Option Node
  pub has_digits : HasMember (codes "optional") digits members
  pub has_text : HasMember (codes "optional_text") text members
  pub is : IsOptional digits text bytes

-- the bytes are a load option with this description
pub record IsOptionOf (bytes description : List ℕ) : Type 0 where
  pub option : OptionParts
  pub spelled : SpellsOption bytes option
  pub is : units_bytes option.description ≡ description

-- the value is an option of these bytes, beside which there are no optional data
pub record IsLoneOption (value : Node) (members : Members) (description bytes : List ℕ) : Type 0 where
  pub digits : IsHex value bytes
  pub is : IsOptionOf bytes description
  pub no_digits : HasNone (codes "optional") members
  pub no_text : HasNone (codes "optional_text") members

-- what the entry of this description starts, by the members `loader`, `path` and `option`, of which one is there
abbrev pub IsStart : Option Node → Option Node → Option Node → Members → List ℕ → WrittenStart → Type 0
IsStart (Some value) None None members description (start.Loader file optional) =
    IsText value (string_bytes file.text) × HasOptional members optional.items
IsStart None (Some value) None members description (start.Path text optional) =
    IsText value (string_bytes text.text) × HasOptional members optional.items
IsStart None None (Some value) members description (start.Option bytes) = IsLoneOption value members description bytes.items
IsStart loader path option members description said = ⊥

-- the members say that the entry of this description starts this
pub record HasStart (members : Members) (description : List ℕ) (said : WrittenStart) : Type 0 where
  pub loader : Option Node
  pub path : Option Node
  pub option : Option Node
  pub has_loader : HasMember (codes "loader") loader members
  pub has_path : HasMember (codes "path") path members
  pub has_option : HasMember (codes "option") option members
  pub is : IsStart loader path option members description said

-- ---- entries

-- whether the entry is to be active, by its member `active`
abbrev pub HasActive : Members → Option Bool → Type 0
HasActive members None = HasNone (codes "active") members
HasActive members (Some flag) = (value : Node) × HasValue (codes "active") value members × IsFlag value flag

-- the entry isn't to be there, and has no member but its description and that word
pub record IsAbsent (members : Members) : Type 0 where
  pub word : HasText (codes "state") (codes "absent") members
  pub others : AllByRecursion IsOfAbsent members

-- the entry of this description is to be there, and to be so
pub record IsPresent (members : Members) (description : List ℕ) (present : WrittenPresent) : Type 0 where
  pub word : HasNone (codes "state") members ⊎ HasText (codes "state") (codes "present") members
  pub start : HasStart members description present.start
  pub active : HasActive members present.active

-- what is to be of the entry of this description
abbrev pub IsState : Members → List ℕ → WrittenState → Type 0
IsState members description state.Absent = IsAbsent members
IsState members description (state.Present present) = IsPresent members description present

-- the value is a table of an entry's members, which say this
pub record IsEntry (value : Node) (entry : WrittenEntry) : Type 0 where
  pub members : Members
  pub table : IsTable value members
  pub description : Node
  pub has_description : HasValue (codes "description") description members
  pub name : IsName description entry.name
  pub state : IsState members entry.name.bytes.items entry.state

-- ---- profiles

-- the value is a list of these entries
abbrev pub AreEntriesOf : Node → List WrittenEntry → Type 0
AreEntriesOf value entries = (items : List Node) × IsList value items × Each IsEntry items entries

-- what is said of the entries: nothing, or a list of them
abbrev pub AreEntries : Option Node → List WrittenEntry → Type 0
AreEntries None entries = entries ≡ []
AreEntries (Some value) entries = AreEntriesOf value entries

-- the value is a list of these descriptions
abbrev pub AreNames : Node → List WrittenName → Type 0
AreNames value names = (items : List Node) × IsList value items × Each IsName items names

-- what is said of BootOrder by the members `first` and `only`, of which one may be there
abbrev pub IsOrderOf : Option Node → Option Node → WrittenOrder → Type 0
IsOrderOf None None said = said ≡ order.Kept
IsOrderOf (Some value) None (order.First names) = AreNames value names.items
IsOrderOf None (Some value) (order.Only names) = AreNames value names.items
IsOrderOf first only said = ⊥

-- what the members of an order say
pub record HasOrder (members : Members) (said : WrittenOrder) : Type 0 where
  pub first : Option Node
  pub only : Option Node
  pub has_first : HasMember (codes "first") first members
  pub has_only : HasMember (codes "only") only members
  pub is : IsOrderOf first only said

-- the value is a table of an order's members, which say this
abbrev pub IsOrderTable : Node → WrittenOrder → Type 0
IsOrderTable value said = (members : Members) × IsTable value members × HasOrder members said

-- what is said of BootOrder: nothing, or what a table says
abbrev pub IsOrder : Option Node → WrittenOrder → Type 0
IsOrder None said = said ≡ order.Kept
IsOrder (Some value) said = IsOrderTable value said

-- what the members of a profile say
pub record IsProfile (members : Members) (profile : WrittenProfile) : Type 0 where
  pub entries : Option Node
  pub order : Option Node
  pub next : Option Node
  pub timeout : Option Node
  pub has_entries : HasMember (codes "entries") entries members
  pub has_order : HasMember (codes "order") order members
  pub has_next : HasMember (codes "next") next members
  pub has_timeout : HasMember (codes "timeout") timeout members
  pub are : AreEntries entries profile.entries.items
  pub ordered : IsOrder order profile.order
  pub is_next : IsNext next profile.next
  pub is_timeout : IsTimeout timeout profile.timeout
