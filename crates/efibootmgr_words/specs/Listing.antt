-- The lines that show a machine's boot variables, as version 17 of efibootmgr prints them (UEFI 2.10, 3.3).
use Rattle.std.specs.Prelude.{◌≡◌, ◌^◌, ◌<◌, ◌⊎◌, ℕ, Bool, true, false, ◌==◌, List, [], ◌∷◌, ◌++◌, map, drop, bit_and, if◌then◌else◌}
use Rattle.std.specs.Int.{is_in_range}
use Rattle.std.specs.FinMap.{get, entries}
use Rattle.std.specs.String.{string_bytes}
use Rattle.uefi_path.specs.declared.node.Node.{Node}
use Rattle.uefi_path.specs.Units.{units_of}
use Rattle.uefi_path.specs.Path.{IsPathFront}
use Rattle.uefi_names.specs.declared.table.NodeTable.{NodeTable}
use Rattle.uefi_option.specs.LoadOption.{OptionParts, SpellsOption, list_bytes}
use Rattle.uefi_vars.specs.declared.family.EntryFamily.{EntryFamily}
use Rattle.uefi_vars.specs.Family.{prefix_of}
use Rattle.uefi_vars.specs.Name.{entry_text, four_digits, order_text}
use Rattle.uefi_vars.specs.Vars.{Variables}
use Rattle.efibootmgr_words.specs.declared.lines.ListForm.{ListForm}
use Rattle.efibootmgr_words.specs.declared.lines.Listing.{Listing}
use Rattle.efibootmgr_words.specs.EfivarText.{AreTables, path_text}
use Rattle.efibootmgr_words.specs.Lines.{number_lines, order_line}
use Rattle.efibootmgr_words.specs.Units.{units_text}

-- a star for an entry with LOAD_OPTION_ACTIVE, the lowest bit of its first byte, and a blank for another
abbrev pub star_of : List ℕ → ℕ
star_of [] = 0x20
star_of (flags ∷ rest) = if bit_and flags 1 == 0 then 0x20 else 0x2A

-- the name of an entry, its star, and its description, which is as much of one as there is if the entry is no load option
abbrev pub front_text : EntryFamily → ℕ → List ℕ → List ℕ
front_text family number bytes =
    prefix_of family ++ (four_digits number ++ (star_of bytes ∷ 0x20 ∷ units_text (units_of (drop 6 bytes))))

-- a byte as the character that it is in ASCII, or a dot
abbrev pub printed : ℕ → ℕ
printed byte = if is_in_range 0x20 0x7E byte then byte else 0x2E

abbrev pub printable : List ℕ → List ℕ
printable bytes = map printed bytes

-- the text of the path that the bytes begin with
abbrev pub IsFirstPath : List ℕ → List ℕ → Type 0
IsFirstPath bytes text =
    (path : List (List Node)) × (n : ℕ) × (own : NodeTable) × (standard : NodeTable) × IsPathFront bytes path n
    × AreTables own standard × (text ≡ path_text own standard path)

-- what follows the description of a load option: if it is asked for, a tab, the text of its first path, and its optional data
abbrev pub IsPartsText : Bool → OptionParts → List ℕ → Type 0
IsPartsText false option more = more ≡ []
IsPartsText true option more =
    (path : List ℕ) × IsFirstPath (list_bytes option.paths) path × (more ≡ 9 ∷ (path ++ printable option.optional))

-- what follows the description of an entry, and its number if it is no load option
abbrev pub IsOptionText : Bool → ℕ → List ℕ → List ℕ → List ℕ → Type 0
IsOptionText verbose number bytes more bad =
    ((option : OptionParts) × SpellsOption bytes option × IsPartsText verbose option more × (bad ≡ []))
    ⊎ (((option : OptionParts) → SpellsOption bytes option → ⊥) × (more ≡ []) × (bad ≡ number ∷ []))

-- the line of an entry, and its number if it is no load option
abbrev pub IsEntry : ListForm → ℕ → List ℕ → List ℕ → List ℕ → Type 0
IsEntry form number bytes line bad =
    (more : List ℕ) × IsOptionText form.verbose number bytes more bad
    × (line ≡ front_text form.family number bytes ++ (more ++ 10 ∷ []))

-- the line of a variable, if it is an entry, and its number if it is one and no load option
abbrev pub IsVariable : ListForm → List ℕ × List ℕ → List ℕ → List ℕ → Type 0
IsVariable form variable line bad =
    ((number : ℕ) × (number < 2 ^ 16) × (variable.0 ≡ entry_text number) × IsEntry form number variable.1 line bad)
    ⊎ (((number : ℕ) → number < 2 ^ 16 → variable.0 ≡ entry_text number → ⊥) × (line ≡ []) × (bad ≡ []))

-- the lines of variables, and the numbers of those that are no load options
abbrev pub AreEntries : ListForm → List (List ℕ × List ℕ) → List ℕ → List ℕ → Type 0
AreEntries form [] lines bad = (lines ≡ []) × (bad ≡ [])
AreEntries form (variable ∷ variables) lines bad =
    (line : List ℕ) × (own : List ℕ) × (rest : List ℕ) × (others : List ℕ)
    × IsVariable form variable line own × AreEntries form variables rest others
    × (lines ≡ line ++ rest) × (bad ≡ own ++ others)

-- the lines and the numbers come after those that are there
abbrev pub Appends : List ℕ → List ℕ → Listing → Listing → Type 0
Appends lines bad before after =
    (string_bytes after.text ≡ string_bytes before.text ++ lines) × (after.faulty.items ≡ before.faulty.items ++ bad)

abbrev pub AppendsVariable : ListForm → List ℕ × List ℕ → Listing → Listing → Type 0
AppendsVariable form variable before after =
    (line : List ℕ) × (bad : List ℕ) × IsVariable form variable line bad × Appends line bad before after

abbrev pub AppendsEntries : ListForm → List (List ℕ × List ℕ) → Listing → Listing → Type 0
AppendsEntries form variables before after =
    (lines : List ℕ) × (bad : List ℕ) × AreEntries form variables lines bad × Appends lines bad before after

-- what is listed of a machine's variables: BootNext, BootCurrent and Timeout, BootOrder, and the entries
abbrev pub IsListing : ListForm → Variables → Listing → Type 0
IsListing form vars listing =
    (lines : List ℕ) × AreEntries form (entries vars) lines listing.faulty.items
    × (string_bytes listing.text ≡ number_lines vars ++ (order_line form.family (get vars order_text) ++ lines))
