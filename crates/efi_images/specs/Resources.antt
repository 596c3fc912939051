-- The resource directory (PE/COFF, 6.9), in which a loader looks in memory for the resource that is of the type HII (UEFI 2.10,
-- 7.4.1).
use Rattle.std.specs.Prelude.{ℕ, zero, suc, ◌+◌, ◌-◌, ◌*◌, ◌==◌, ◌&&◌, ◌||◌, Bool, not, nat_le, nat_lt, List, [], ◌∷◌, ◌++◌, if◌then◌else◌}
use Rattle.efi_images.specs.Headers.{image_size, directory_count, directory_place, directory_start, directory_size}
use Rattle.efi_images.specs.Loaded.{loaded_at, loaded_u16, loaded_u32, file_offset}
use Rattle.efi_images.specs.Check.{Check, check}
use Rattle.efi_images.specs.declared.loaded.Loaded.{Loaded}
use Rattle.efi_images.specs.declared.resources.NamedEntries.{NamedEntries}
use Rattle.efi_images.specs.declared.resource_fault.ResourceFault.TheVariants as resource
use Rattle.efi_images.specs.declared.fault.ImageFault.TheVariants as fault

-- Places in the resources are told by how many bytes they are after the first. Those of a directory or of a name have the
-- highest of 32 bits set.
abbrev pub is_marked : ℕ → Bool
is_marked number = nat_le 2147483648 number

abbrev pub unmarked : ℕ → ℕ
unmarked number = number - 2147483648

-- ---- a directory

-- where its entries end, of eight bytes each, with names and then with numbers
abbrev pub entries_end : List ℕ → Loaded → ℕ → ℕ
entries_end file l at = at + (16 + 8 * (loaded_u16 file l (at + 12) + loaded_u16 file l (at + 14)))

-- those with names, at the first
abbrev pub named_entries : List ℕ → Loaded → ℕ → NamedEntries
named_entries file l at = record { count = loaded_u16 file l (at + 12); offset = at + 16 }

-- the directory at `at`, of resources of so many bytes, which is named at this place of the file
abbrev pub directory_at_checks : List ℕ → Loaded → ℕ → ℕ → ℕ → List Check
directory_at_checks file l size place at =
    check (nat_lt at size) (fault.Resources (resource.BeyondResources place at size))
    ∷ check (nat_le (at + 16) l.size) (fault.Resources (resource.NotLoaded place))
    ∷ check (nat_le (entries_end file l at) size) (fault.Resources (resource.DirectorySize place (entries_end file l at) size))
    ∷ []

-- ---- an entry

abbrev pub entry_name : List ℕ → Loaded → NamedEntries → ℕ
entry_name file l e = loaded_u32 file l e.offset

-- where its directory is, or its data
abbrev pub entry_target : List ℕ → Loaded → NamedEntries → ℕ
entry_target file l e = loaded_u32 file l (e.offset + 4)

-- the name is HII: three characters of two bytes, after how many they are
abbrev pub is_hii : List ℕ → Loaded → ℕ → Bool
is_hii file l at = loaded_u32 file l at == 0x480003 && loaded_u32 file l (at + 4) == 0x490049

abbrev pub is_hii_entry : List ℕ → Loaded → NamedEntries → Bool
is_hii_entry file l e = is_marked (entry_name file l e) && is_hii file l (unmarked (entry_name file l e))

-- ---- a level down, if the entry's target is a directory: to the first entry of that

abbrev pub descent_checks : List ℕ → Loaded → ℕ → NamedEntries → List Check
descent_checks file l size e =
    if is_marked (entry_target file l e)
    then directory_at_checks file l size (file_offset l e.offset) (unmarked (entry_target file l e))
    ++ check (nat_le (unmarked (entry_target file l e) + 24) l.size) (fault.Resources (resource.NotLoaded (file_offset l e.offset))) ∷ []
    else []

abbrev pub descended : List ℕ → Loaded → NamedEntries → NamedEntries
descended file l e = if is_marked (entry_target file l e) then named_entries file l (unmarked (entry_target file l e)) else e

-- two levels: the resource's names and its languages
abbrev pub twice_descended : List ℕ → Loaded → NamedEntries → NamedEntries
twice_descended file l e = descended file l (descended file l e)

-- the data that the last entry leads to
abbrev pub target_checks : List ℕ → Loaded → ℕ → NamedEntries → List Check
target_checks file l size e =
    check (is_marked (entry_target file l e) || nat_lt (entry_target file l e) size)
    (fault.Resources (resource.BeyondResources (file_offset l e.offset) (entry_target file l e) size))
    ∷ []

abbrev pub hii_checks : List ℕ → Loaded → ℕ → NamedEntries → List Check
hii_checks file l size e =
    descent_checks file l size e
    ++ descent_checks file l size (descended file l e)
    ++ target_checks file l size (twice_descended file l e)

-- the name, if it is letters
abbrev pub name_place_checks : Loaded → ℕ → ℕ → ℕ → List Check
name_place_checks l size place name =
    if is_marked name
    then check (nat_lt (unmarked name) size) (fault.Resources (resource.BeyondResources place (unmarked name) size))
    ∷ check (nat_le (unmarked name + 8) l.size) (fault.Resources (resource.NotLoaded place))
    ∷ []
    else []

-- this entry
abbrev pub named_checks : List ℕ → Loaded → ℕ → NamedEntries → List Check
named_checks file l size e =
    check (nat_le (e.offset + 8) l.size) (fault.Resources (resource.NotLoaded (file_offset l e.offset)))
    ∷ name_place_checks l size (file_offset l e.offset) (entry_name file l e)
    ++ (if is_hii_entry file l e then hii_checks file l size e else [])

-- ---- one after the other

-- where the loader is after the entry's two levels, if it is named HII
abbrev pub reached : List ℕ → Loaded → NamedEntries → NamedEntries
reached file l e = if is_hii_entry file l e then twice_descended file l e else e

-- the loader has found what it looks for, and stops
abbrev pub is_found : List ℕ → Loaded → NamedEntries → Bool
is_found file l e = is_hii_entry file l e && not (is_marked (entry_target file l (twice_descended file l e)))

-- The next entry: the loader goes on where it is, and takes how many names there are from there, while it still counts
-- those that it has looked at before.
abbrev pub next_entry : List ℕ → Loaded → NamedEntries → NamedEntries
next_entry file l e = record { count = (reached file l e).count; offset = (reached file l e).offset + 8 }

-- those from this one on, of which so many were looked at, and so many are at most
abbrev pub names_checks : List ℕ → Loaded → ℕ → ℕ → NamedEntries → ℕ → List Check
names_checks file l size index e zero = []
names_checks file l size index e (suc left) =
    if nat_lt index e.count
    then named_checks file l size e
    ++ (if is_found file l e then [] else names_checks file l size (index + 1) (next_entry file l e) left)
    else []

-- the directory at 0, and its entries, of which there are no more than bytes
abbrev pub root_checks : List ℕ → Loaded → ℕ → List Check
root_checks file l size =
    directory_at_checks file l size (directory_place file 2) 0
    ++ names_checks file l size 0 (named_entries file l 0) size

-- there are resources, in the image
abbrev pub has_resources : List ℕ → Bool
has_resources file =
    nat_lt 2 (directory_count file) && (not (directory_size file 2 == 0) && nat_lt (directory_start file 2) (image_size file))

unfoldable pub resource_checks : List ℕ → List Check
resource_checks file =
    if has_resources file then root_checks file (loaded_at file (directory_start file 2)) (directory_size file 2) else []
