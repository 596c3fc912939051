-- The debug directory (PE/COFF, 6.1.1), as a loader looks for it in the file.
use Rattle.std.specs.Prelude.{ℕ, zero, suc, ◌+◌, ◌-◌, ◌/◌, ◌%◌, ◌==◌, ◌&&◌, Bool, not, nat_le, nat_lt, List, [], ◌∷◌, length, Option, Some, None, if◌then◌else◌}
use Rattle.efi_images.specs.Bytes.{u32_at}
use Rattle.efi_images.specs.Headers.{directory_start, directory_size, directory_count, directory_place}
use Rattle.efi_images.specs.Sections.{sections}
use Rattle.efi_images.specs.Check.{Check, check}
use Rattle.efi_images.specs.declared.section.Section.{Section}
use Rattle.efi_images.specs.declared.fault.ImageFault.TheVariants as fault

-- The section has this address in memory. Its end is a number of four bytes, so it has none if it ends after the last
-- address.
abbrev pub has_address : Section → ℕ → Bool
has_address s address = nat_le s.virtual_address address && nat_lt address ((s.virtual_address + s.virtual_size) % 4294967296)

-- where the address is in the file by the first section that has it, or 0 if none has it
abbrev pub file_place : List Section → ℕ → ℕ
file_place [] address = 0
file_place (s ∷ others) address =
    if has_address s address then (address - s.virtual_address) + s.raw_place else file_place others address

-- where the debug directory's entries begin in the file, or 0 if they are in no section, or there is no such directory
unfoldable pub debug_place : List ℕ → ℕ
debug_place file = if nat_lt 6 (directory_count file) then file_place (sections file) (directory_start file 6) else 0

-- how many entries it has, of 28 bytes, one that is cut counted
abbrev pub debug_count : List ℕ → ℕ
debug_count file = (directory_size file 6 + 27) / 28

-- the entry at this offset is of CodeView data
abbrev pub is_code_view : List ℕ → ℕ → Bool
is_code_view file place = u32_at file (place + 12) == 2

-- the data of the entry at this offset are in the file and in no section
abbrev pub is_unmapped : List ℕ → ℕ → Bool
is_unmapped file place = u32_at file (place + 20) == 0 && not (u32_at file (place + 24) == 0)

-- of so many entries from this offset on, those up to the first of CodeView data
abbrev pub debug_entry_checks : List ℕ → ℕ → ℕ → List Check
debug_entry_checks file place zero = []
debug_entry_checks file place (suc count) =
    check (nat_le (place + 28) (length file)) (fault.DebugBeyondFile place (length file))
    ∷ (if is_code_view file place
    then check (not (is_unmapped file place)) (fault.UnmappedCodeView place) ∷ []
    else debug_entry_checks file (place + 28) count)

unfoldable pub debug_checks : List ℕ → List Check
debug_checks file =
    if debug_place file == 0 then []
    else check (nat_lt (debug_place file) 4294967296) (fault.DebugPlace (directory_place file 6) (debug_place file))
    ∷ debug_entry_checks file (debug_place file) (debug_count file)

-- ---- the entry of CodeView data

-- of so many entries from this offset on, where the first of CodeView data is
abbrev pub first_code_view : List ℕ → ℕ → ℕ → Option ℕ
first_code_view file place zero = None
first_code_view file place (suc count) = if is_code_view file place then Some place else first_code_view file (place + 28) count

-- where that of the debug directory is
unfoldable pub code_view_place : List ℕ → Option ℕ
code_view_place file = if debug_place file == 0 then None else first_code_view file (debug_place file) (debug_count file)
