-- CodeView data (the debug data of type 2 in PE/COFF, 6.1.2), as a loader reads them in memory.
use Rattle.std.specs.Prelude.{ℕ, ◌+◌, ◌-◌, ◌==◌, ◌||◌, not, nat_le, nat_lt, List, [], ◌∷◌, Option, Some, None, if◌then◌else◌}
use Rattle.efi_images.specs.Headers.{image_size, directory_start}
use Rattle.efi_images.specs.Debug.{debug_place, code_view_place}
use Rattle.efi_images.specs.Loaded.{loaded_at, loaded_u32}
use Rattle.efi_images.specs.Check.{Check, check}
use Rattle.efi_images.specs.declared.loaded.Loaded.{Loaded}
use Rattle.efi_images.specs.declared.code_view_fault.CodeViewFault.TheVariants as code_view
use Rattle.efi_images.specs.declared.fault.ImageFault.TheVariants as fault

-- ---- the entry

-- its address: as far after the directory's as it is in the file
abbrev pub entry_address : List ℕ → ℕ → ℕ
entry_address file place = directory_start file 6 + (place - debug_place file)

-- ---- what it says in memory: how many bytes the data have, their address, and where they are in the file

abbrev pub data_size : List ℕ → Loaded → ℕ
data_size file l = loaded_u32 file l 16

abbrev pub data_address : List ℕ → Loaded → ℕ
data_address file l = loaded_u32 file l 20

abbrev pub data_place : List ℕ → Loaded → ℕ
data_place file l = loaded_u32 file l 24

-- ---- the data

-- how many bytes they have at least, by their first four: NB10, RSDS and MTOC
abbrev pub least_size : ℕ → ℕ
least_size signature =
    if signature == 0x3031424E then 16
    else (if signature == 0x53445352 then 24
    else (if signature == 0x434F544D then 20 else 0))

-- the data at this address, of the entry at this place
abbrev pub data_checks : List ℕ → ℕ → ℕ → ℕ → List Check
data_checks file place address size =
    check (nat_lt address (image_size file)) (fault.CodeView (code_view.BeyondImage place address (image_size file)))
    ∷ check (nat_le 4 (loaded_at file address).size) (fault.CodeView (code_view.NotLoaded place address))
    ∷ check (nat_le (least_size (loaded_u32 file (loaded_at file address) 0)) size)
    (fault.CodeView (code_view.Size place size (least_size (loaded_u32 file (loaded_at file address) 0))))
    ∷ []

-- those of the entry at this place, of which this is known in memory: none, if it has no address
abbrev pub entry_data_checks : List ℕ → ℕ → Loaded → List Check
entry_data_checks file place l =
    check (nat_le 28 l.size) (fault.CodeView (code_view.EntryNotLoaded place))
    ∷ check (not (data_address file l == 0) || data_place file l == 0) (fault.UnmappedCodeView place)
    ∷ (if data_address file l == 0 then [] else data_checks file place (data_address file l) (data_size file l))

abbrev pub loaded_entry_checks : List ℕ → ℕ → List Check
loaded_entry_checks file place =
    check (nat_lt (entry_address file place) (image_size file))
    (fault.CodeView (code_view.EntryBeyondImage place (entry_address file place) (image_size file)))
    ∷ entry_data_checks file place (loaded_at file (entry_address file place))

abbrev pub code_view_at_checks : List ℕ → Option ℕ → List Check
code_view_at_checks file None = []
code_view_at_checks file (Some place) = loaded_entry_checks file place

unfoldable pub code_view_checks : List ℕ → List Check
code_view_checks file = code_view_at_checks file (code_view_place file)
