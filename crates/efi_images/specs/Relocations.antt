-- The blocks of relocations (PE/COFF, 6.6), as a loader goes through them in memory.
use Rattle.std.specs.Prelude.{ℕ, zero, suc, ◌+◌, ◌-◌, ◌*◌, ◌/◌, ◌%◌, ◌==◌, ◌&&◌, ◌||◌, Bool, not, nat_le, nat_lt, List, [], ◌∷◌, ◌++◌, min, if◌then◌else◌}
use Rattle.efi_images.specs.Headers.{image_size, directory_count, directory_place, directory_start, directory_size}
use Rattle.efi_images.specs.Loaded.{loaded_at, loaded_u16, loaded_u32, file_offset}
use Rattle.efi_images.specs.Check.{Check, check}
use Rattle.efi_images.specs.declared.loaded.Loaded.{Loaded}
use Rattle.efi_images.specs.declared.relocation_fault.RelocationFault.TheVariants as relocation
use Rattle.efi_images.specs.declared.fault.ImageFault.TheVariants as fault

-- firmware looks at directory 5 if there are five, which are directories 0 to 4
abbrev pub has_relocations : List ℕ → Bool
has_relocations file = nat_le 5 (directory_count file) && not (directory_size file 5 == 0)

-- ---- the relocations of a block, of two bytes each

-- the address that one changes, a number of four bytes: that of its block, and the low twelve bits
abbrev pub target_address : List ℕ → Loaded → ℕ → ℕ → ℕ
target_address file l address offset = (address + loaded_u16 file l offset % 4096) % 4294967296

-- its type, the four bits above
abbrev pub relocation_type : List ℕ → Loaded → ℕ → ℕ
relocation_type file l offset = loaded_u16 file l offset / 4096

-- the types that firmware knows: none, the high or the low half, four bytes, eight bytes
abbrev pub is_known_type : ℕ → Bool
is_known_type kind = kind == 0 || (kind == 1 || (kind == 2 || (kind == 3 || kind == 10)))

abbrev pub entry_checks : List ℕ → Loaded → ℕ → ℕ → List Check
entry_checks file l address offset =
    check (nat_lt (target_address file l address offset) (image_size file))
    (fault.Relocations (relocation.BeyondImage (file_offset l offset) (target_address file l address offset) (image_size file)))
    ∷ check (is_known_type (relocation_type file l offset))
    (fault.Relocations (relocation.UnknownType (file_offset l offset) (relocation_type file l offset)))
    ∷ []

-- those of so many, the first at this offset
abbrev pub entries_checks : List ℕ → Loaded → ℕ → ℕ → ℕ → List Check
entries_checks file l address offset zero = []
entries_checks file l address offset (suc count) =
    entry_checks file l address offset ++ entries_checks file l address (offset + 2) count

-- ---- blocks

abbrev pub block_address : List ℕ → Loaded → ℕ → ℕ
block_address file l offset = loaded_u32 file l offset

-- how many bytes a block has, with the eight of its header
abbrev pub block_size : List ℕ → Loaded → ℕ → ℕ
block_size file l offset = loaded_u32 file l (offset + 4)

-- where the block's last relocation ends, of which a block of an odd size has the half
abbrev pub block_end : List ℕ → Loaded → ℕ → ℕ
block_end file l offset = offset + ((block_size file l offset + 1) / 2) * 2

-- How many relocations are looked at: those in bytes of the file. What follows are zeros, which are relocations of the
-- type 0 of the block's first address, and leave all as it is.
abbrev pub entry_count : List ℕ → Loaded → ℕ → ℕ
entry_count file l offset = (min (offset + block_size file l offset) l.filled - (offset + 8) + 1) / 2

-- the block at this offset of relocations of so many bytes
abbrev pub block_at_checks : List ℕ → Loaded → ℕ → ℕ → List Check
block_at_checks file l size offset =
    check (nat_le (offset + 8) l.size) (fault.Relocations (relocation.BlockNotLoaded (file_offset l offset)))
    ∷ check (not (block_size file l offset == 0) && nat_le (block_size file l offset) (size - offset))
    (fault.Relocations (relocation.BlockSize (file_offset l offset) (block_size file l offset) (size - offset)))
    ∷ check (nat_lt (block_address file l offset) (image_size file))
    (fault.Relocations (relocation.BlockAddress (file_offset l offset) (block_address file l offset) (image_size file)))
    ∷ check (nat_le (block_end file l offset) l.size) (fault.Relocations (relocation.BlockNotLoaded (file_offset l offset)))
    ∷ entries_checks file l (block_address file l offset) (offset + 8) (entry_count file l offset)

-- Those from this offset on, of which there are no more than so many. The last byte alone is no block.
abbrev pub blocks_checks : List ℕ → Loaded → ℕ → ℕ → ℕ → List Check
blocks_checks file l size offset zero = []
blocks_checks file l size offset (suc count) =
    if nat_lt (offset + 1) size
    then block_at_checks file l size offset ++ blocks_checks file l size (offset + block_size file l offset) count
    else []

-- all of them, each of a byte at least: the first header is known, if there is more than a last byte
abbrev pub all_blocks_checks : List ℕ → Loaded → ℕ → List Check
all_blocks_checks file l size =
    check (nat_le 8 l.size || nat_lt size 2) (fault.Relocations (relocation.BlockNotLoaded (directory_place file 5)))
    ∷ blocks_checks file l size 0 size

unfoldable pub block_checks : List ℕ → List Check
block_checks file =
    if has_relocations file
    then all_blocks_checks file (loaded_at file (directory_start file 5)) (directory_size file 5)
    else []
