-- An image in memory, as the loader copies it: its headers, and over them section after section, each with zeros after
-- those of its bytes that are copied. What was in memory before stays where neither is.
use Rattle.std.specs.Prelude.{ℕ, ◌+◌, ◌-◌, ◌&&◌, Bool, nat_le, nat_lt, List, [], ◌∷◌, min, Option, Some, None, slice_get, if◌then◌else◌}
use Rattle.std.specs.Int.{w16, w32, from_le_bytes}
use Rattle.efi_images.specs.Headers.{headers_size}
use Rattle.efi_images.specs.Sections.{sections, copied_size, written_size}
use Rattle.efi_images.specs.declared.section.Section.{Section}
use Rattle.efi_images.specs.declared.loaded.Loaded.{Loaded}

-- ---- what is known of the memory from an address on, up to where it is another part's

-- something is written for the section at this address
abbrev pub is_written : Section → ℕ → Bool
is_written s address = nat_le s.virtual_address address && nat_lt address (s.virtual_address + written_size s)

-- something is written for it, and all of that is after this address
abbrev pub is_after : Section → ℕ → Bool
is_after s address = nat_lt address s.virtual_address && nat_lt 0 (written_size s)

-- that of the headers
abbrev pub loaded_headers : List ℕ → ℕ → Loaded
loaded_headers file address = record {
  place = address;
  filled = headers_size file - address;
  size = headers_size file - address;
}

-- that of a section that is written at the address
abbrev pub loaded_section : Section → ℕ → Loaded
loaded_section s address = record {
  place = s.raw_place + (address - s.virtual_address);
  filled = copied_size s - (address - s.virtual_address);
  size = written_size s - (address - s.virtual_address);
}

-- that of a part that ends where the section begins
abbrev pub cut_at : Section → ℕ → Loaded → Loaded
cut_at s address l = record { place = l.place; filled = l.filled; size = min l.size (s.virtual_address - address) }

-- what it is once the section is written too
abbrev pub written_over : Section → ℕ → Loaded → Loaded
written_over s address l =
    if is_written s address then loaded_section s address
    else (if is_after s address then cut_at s address l else l)

abbrev pub written_by : List Section → ℕ → Loaded → Loaded
written_by [] address l = l
written_by (s ∷ others) address l = written_by others address (written_over s address l)

-- what is known in the end
unfoldable pub loaded_at : List ℕ → ℕ → Loaded
loaded_at file address = written_by (sections file) address (loaded_headers file address)

-- ---- its bytes, by how far they are after its first

abbrev pub or_zero : Option ℕ → ℕ
or_zero (Some byte) = byte
or_zero None = 0

-- one of the file, or a zero after those
unfoldable pub loaded_byte : List ℕ → Loaded → ℕ → ℕ
loaded_byte file l offset = if nat_lt offset l.filled then or_zero (slice_get file (l.place + offset)) else 0

unfoldable pub loaded_u16 : List ℕ → Loaded → ℕ → ℕ
loaded_u16 file l offset = from_le_bytes w16 (loaded_byte file l offset ∷ loaded_byte file l (offset + 1) ∷ [])

unfoldable pub loaded_u32 : List ℕ → Loaded → ℕ → ℕ
loaded_u32 file l offset =
    from_le_bytes w32
    (loaded_byte file l offset
    ∷ loaded_byte file l (offset + 1)
    ∷ loaded_byte file l (offset + 2)
    ∷ loaded_byte file l (offset + 3)
    ∷ [])

-- where one of them is in the file, or where those of the file end
abbrev pub file_offset : Loaded → ℕ → ℕ
file_offset l offset = l.place + min offset l.filled
