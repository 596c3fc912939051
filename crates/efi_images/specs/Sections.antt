-- The section table (PE/COFF, 4).
use Rattle.std.specs.Prelude.{ℕ, zero, suc, ◌+◌, ◌≤◌, ◌==◌, ◌||◌, nat_lt, max, List, [], ◌∷◌, length, if◌then◌else◌}
use Rattle.efi_images.specs.Bytes.{u32_at}
use Rattle.efi_images.specs.Headers.{table_place, table_end, section_count}
use Rattle.efi_images.specs.declared.section.Section.{Section}

-- the section whose header is at this offset
unfoldable pub section_at : List ℕ → ℕ → Section
section_at file place = record {
  place = place;
  virtual_size = u32_at file (place + 8);
  virtual_address = u32_at file (place + 12);
  raw_size = u32_at file (place + 16);
  raw_place = u32_at file (place + 20);
}

-- those of so many headers, of which the first is at this offset
abbrev pub sections_from : List ℕ → ℕ → ℕ → List Section
sections_from file place zero = []
sections_from file place (suc count) = section_at file place ∷ sections_from file (place + 40) count

-- those of the table
unfoldable pub sections : List ℕ → List Section
sections file = sections_from file (table_place file) (section_count file)

-- the table ends in the file
pub record HasTable (file : List ℕ) : Type 0 where
  pub within : table_end file ≤ length file

-- ---- a section in memory

-- how many bytes of a section are copied: no more than it has in memory, but all of them if VirtualSize is 0
abbrev pub copied_size : Section → ℕ
copied_size s = if s.virtual_size == 0 || nat_lt s.raw_size s.virtual_size then s.raw_size else s.virtual_size

-- how many bytes of memory are written for a section: those that are copied, and zeros after them
abbrev pub written_size : Section → ℕ
written_size s = max (copied_size s) s.virtual_size
