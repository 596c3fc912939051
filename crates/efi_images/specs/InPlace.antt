-- What is so of an image of which no check tells a fault.
use Rattle.std.specs.Prelude.{◌≡◌, ℕ, ◌+◌, ◌<◌, ◌≤◌, List, length}
use Rattle.std.specs.List.{AllByRecursion}
use Rattle.efi_images.specs.Headers.{HasHeaders, machine, image_size, headers_size, entry_point, directory_count, directory_start, directory_size, table_end}
use Rattle.efi_images.specs.Sections.{sections, written_size}
use Rattle.efi_images.specs.Checks.{memory_size}
use Rattle.efi_images.specs.declared.section.Section.{Section}

-- the bytes that a section has in the file, if it has some, are there, and after the headers
pub record IsInFile (file : List ℕ) (s : Section) : Type 0 where
  pub after : 0 < s.raw_size → headers_size file ≤ s.raw_place
  pub within : 0 < s.raw_size → s.raw_place + s.raw_size ≤ length file

-- what is written for a section, if it is anything, is in the memory that is taken for the image
pub record IsInMemory (file : List ℕ) (s : Section) : Type 0 where
  pub within : 0 < written_size s → s.virtual_address + written_size s ≤ memory_size file

-- each thing that the headers tell of is where a loader may look for it
pub record IsInPlace (file : List ℕ) : Type 0 where
  pub headers : HasHeaders file
  pub x86_64 : machine file ≡ 0x8664
  pub table : table_end file ≤ headers_size file
  pub headers_in_file : headers_size file ≤ length file
  pub headers_in_image : headers_size file < image_size file
  pub certificates : 4 < directory_count file → 0 < directory_size file 4 → directory_start file 4 + directory_size file 4 ≤ length file
  pub sections_in_file : AllByRecursion (IsInFile file) (sections file)
  pub sections_in_memory : AllByRecursion (IsInMemory file) (sections file)
  pub relocations : 4 < directory_count file → 0 < directory_size file 5 → directory_start file 5 + directory_size file 5 ≤ image_size file
  pub entry : entry_point file < image_size file
