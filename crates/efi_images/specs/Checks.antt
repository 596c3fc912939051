-- What firmware wants of an image, in the order in which it looks: the boot manager, then the loader, then the start.
use Rattle.std.specs.Prelude.{ℕ, ◌+◌, ◌*◌, ◌/◌, ◌%◌, ◌==◌, ◌||◌, ◌&&◌, Bool, not, nat_le, nat_lt, List, [], ◌∷◌, ◌++◌, length, min, max, if◌then◌else◌}
use Rattle.std.specs.List.{flat_map}
use Rattle.efi_images.specs.Bytes.{u16_at, u32_at}
use Rattle.efi_images.specs.Headers.{pe_place, machine, section_count, optional_size, is_stripped, magic, entry_point, base_offset, image_base, alignment, image_size, headers_size, subsystem, fixed_size, count_place, directory_count, directory_place, directory_start, directory_size, table_place, table_end}
use Rattle.efi_images.specs.Sections.{sections, copied_size, written_size}
use Rattle.efi_images.specs.CodeView.{code_view_checks}
use Rattle.efi_images.specs.Resources.{resource_checks}
use Rattle.efi_images.specs.Relocations.{has_relocations, block_checks}
use Rattle.efi_images.specs.Debug.{debug_checks}
use Rattle.efi_images.specs.Check.{Check, check}
use Rattle.efi_images.specs.declared.section.Section.{Section}
use Rattle.efi_images.specs.declared.fault.ImageFault.TheVariants as fault

-- ---- the boot manager

-- What is asked of a file before its sections are read is told by its length and by its first bytes. The checks that need
-- the length are given it, so the file may have more bytes than those that are there.
unfoldable pub signature_checks : ℕ → List ℕ → List Check
signature_checks len file =
    check (not (len == 0)) fault.Empty
    ∷ check (nat_le 64 len) (fault.ShortDosHeader len)
    ∷ check (u16_at file 0 == 0x5A4D) (fault.DosSignature (u16_at file 0))
    ∷ check (nat_le (pe_place file + 264) len) (fault.PePlace (pe_place file) len)
    ∷ check (u32_at file (pe_place file) == 0x4550) (fault.PeSignature (pe_place file) (u32_at file (pe_place file)))
    ∷ []

unfoldable pub kind_checks : List ℕ → List Check
kind_checks file =
    check (magic file == 0x10B || magic file == 0x20B) (fault.Magic (pe_place file + 24) (magic file))
    ∷ check (subsystem file == 10) (fault.Subsystem (pe_place file + 92) (subsystem file))
    ∷ []

-- ---- the loader: the headers

-- what SizeOfOptionalHeader has to be
abbrev pub wanted_optional_size : List ℕ → ℕ
wanted_optional_size file = fixed_size file + 8 * directory_count file

-- what SizeOfImage has to be at least: there is room for one header more than there are sections
abbrev pub wanted_image_size : List ℕ → ℕ
wanted_image_size file = table_end file + 40

-- what SizeOfHeaders has to be at least: there is room for the table, and for a byte if it is empty
abbrev pub wanted_headers_size : List ℕ → ℕ
wanted_headers_size file = table_place file + max (40 * section_count file) 1

-- the machines that firmware knows: x86-64, IA32, EFI byte code and ARM64
abbrev pub is_known : ℕ → Bool
is_known machine = machine == 0x8664 || (machine == 0x14C || (machine == 0xEBC || machine == 0xAA64))

-- so many bytes from this offset on are in a file of this length, and end before the last number of four bytes; or they are
-- none
abbrev pub is_in_file : ℕ → ℕ → ℕ → Bool
is_in_file start size len = size == 0 || nat_le (start + size) (min len 4294967295)

unfoldable pub directory_checks : List ℕ → List Check
directory_checks file =
    check (nat_le (directory_count file) 16) (fault.DirectoryCount (count_place file) (directory_count file))
    ∷ check (optional_size file == wanted_optional_size file)
    (fault.OptionalHeaderSize (pe_place file + 20) (optional_size file) (wanted_optional_size file))
    ∷ []

unfoldable pub size_checks : ℕ → List ℕ → List Check
size_checks len file =
    check (nat_le (wanted_image_size file) (image_size file))
    (fault.ImageSize (pe_place file + 80) (image_size file) (wanted_image_size file))
    ∷ check (nat_le (wanted_headers_size file) (headers_size file))
    (fault.HeadersSize (pe_place file + 84) (headers_size file) (wanted_headers_size file))
    ∷ check (nat_lt (headers_size file) (image_size file))
    (fault.HeadersBeyondImage (pe_place file + 84) (headers_size file) (image_size file))
    ∷ check (nat_le (headers_size file) len) (fault.HeadersBeyondFile (pe_place file + 84) (headers_size file) len)
    ∷ []

-- there is no certificate table, or it is in the file
abbrev pub has_certificates : ℕ → List ℕ → Bool
has_certificates len file = nat_le (directory_count file) 4 || is_in_file (directory_start file 4) (directory_size file 4) len

unfoldable pub table_checks : ℕ → List ℕ → List Check
table_checks len file =
    check (has_certificates len file)
    (fault.CertificatesBeyondFile (directory_place file 4) (directory_start file 4) (directory_size file 4) len)
    ∷ check (is_known (machine file)) (fault.Machine (pe_place file + 4) (machine file))
    ∷ []

-- ---- the loader: where sections are in the file

abbrev pub section_checks : ℕ → List ℕ → Section → List Check
section_checks len file s =
    check (s.raw_size == 0 || (nat_le (headers_size file) s.virtual_address && nat_le (headers_size file) s.raw_place))
    (fault.SectionInHeaders s (headers_size file))
    ∷ check (is_in_file s.raw_place s.raw_size len) (fault.SectionBeyondFile s len)
    ∷ []

-- ---- the loader: memory

-- so many bytes in whole pages
abbrev pub in_pages : ℕ → ℕ
in_pages size = ((size + 4095) / 4096) * 4096

-- how much memory is taken for the image: with an alignment above a page, by that much more
unfoldable pub memory_size : List ℕ → ℕ
memory_size file = in_pages (image_size file + (if nat_lt 4096 (alignment file) then alignment file else 0))

-- the most memory that is taken for granted
abbrev pub memory_max : ℕ
memory_max = 536870912

unfoldable pub memory_checks : List ℕ → List Check
memory_checks file =
    check (not (machine file == 0xAA64)) (fault.Arm64 (pe_place file + 4))
    ∷ check (nat_le (memory_size file) memory_max) (fault.Memory (pe_place file + 80) (memory_size file))
    ∷ check (not (is_stripped file) || nat_le 4096 (image_base file)) (fault.FixedBase (pe_place file + base_offset file) (image_base file))
    ∷ check (not (is_stripped file)) (fault.RelocationsStripped (pe_place file + 22))
    ∷ check (not (alignment file == 0)) (fault.SectionAlignment (pe_place file + 56))
    ∷ []

-- ---- the loader: where sections are in memory

-- the last address of a section, a number of four bytes
abbrev pub last_address : Section → ℕ
last_address s = (s.virtual_address + s.virtual_size + 4294967295) % 4294967296

abbrev pub loading_checks : List ℕ → Section → List Check
loading_checks file s =
    check (copied_size s == 0 || (nat_lt s.virtual_address (image_size file) && nat_lt (last_address s) (image_size file)))
    (fault.SectionBeyondImage s (image_size file))
    ∷ check (written_size s == 0 || nat_le (s.virtual_address + written_size s) (memory_size file))
    (fault.SectionBeyondMemory s (memory_size file))
    ∷ check (nat_le s.virtual_size (copied_size s) || nat_le (table_end file) s.virtual_address)
    (fault.SectionOverTable s (table_end file))
    ∷ []

-- ---- the loader: relocations

unfoldable pub relocation_checks : List ℕ → List Check
relocation_checks file =
    check (nat_lt (directory_count file) 5 || nat_le (directory_place file 6) (headers_size file))
    (fault.RelocationsNotLoaded (directory_place file 5))
    ∷ check (not (has_relocations file) || nat_lt (directory_start file 5 + directory_size file 5) 4294967296)
    (fault.RelocationsOverflow (directory_place file 5) (directory_start file 5) (directory_size file 5))
    ∷ check (not (has_relocations file) || nat_le (directory_start file 5 + directory_size file 5) (image_size file))
    (fault.RelocationsBeyondImage (directory_place file 5) (directory_start file 5) (directory_size file 5) (image_size file))
    ∷ []

-- ---- the start

unfoldable pub start_checks : List ℕ → List Check
start_checks file =
    check (not (machine file == 0x14C)) (fault.Ia32 (pe_place file + 4))
    ∷ check (not (machine file == 0xEBC)) (fault.ByteCode (pe_place file + 4))
    ∷ check (nat_lt (entry_point file) (image_size file)) (fault.EntryPoint (pe_place file + 40) (entry_point file) (image_size file))
    ∷ []

-- ---- all of them

unfoldable pub boot_manager_checks : ℕ → List ℕ → List Check
boot_manager_checks len file = signature_checks len file ++ kind_checks file

-- what the loader asks of the headers and of where sections are in the file
unfoldable pub form_checks : ℕ → List ℕ → List Check
form_checks len file =
    directory_checks file
    ++ size_checks len file
    ++ table_checks len file
    ++ flat_map (section_checks len file) (sections file)

-- what the loader asks before it takes memory: where things are in the file
unfoldable pub file_checks : List ℕ → List Check
file_checks file = form_checks (length file) file ++ debug_checks file

-- what it asks then: where things are in memory
unfoldable pub loader_checks : List ℕ → List Check
loader_checks file =
    memory_checks file
    ++ flat_map (loading_checks file) (sections file)
    ++ code_view_checks file
    ++ resource_checks file
    ++ relocation_checks file
    ++ block_checks file

unfoldable pub image_checks : List ℕ → List Check
image_checks file = boot_manager_checks (length file) file ++ file_checks file ++ loader_checks file ++ start_checks file
