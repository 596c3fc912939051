-- The header fields that firmware reads (PE/COFF, 3.1 to 3.4). Those of the file header and of the optional header are
-- told by how many bytes they are after the first of the PE signature.
use Rattle.std.specs.Prelude.{ℕ, ◌+◌, ◌*◌, ◌≤◌, ◌==◌, Bool, not, bit_and, List, length, if◌then◌else◌}
use Rattle.efi_images.specs.Bytes.{u16_at, u32_at, u64_at}

-- e_lfanew: where the PE signature begins
abbrev pub pe_place : List ℕ → ℕ
pe_place file = u32_at file 0x3C

-- the file has bytes for each field below but those of sections
pub record HasHeaders (file : List ℕ) : Type 0 where
  pub least : 64 ≤ length file
  pub whole : pe_place file + 264 ≤ length file

-- ---- the file header

abbrev pub machine : List ℕ → ℕ
machine file = u16_at file (pe_place file + 4)

-- NumberOfSections
abbrev pub section_count : List ℕ → ℕ
section_count file = u16_at file (pe_place file + 6)

-- SizeOfOptionalHeader
abbrev pub optional_size : List ℕ → ℕ
optional_size file = u16_at file (pe_place file + 20)

-- Characteristics say that the relocations are stripped
abbrev pub is_stripped : List ℕ → Bool
is_stripped file = not (bit_and (u16_at file (pe_place file + 22)) 1 == 0)

-- ---- the optional header

abbrev pub magic : List ℕ → ℕ
magic file = u16_at file (pe_place file + 24)

-- it is that of PE32+
abbrev pub is_plus : List ℕ → Bool
is_plus file = magic file == 0x20B

-- AddressOfEntryPoint
abbrev pub entry_point : List ℕ → ℕ
entry_point file = u32_at file (pe_place file + 40)

-- how far ImageBase is after the PE signature
abbrev pub base_offset : List ℕ → ℕ
base_offset file = if is_plus file then 48 else 52

-- ImageBase
abbrev pub image_base : List ℕ → ℕ
image_base file = if is_plus file then u64_at file (pe_place file + 48) else u32_at file (pe_place file + 52)

-- SectionAlignment
abbrev pub alignment : List ℕ → ℕ
alignment file = u32_at file (pe_place file + 56)

-- SizeOfImage
abbrev pub image_size : List ℕ → ℕ
image_size file = u32_at file (pe_place file + 80)

-- SizeOfHeaders
abbrev pub headers_size : List ℕ → ℕ
headers_size file = u32_at file (pe_place file + 84)

abbrev pub subsystem : List ℕ → ℕ
subsystem file = u16_at file (pe_place file + 92)

-- ---- the data directories

-- how many bytes the optional header has before its directories
unfoldable pub fixed_size : List ℕ → ℕ
fixed_size file = if is_plus file then 112 else 96

-- where the directories begin
abbrev pub directories_place : List ℕ → ℕ
directories_place file = pe_place file + (24 + fixed_size file)

-- where NumberOfRvaAndSizes is, right before them
abbrev pub count_place : List ℕ → ℕ
count_place file = pe_place file + (20 + fixed_size file)

-- NumberOfRvaAndSizes
abbrev pub directory_count : List ℕ → ℕ
directory_count file = u32_at file (count_place file)

abbrev pub directory_place : List ℕ → ℕ → ℕ
directory_place file index = directories_place file + 8 * index

-- what a directory states of where its table begins: an address, but an offset in the file for the certificate table
abbrev pub directory_start : List ℕ → ℕ → ℕ
directory_start file index = u32_at file (directory_place file index)

abbrev pub directory_size : List ℕ → ℕ → ℕ
directory_size file index = u32_at file (directory_place file index + 4)

-- ---- the section table

-- where it begins: right after the optional header, as long as that states to be
abbrev pub table_place : List ℕ → ℕ
table_place file = pe_place file + (24 + optional_size file)

-- where it ends
abbrev pub table_end : List ℕ → ℕ
table_end file = table_place file + 40 * section_count file

-- ---- of a file, the first bytes

-- of a file of this length these first bytes hold what is in it of the headers
pub record HoldsHeaders (len : ℕ) (front : List ℕ) : Type 0 where
  pub least : 64 ≤ len → 64 ≤ length front
  pub whole : pe_place front + 264 ≤ len → pe_place front + 264 ≤ length front
  pub table : HasHeaders front → table_end front ≤ len → table_end front ≤ length front
