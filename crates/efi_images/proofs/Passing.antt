-- What is so of an image of which no check tells a fault.
use Rattle.std.proofs.Common.{◌≡◌, refl, ℕ, ◌+◌, ◌<◌, ◌≤◌, true, List, [], ◌∷◌, ◌++◌, length, Option, Some, None, ◌==◌, ◌||◌, nat_le, sym, ◌∙◌, arith}
use Rattle.std.specs.Option.{option_or}
use Rattle.std.specs.List.{AllByRecursion, flat_map}
use Rattle.efi_images.specs.Headers.{HasHeaders, pe_place, machine, table_end, headers_size, image_size, entry_point, directory_count, directory_start, directory_size}
use Rattle.efi_images.specs.Sections.{sections, written_size}
use Rattle.efi_images.specs.Check.{Check, first_fault}
use Rattle.efi_images.specs.Debug.{debug_checks}
use Rattle.efi_images.specs.CodeView.{code_view_checks}
use Rattle.efi_images.specs.Resources.{resource_checks}
use Rattle.efi_images.specs.Relocations.{block_checks}
use Rattle.efi_images.specs.Checks.{memory_size, signature_checks, kind_checks, directory_checks, size_checks, table_checks, section_checks, memory_checks, loading_checks, relocation_checks, start_checks, boot_manager_checks, form_checks, file_checks, loader_checks, image_checks}
use Rattle.efi_images.specs.InPlace.{IsInFile, IsInMemory, IsInPlace}
use Rattle.efi_images.specs.declared.section.Section.{Section}
use Rattle.efi_images.specs.declared.fault.ImageFault.{ImageFault}
use Rattle.efi_images.proofs.Told.{all_hold}
use Rattle.efi_images.proofs.Firsts.{first_fault_append}

or_none : (front back : Option ImageFault) → option_or front back ≡ None → (front ≡ None) × (back ≡ None)
or_none None back e = (refl, e)
or_none (Some f) back e = grind arith

-- no check of two lists tells a fault, so none of either does
pub parts : (front back : List Check) → first_fault (front ++ back) ≡ None → (first_fault front ≡ None) × (first_fault back ≡ None)
parts front back e = or_none _ _ (sym (first_fault_append front back) ∙ e)

each : (checks : Section → List Check) (P : Section → Type 0) → ((s : Section) → first_fault (checks s) ≡ None → P s)
    → (all : List Section) → first_fault (flat_map checks all) ≡ None → AllByRecursion P all
each checks P gives [] e = tt
each checks P gives (s ∷ all) e = let p = parts (checks s) (flat_map checks all) e in (gives s p.0, each checks P gives all p.1)

within_of : (written end most : ℕ) → (written == 0 || nat_le end most) ≡ true → 0 < written → end ≤ most
within_of written end most e some = grind arith

pub in_file : (file : List ℕ) (s : Section) → first_fault (section_checks (length file) file s) ≡ None → IsInFile file s
in_file file s e = record { after = λ some. grind arith; within = λ some. grind arith }

pub in_memory : (file : List ℕ) (s : Section) → first_fault (loading_checks file s) ≡ None → IsInMemory file s
in_memory file s e =
    let held = all_hold (loading_checks file s) e in
    record { within = λ some. within_of (written_size s) (s.virtual_address + written_size s) (memory_size file) held.1.0 some }

-- ---- what single lists of checks give

pub headers_fit : (len : ℕ) (file : List ℕ) → first_fault (signature_checks len file) ≡ None
    → (64 ≤ len) × (pe_place file + 264 ≤ len)
unfolding signature_checks
headers_fit len file e = (grind arith, grind arith)

has_headers : (file : List ℕ) → first_fault (signature_checks (length file) file) ≡ None → HasHeaders file
has_headers file e = let p = headers_fit (length file) file e in record { least = p.0; whole = p.1 }

pub sizes : (len : ℕ) (file : List ℕ) → first_fault (size_checks len file) ≡ None
    → (table_end file ≤ headers_size file) × (headers_size file ≤ len) × (headers_size file < image_size file)
unfolding size_checks
sizes len file e = (grind arith, grind arith, grind arith)

pub certificates : (file : List ℕ) → first_fault (table_checks (length file) file) ≡ None
    → 4 < directory_count file → 0 < directory_size file 4 → directory_start file 4 + directory_size file 4 ≤ length file
unfolding table_checks
certificates file e more some = grind arith

pub relocations : (file : List ℕ) → first_fault (relocation_checks file) ≡ None
    → 4 < directory_count file → 0 < directory_size file 5 → directory_start file 5 + directory_size file 5 ≤ image_size file
unfolding relocation_checks
relocations file e more some = grind arith

pub entry : (file : List ℕ) → first_fault (start_checks file) ≡ None → entry_point file < image_size file
unfolding start_checks
entry file e = grind arith

pub x86_64 : (file : List ℕ) → first_fault (table_checks (length file) file) ≡ None → first_fault (memory_checks file) ≡ None
    → first_fault (start_checks file) ≡ None → machine file ≡ 0x8664
unfolding table_checks memory_checks start_checks
x86_64 file t m s = grind arith

-- ---- all of them

-- no check of a part of all tells a fault
record Passes (file : List ℕ) : Type 0 where
  signatures : first_fault (signature_checks (length file) file) ≡ None
  size : first_fault (size_checks (length file) file) ≡ None
  table : first_fault (table_checks (length file) file) ≡ None
  rows : first_fault (flat_map (section_checks (length file) file) (sections file)) ≡ None
  memory : first_fault (memory_checks file) ≡ None
  loading : first_fault (flat_map (loading_checks file) (sections file)) ≡ None
  moved : first_fault (relocation_checks file) ≡ None
  start : first_fault (start_checks file) ≡ None

passes : (file : List ℕ) → first_fault (image_checks file) ≡ None → Passes file
unfolding boot_manager_checks form_checks file_checks loader_checks image_checks
passes file none =
    let in_file = flat_map (section_checks (length file) file) (sections file) in
    let in_memory = flat_map (loading_checks file) (sections file) in
    let last = parts (boot_manager_checks (length file) file ++ file_checks file ++ loader_checks file) (start_checks file) none in
    let loader = parts (boot_manager_checks (length file) file ++ file_checks file) (loader_checks file) last.0 in
    let form = parts (boot_manager_checks (length file) file) (file_checks file) loader.0 in
    let boot = parts (signature_checks (length file) file) (kind_checks file) form.0 in
    let debug = parts (form_checks (length file) file) (debug_checks file) form.1 in
    let rows = parts (directory_checks file ++ size_checks (length file) file ++ table_checks (length file) file) in_file debug.0 in
    let table = parts (directory_checks file ++ size_checks (length file) file) (table_checks (length file) file) rows.0 in
    let size = parts (directory_checks file) (size_checks (length file) file) table.0 in
    let blocks =
    parts (memory_checks file ++ in_memory ++ code_view_checks file ++ resource_checks file ++ relocation_checks file)
    (block_checks file) loader.1 in
    let moved =
    parts (memory_checks file ++ in_memory ++ code_view_checks file ++ resource_checks file) (relocation_checks file) blocks.0 in
    let resources = parts (memory_checks file ++ in_memory ++ code_view_checks file) (resource_checks file) moved.0 in
    let code_view = parts (memory_checks file ++ in_memory) (code_view_checks file) resources.0 in
    let loading = parts (memory_checks file) in_memory code_view.0 in
    record {
      signatures = boot.0;
      size = size.1;
      table = table.1;
      rows = rows.1;
      memory = loading.0;
      loading = loading.1;
      moved = moved.1;
      start = last.1;
    }

pub image_in_place : (file : List ℕ) → first_fault (image_checks file) ≡ None → IsInPlace file
image_in_place file none =
    let p = passes file none in
    let size = sizes (length file) file p.size in
    record {
      headers = has_headers file p.signatures;
      x86_64 = x86_64 file p.table p.memory p.start;
      table = size.0;
      headers_in_file = size.1;
      headers_in_image = size.2;
      certificates = certificates file p.table;
      sections_in_file = each (section_checks (length file) file) (IsInFile file) (in_file file) (sections file) p.rows;
      sections_in_memory = each (loading_checks file) (IsInMemory file) (in_memory file) (sections file) p.loading;
      relocations = relocations file p.moved;
      entry = entry file p.start;
    }
