-- How many bytes the sections of a table have.
use Rattle.std.proofs.Common.{◌≡◌, ℕ, ◌+◌, ◌<◌, List, ap, sym, ◌∙◌}
use Rattle.std.specs.List.{sum_by}
use Rattle.std.proofs.lemmas.List.Sums.{sum_by-cons}
use Rattle.efi_images.specs.Headers.{headers_size, section_count}
use Rattle.efi_images.specs.Digest.{total_size}
use Rattle.efi_images.specs.declared.section.Section.{Section}
use Rattle.efi_images.proofs.Rows.{section_of, from, from_first, from_this}

-- those from this index on
abbrev pub size_from : List ℕ → ℕ → ℕ
size_from file index = sum_by (λ (s : Section). s.raw_size) (from file index)

pub size_first : (file : List ℕ) → headers_size file + size_from file 0 ≡ total_size file
unfolding total_size
size_first file = ap (λ all. headers_size file + sum_by (λ (s : Section). s.raw_size) all) (sym (from_first file))

pub size_step : (file : List ℕ) (index : ℕ) (s : Section) → s ≡ section_of file index → index < section_count file
    → size_from file index ≡ s.raw_size + size_from file (index + 1)
size_step file index s e below =
    ap (λ all. sum_by (λ (t : Section). t.raw_size) all) (from_this file index s e below)
    ∙ sum_by-cons (λ (t : Section). t.raw_size) s (from file (index + 1))
