-- What is known of an image in memory, section after section.
use Rattle.std.proofs.Common.{◌≡◌, ℕ, ◌+◌, ◌<◌, List, sym, ◌∙◌, ap}
use Rattle.efi_images.specs.Headers.{section_count}
use Rattle.efi_images.specs.Loaded.{loaded_at, loaded_headers, written_over, written_by}
use Rattle.efi_images.specs.declared.section.Section.{Section}
use Rattle.efi_images.specs.declared.loaded.Loaded.{Loaded}
use Rattle.efi_images.proofs.Rows.{section_of, from, from_first, from_this, from_end}

pub written_first : (file : List ℕ) (address : ℕ) (l : Loaded) → l ≡ loaded_headers file address
    → loaded_at file address ≡ written_by (from file 0) address l
unfolding loaded_at
written_first file address l e =
    ap (λ all. written_by all address (loaded_headers file address)) (from_first file)
    ∙ ap (λ first. written_by (from file 0) address first) (sym e)

pub written_step : (file : List ℕ) (index address : ℕ) (s : Section) (l m : Loaded) → s ≡ section_of file index
    → index < section_count file → m ≡ written_over s address l
    → written_by (from file index) address l ≡ written_by (from file (index + 1)) address m
written_step file index address s l m e below is =
    ap (λ all. written_by all address l) (from_this file index s e below)
    ∙ ap (λ next. written_by (from file (index + 1)) address next) (sym is)

pub written_end : (file : List ℕ) (index address : ℕ) (l : Loaded) → index ≡ section_count file → written_by (from file index) address l ≡ l
written_end file index address l e = ap (λ all. written_by all address l) (from_end file index e)
