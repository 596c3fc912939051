-- The sections of a table, one after the other.
use Rattle.std.proofs.Common.{◌≡◌, refl, ℕ, suc, ◌+◌, ◌-◌, ◌*◌, ◌<◌, List, [], ◌∷◌, ◌++◌, Option, Some, None, sym, ◌∙◌, ap, arith}
use Rattle.std.proofs.lemmas.List.{append_assoc}
use Rattle.std.specs.Option.{option_or}
use Rattle.std.specs.List.{flat_map}
use Rattle.efi_images.specs.Headers.{table_place, section_count}
use Rattle.efi_images.specs.Sections.{section_at, sections_from, sections}
use Rattle.efi_images.specs.Check.{Check, first_fault}
use Rattle.efi_images.specs.declared.section.Section.{Section}
use Rattle.efi_images.specs.declared.fault.ImageFault.{ImageFault}
use Rattle.efi_images.proofs.Firsts.{first_fault_append}

-- the section of this index
abbrev pub section_of : List ℕ → ℕ → Section
section_of file index = section_at file (table_place file + 40 * index)

-- the sections from this index on
abbrev pub from : List ℕ → ℕ → List Section
from file index = sections_from file (table_place file + 40 * index) (section_count file - index)

pub from_first : (file : List ℕ) → sections file ≡ from file 0
unfolding sections
from_first file =
    let e : table_place file + 40 * 0 ≡ table_place file = omega arith in
    let n : section_count file - 0 ≡ section_count file = omega arith in
    rw e (rw n refl)

pub from_step : (file : List ℕ) (index : ℕ) → index < section_count file → from file index ≡ section_of file index ∷ from file (index + 1)
from_step file index below =
    let n : section_count file - index ≡ suc (section_count file - (index + 1)) = omega arith in
    let p : table_place file + 40 * (index + 1) ≡ (table_place file + 40 * index) + 40 = omega arith in
    rw n (rw p refl)

-- the same, where the section has another name
pub from_this : (file : List ℕ) (index : ℕ) (s : Section) → s ≡ section_of file index → index < section_count file → from file index ≡ s ∷ from file (index + 1)
from_this file index s e below = from_step file index below ∙ ap (λ first. first ∷ from file (index + 1)) (sym e)

pub from_end : (file : List ℕ) (index : ℕ) → index ≡ section_count file → from file index ≡ []
from_end file index e =
    let n : section_count file - index ≡ 0 = omega arith in
    rw n refl

-- the section of this index comes after those before it
pub rows_more : (file : List ℕ) (index : ℕ) (s : Section) (before : List Section) → s ≡ section_of file index → index < section_count file
    → before ++ from file index ≡ sections file → (before ++ (s ∷ [])) ++ from file (index + 1) ≡ sections file
rows_more file index s before e below all =
    append_assoc before (s ∷ []) (from file (index + 1)) ∙ ap (λ others. before ++ others) (sym (from_this file index s e below)) ∙ all

-- ---- their checks

-- what is told of the sections from this index on
abbrev pub told_from : (Section → List Check) → List ℕ → ℕ → Option ImageFault
told_from checks file index = first_fault (flat_map checks (from file index))

pub told_first : (checks : Section → List Check) (file : List ℕ) → first_fault (flat_map checks (sections file)) ≡ told_from checks file 0
told_first checks file = ap (λ all. first_fault (flat_map checks all)) (from_first file)

pub told_step : (checks : Section → List Check) (file : List ℕ) (index : ℕ) → index < section_count file
    → told_from checks file index ≡ option_or (first_fault (checks (section_of file index))) (told_from checks file (index + 1))
told_step checks file index below =
    ap (λ all. first_fault (flat_map checks all)) (from_step file index below)
    ∙ first_fault_append (checks (section_of file index)) (flat_map checks (from file (index + 1)))

pub told_end : (checks : Section → List Check) (file : List ℕ) (index : ℕ) → index ≡ section_count file → told_from checks file index ≡ None
told_end checks file index e = ap (λ all. first_fault (flat_map checks all)) (from_end file index e)

-- the section of this index has no fault, so the first is after it
pub goes_on : (checks : Section → List Check) (file : List ℕ) (index : ℕ) (told : Option ImageFault) → index < section_count file
    → told ≡ told_from checks file index → None ≡ first_fault (checks (section_of file index)) → told ≡ told_from checks file (index + 1)
goes_on checks file index told below is none =
    is ∙ told_step checks file index below ∙ ap (λ first. option_or first (told_from checks file (index + 1))) (sym none)

-- the section of this index has the first fault
pub stops : (checks : Section → List Check) (file : List ℕ) (index : ℕ) (told : Option ImageFault) (fault : ImageFault) → index < section_count file
    → told ≡ told_from checks file index → Some fault ≡ first_fault (checks (section_of file index)) → Some fault ≡ told
stops checks file index told fault below is some =
    sym (is ∙ told_step checks file index below ∙ ap (λ first. option_or first (told_from checks file (index + 1))) (sym some))
