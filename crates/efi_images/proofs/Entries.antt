-- Where the debug directory is, and its entries one after the other.
use Rattle.std.proofs.Common.{◌≡◌, refl, ℕ, suc, ◌+◌, ◌-◌, ◌<◌, ◌≤◌, Bool, true, false, not, nat_le, List, ◌∷◌, [], length, Option, Some, None, if◌then◌else◌, sym, ◌∙◌, ap, arith}
use Rattle.efi_images.specs.Headers.{section_count}
use Rattle.efi_images.specs.Check.{check, first_fault}
use Rattle.efi_images.specs.Debug.{has_address, file_place, is_code_view, is_unmapped, debug_entry_checks, first_code_view}
use Rattle.efi_images.specs.declared.section.Section.{Section}
use Rattle.efi_images.specs.declared.fault.ImageFault.{ImageFault}
use Rattle.efi_images.specs.declared.fault.ImageFault.TheVariants as fault
use Rattle.efi_images.proofs.Rows.{section_of, from, from_this}

-- the section has the address
pub place_here : (file : List ℕ) (index address : ℕ) (s : Section) → s ≡ section_of file index → index < section_count file
    → has_address s address ≡ true → file_place (from file index) address ≡ (address - s.virtual_address) + s.raw_place
place_here file index address s e below has =
    ap (λ all. file_place all address) (from_this file index s e below)
    ∙ ap (λ b. if b then ((address - s.virtual_address) + s.raw_place) else file_place (from file (index + 1)) address) has

-- it hasn't, so the address is in one after it
pub place_after : (file : List ℕ) (index address : ℕ) (s : Section) → s ≡ section_of file index → index < section_count file
    → has_address s address ≡ false → file_place (from file index) address ≡ file_place (from file (index + 1)) address
place_after file index address s e below has =
    ap (λ all. file_place all address) (from_this file index s e below)
    ∙ ap (λ b. if b then ((address - s.virtual_address) + s.raw_place) else file_place (from file (index + 1)) address) has

-- ---- a check alone

pub not_held : (holds : Bool) (others : Option ImageFault) (f told : ImageFault) → Some told ≡ (if holds then None else Some f)
    → Some told ≡ (if holds then others else Some f)
not_held true others f told e = grind arith
not_held false others f told e = e

pub held : (holds : Bool) (others : Option ImageFault) (f : ImageFault) → None ≡ (if holds then None else Some f)
    → (if holds then others else Some f) ≡ others
held true others f e = refl
held false others f e = grind arith

-- ---- entries

-- what is told of the entry at this offset, if it is in the file, and of so many after it
abbrev pub told_of_entry : List ℕ → ℕ → ℕ → Option ImageFault
told_of_entry file place more =
    first_fault (if is_code_view file place
    then check (not (is_unmapped file place)) (fault.UnmappedCodeView place) ∷ []
    else debug_entry_checks file (place + 28) more)

pub entries_step : (file : List ℕ) (place count counter : ℕ) → counter < count
    → first_fault (debug_entry_checks file place (count - counter))
    ≡ (if nat_le (place + 28) (length file) then told_of_entry file place (count - (counter + 1)) else Some (fault.DebugBeyondFile place (length file)))
entries_step file place count counter below =
    let e : count - counter ≡ suc (count - (counter + 1)) = omega arith in
    rw e refl

-- the entry at this offset is in the file
pub entry_held : (file : List ℕ) (place count counter : ℕ) (told : Option ImageFault) → counter < count
    → told ≡ first_fault (debug_entry_checks file place (count - counter))
    → None ≡ (if nat_le (place + 28) (length file) then None else Some (fault.DebugBeyondFile place (length file)))
    → told ≡ told_of_entry file place (count - (counter + 1))
entry_held file place count counter told below is none =
    is ∙ entries_step file place count counter below ∙ held _ _ _ none

pub entry_within : (file : List ℕ) (place : ℕ) (f : ImageFault) → None ≡ (if nat_le (place + 28) (length file) then None else Some f)
    → place + 28 ≤ length file
entry_within file place f none = grind arith

pub entry_cut : (file : List ℕ) (place count counter : ℕ) (told : Option ImageFault) (f : ImageFault) → counter < count
    → told ≡ first_fault (debug_entry_checks file place (count - counter))
    → Some f ≡ (if nat_le (place + 28) (length file) then None else Some (fault.DebugBeyondFile place (length file)))
    → Some f ≡ told
entry_cut file place count counter told f below is some =
    not_held _ _ _ _ some ∙ sym (is ∙ entries_step file place count counter below)

pub entry_code_view : (file : List ℕ) (place more : ℕ) → is_code_view file place ≡ true
    → told_of_entry file place more ≡ (if not (is_unmapped file place) then None else Some (fault.UnmappedCodeView place))
entry_code_view file place more e = rw e refl

pub entry_other : (file : List ℕ) (place more : ℕ) → is_code_view file place ≡ false
    → told_of_entry file place more ≡ first_fault (debug_entry_checks file (place + 28) more)
entry_other file place more e = rw e refl

-- the entry at this offset is of other data, so the first of CodeView data is after it
pub code_view_after : (file : List ℕ) (place count counter : ℕ) → counter < count → is_code_view file place ≡ false
    → first_code_view file place (count - counter) ≡ first_code_view file (place + 28) (count - (counter + 1))
code_view_after file place count counter below other =
    let e : count - counter ≡ suc (count - (counter + 1)) = omega arith in
    rw e (rw other refl)
