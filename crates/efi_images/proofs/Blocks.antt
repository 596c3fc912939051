-- Blocks of relocations, and their relocations, one after the other.
use Rattle.std.proofs.Common.{◌≡◌, refl, ℕ, suc, ◌+◌, ◌-◌, ◌<◌, true, nat_lt, List, ◌++◌, Option, Some, None, ap, ◌∙◌, arith}
use Rattle.efi_images.specs.Relocations.{entry_checks, entries_checks, block_size, block_at_checks, blocks_checks}
use Rattle.efi_images.specs.Check.{first_fault}
use Rattle.efi_images.specs.declared.loaded.Loaded.{Loaded}
use Rattle.efi_images.specs.declared.fault.ImageFault.{ImageFault}
use Rattle.efi_images.proofs.Firsts.{passed, stopped}

entries_step : (file : List ℕ) (l : Loaded) (address offset count counter : ℕ) → counter < count
    → entries_checks file l address offset (count - counter)
    ≡ entry_checks file l address offset ++ entries_checks file l address (offset + 2) (count - (counter + 1))
entries_step file l address offset count counter below =
    let e : count - counter ≡ suc (count - (counter + 1)) = omega arith in
    rw e refl

-- the relocation at this offset has no fault, so the first is after it
pub entries_go_on : (file : List ℕ) (l : Loaded) (address offset count counter : ℕ) (told : Option ImageFault) → counter < count
    → told ≡ first_fault (entries_checks file l address offset (count - counter))
    → None ≡ first_fault (entry_checks file l address offset)
    → told ≡ first_fault (entries_checks file l address (offset + 2) (count - (counter + 1)))
entries_go_on file l address offset count counter told below is none =
    passed (entry_checks file l address offset) (entries_checks file l address (offset + 2) (count - (counter + 1))) told
    (is ∙ ap first_fault (entries_step file l address offset count counter below)) none

-- it has the first fault
pub entries_stop : (file : List ℕ) (l : Loaded) (address offset count counter : ℕ) (told : Option ImageFault) (f : ImageFault)
    → counter < count → told ≡ first_fault (entries_checks file l address offset (count - counter))
    → Some f ≡ first_fault (entry_checks file l address offset) → Some f ≡ told
entries_stop file l address offset count counter told f below is some =
    stopped (entry_checks file l address offset) (entries_checks file l address (offset + 2) (count - (counter + 1))) told f
    (is ∙ ap first_fault (entries_step file l address offset count counter below)) some

blocks_step : (file : List ℕ) (l : Loaded) (size offset counter : ℕ) → counter < size → offset + 1 < size
    → blocks_checks file l size offset (size - counter)
    ≡ block_at_checks file l size offset ++ blocks_checks file l size (offset + block_size file l offset) (size - (counter + 1))
blocks_step file l size offset counter below more =
    let e : size - counter ≡ suc (size - (counter + 1)) = omega arith in
    let b : nat_lt (offset + 1) size ≡ true = grind arith in
    rw e (rw b refl)

-- the block at this offset has no fault, so the first is after it
pub blocks_go_on : (file : List ℕ) (l : Loaded) (size offset counter next : ℕ) (told : Option ImageFault) → counter < size
    → offset + 1 < size → told ≡ first_fault (blocks_checks file l size offset (size - counter))
    → None ≡ first_fault (block_at_checks file l size offset) → offset + block_size file l offset ≡ next
    → told ≡ first_fault (blocks_checks file l size next (size - (counter + 1)))
blocks_go_on file l size offset counter next told below more is none at =
    passed (block_at_checks file l size offset) (blocks_checks file l size (offset + block_size file l offset) (size - (counter + 1)))
    told (is ∙ ap first_fault (blocks_step file l size offset counter below more)) none
    ∙ ap (λ place. first_fault (blocks_checks file l size place (size - (counter + 1)))) at

-- it has the first fault
pub blocks_stop : (file : List ℕ) (l : Loaded) (size offset counter : ℕ) (told : Option ImageFault) (f : ImageFault) → counter < size
    → offset + 1 < size → told ≡ first_fault (blocks_checks file l size offset (size - counter))
    → Some f ≡ first_fault (block_at_checks file l size offset) → Some f ≡ told
blocks_stop file l size offset counter told f below more is some =
    stopped (block_at_checks file l size offset) (blocks_checks file l size (offset + block_size file l offset) (size - (counter + 1)))
    told f (is ∙ ap first_fault (blocks_step file l size offset counter below more)) some
