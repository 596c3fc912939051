-- Why an image has no digest.
use Rattle.std.proofs.Common.{◌≡◌, refl, ℕ, List, Option, Some, None, sym}
use Rattle.efi_images.specs.Check.{first_fault}
use Rattle.efi_images.specs.Checks.{boot_manager_checks, form_checks}
use Rattle.efi_images.specs.Digest.{front_fault, size_fault}
use Rattle.efi_images.specs.declared.fault.ImageFault.{ImageFault}
use Rattle.efi_images.specs.declared.digest_fault.DigestFault.{DigestFault}
use Rattle.efi_images.specs.declared.digest_fault.DigestFault.TheVariants as fault

pub by_boot_manager : (len : ℕ) (file : List ℕ) (f : ImageFault) → Some f ≡ first_fault (boot_manager_checks len file)
    → front_fault len file ≡ Some (fault.Image f)
unfolding front_fault
by_boot_manager len file f e = let g = sym e in rw g refl

pub by_form : (len : ℕ) (file : List ℕ) (f : ImageFault) → None ≡ first_fault (boot_manager_checks len file)
    → Some f ≡ first_fault (form_checks len file) → front_fault len file ≡ Some (fault.Image f)
unfolding front_fault
by_form len file f b e = let g = sym b in let h = sym e in rw g (rw h refl)

pub by_sizes : (len : ℕ) (file : List ℕ) (told : Option DigestFault) → None ≡ first_fault (boot_manager_checks len file)
    → None ≡ first_fault (form_checks len file) → told ≡ size_fault len file → front_fault len file ≡ told
unfolding front_fault
by_sizes len file told b f e = let g = sym b in let h = sym f in rw g (rw h (sym e))
