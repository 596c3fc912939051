-- What is known of the file that an entry leads to.
use Rattle.std.specs.Prelude.{ℕ, Bool, true, false, ◌&&◌, ◌==◌, List, codes, Option, Some, None, if◌then◌else◌}
use Rattle.std.specs.Option.{option_map}
use Rattle.std.specs.Cmp.Lexicographic.{pointwise}
use Rattle.efi_images.specs.declared.fault.ImageFault.{ImageFault}
use Rattle.efi_images.specs.declared.fault.ImageFault.TheVariants as fault
use Rattle.efi_images.specs.declared.fault.Stage.{Stage}
use Rattle.efi_images.specs.declared.fault.Stage.TheVariants.{BootManager}
use Rattle.efi_images.specs.declared.fault.Effect.{Effect}
use Rattle.efi_images.specs.declared.fault.Effect.TheVariants as effect
use Rattle.efi_images.specs.Words.{stage_of, effect_of}
use Rattle.efi_images.specs.declared.digest_fault.DigestFault.TheVariants as undigested
use Rattle.efi_images.specs.declared.answer.SecureBootAnswer.{SecureBootAnswer}
use Rattle.efi_images.specs.declared.answer.SecureBootAnswer.TheVariants as answer
use Rattle.efi_images.specs.declared.answer.Verdict.{Verdict}
use Rattle.efi_images.specs.declared.answer.Verdict.TheVariants as verdict
use Rattle.efi_images.specs.SecureBoot.{verdict_of}
use Rattle.entry_checks.specs.declared.image.Processor.{Processor}
use Rattle.entry_checks.specs.declared.image.Processor.TheVariants.{X8664, Other, Untold}
use Rattle.entry_checks.specs.declared.image.ImageState.{ImageState}
use Rattle.entry_checks.specs.declared.image.ImageState.TheVariants as image

-- the firmware's processor, if Linux tells for which one it is made itself, and how many bits the firmware's addresses have
abbrev pub told_processor : List ℕ → List ℕ → Processor
told_processor arch bits =
    if pointwise ◌==◌ arch (codes "x86_64\n") && pointwise ◌==◌ bits (codes "64\n") then X8664 else Other

abbrev pub processor_of : Option (List ℕ) → Option (List ℕ) → Processor
processor_of (Some arch) (Some bits) = told_processor arch bits
processor_of _ _ = Untold

-- the file is for another processor than x86-64
abbrev pub is_foreign : ImageFault → Bool
is_foreign (fault.Machine place found) = true
is_foreign (fault.Arm64 place) = true
is_foreign (fault.Ia32 place) = true
is_foreign _ = false

abbrev pub is_boot_manager : Stage → Bool
is_boot_manager BootManager = true
is_boot_manager _ = false

abbrev pub is_of_boot_manager : ImageFault → Bool
is_of_boot_manager found = is_boot_manager (stage_of found)

abbrev pub state_by_effect : Effect → ImageState
state_by_effect effect.Refused = image.Refused
state_by_effect effect.Unsafe = image.Unsafe
state_by_effect effect.Undecided = image.Undecided

abbrev pub state_on_x86_64 : ImageFault → ImageState
state_on_x86_64 found = if is_foreign found then image.Foreign else state_by_effect (effect_of found)

-- firmware may be of the file's processor: if that is another than x86-64, nothing is known of it
abbrev pub state_if_untold : Option ImageFault → ImageState
state_if_untold None = image.OfX8664
state_if_untold (Some found) = if is_foreign found then image.Unknown else state_by_effect (effect_of found)

-- a file without a fault is for x86-64, and what no boot manager takes for an application is one nowhere
abbrev pub state_on_others : Option ImageFault → ImageState
state_on_others None = image.Foreign
state_on_others (Some found) = if is_of_boot_manager found then image.Refused else image.Unknown

-- the first fault of a file, or none, for firmware of a processor
abbrev pub loader_state_of : Processor → Option ImageFault → Option ImageState
loader_state_of X8664 found = option_map state_on_x86_64 found
loader_state_of Untold found = Some (state_if_untold found)
loader_state_of Other found = Some (state_on_others found)

-- ---- Secure Boot

-- what Secure Boot itself says of a file: a file whose headers have a fault has no digest, and that fault says more, and whether
-- it is one for firmware of another processor
abbrev pub own_verdict_of : SecureBootAnswer → Verdict
own_verdict_of (answer.NoDigest (undigested.Image found)) = verdict.Allowed
own_verdict_of told = verdict_of told

-- the boot manager looks before Secure Boot is asked
abbrev pub is_found_before : Option ImageFault → Bool
is_found_before None = false
is_found_before (Some found) = is_of_boot_manager found

-- of a file that Secure Boot denies
abbrev pub denied_state : Processor → Option ImageFault → Option ImageState
denied_state processor found = if is_found_before found then loader_state_of processor found else Some image.Denied

-- of a file of which it isn't known whether Secure Boot allows it: what is known of it besides says more, but for what is no fault
abbrev pub unsettled_state : Option ImageState → ImageState
unsettled_state None = image.Unsettled
unsettled_state (Some image.OfX8664) = image.Unsettled
unsettled_state (Some known) = known

-- the first fault of a file, or none, for firmware of a processor, whose Secure Boot says this of the file, in firmware's order:
-- the boot manager looks first, then Secure Boot, and then the loader
abbrev pub image_state_of : Processor → Option ImageFault → Verdict → Option ImageState
image_state_of processor found verdict.Allowed = loader_state_of processor found
image_state_of processor found verdict.Denied = denied_state processor found
image_state_of processor found verdict.Undecided = Some (unsettled_state (loader_state_of processor found))
