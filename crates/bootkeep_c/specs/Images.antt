-- What calls tell of an image and of signature lists.
use Rattle.std.specs.Prelude.{◌≡◌, ℕ, List, length, map, Some, None}
use Rattle.efi_images.specs.declared.fault.Stage.{Stage}
use Rattle.efi_images.specs.declared.fault.Stage.TheVariants as stage
use Rattle.efi_images.specs.declared.fault.Effect.{Effect}
use Rattle.efi_images.specs.declared.fault.Effect.TheVariants as effect
use Rattle.efi_images.specs.declared.digest_fault.DigestFault.{DigestFault}
use Rattle.efi_images.specs.declared.signatures.ListFault.{ListFault}
use Rattle.efi_images.specs.Digest.{digest_fault, IsDigest}
use Rattle.efi_images.specs.Signatures.{ListParts, HasLists, HasListFault}
use Rattle.bootkeep_c.specs.declared.lists.ListPlaces.{ListPlaces}
use Rattle.bootkeep_c.specs.declared.failure.Failure.{Failure}
use Rattle.bootkeep_c.specs.Refusals.{digest_failure, lists_failure}

-- ---- the numbers of the parts of firmware, and of what comes of a fault

abbrev pub stage_number : Stage → ℕ
stage_number stage.BootManager = 0
stage_number stage.Loader = 1
stage_number stage.Start = 2

abbrev pub effect_number : Effect → ℕ
effect_number effect.Refused = 0
effect_number effect.Unsafe = 1
effect_number effect.Undecided = 2

-- ---- digests

-- the image has this digest
abbrev pub IsDigested : List ℕ → List ℕ → Type 0
IsDigested image digest = (digest_fault image ≡ None) × IsDigest image digest

-- the image has no digest, for this
abbrev pub IsDigestFailure : List ℕ → Failure → Type 0
IsDigestFailure image failed = (fault : DigestFault) × (digest_fault image ≡ Some fault) × (failed ≡ digest_failure fault)

-- ---- signature lists

abbrev pub list_places : ListParts → ListPlaces
list_places l = record { place = l.place; len = l.len; header_len = length l.header; signature_len = l.signature_len }

-- the bytes are lists at these places
abbrev pub HasListsAt : List ℕ → List ListPlaces → Type 0
HasListsAt bytes places = (lists : List ListParts) × HasLists bytes 0 lists × (places ≡ map list_places lists)

-- they are none, for this
abbrev pub IsListsFailure : List ℕ → Failure → Type 0
IsListsFailure bytes failed = (fault : ListFault) × HasListFault bytes 0 fault × (failed ≡ lists_failure fault)
