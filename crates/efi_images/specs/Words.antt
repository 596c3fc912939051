-- What a fault says besides its words: who finds it, what comes of it, and where in the file it is.
use Rattle.std.specs.Prelude.{ℕ}
use Rattle.efi_images.specs.declared.fault.ImageFault.{ImageFault}
use Rattle.efi_images.specs.declared.fault.ImageFault.TheVariants as fault
use Rattle.efi_images.specs.declared.code_view_fault.CodeViewFault.{CodeViewFault}
use Rattle.efi_images.specs.declared.code_view_fault.CodeViewFault.TheVariants as code_view
use Rattle.efi_images.specs.declared.resource_fault.ResourceFault.{ResourceFault}
use Rattle.efi_images.specs.declared.resource_fault.ResourceFault.TheVariants as resource
use Rattle.efi_images.specs.declared.relocation_fault.RelocationFault.{RelocationFault}
use Rattle.efi_images.specs.declared.relocation_fault.RelocationFault.TheVariants as relocation
use Rattle.efi_images.specs.declared.fault.Stage.{Stage}
use Rattle.efi_images.specs.declared.fault.Stage.TheVariants as stage
use Rattle.efi_images.specs.declared.fault.Effect.{Effect}
use Rattle.efi_images.specs.declared.fault.Effect.TheVariants as effect

abbrev pub stage_of : ImageFault → Stage
stage_of fault.Empty = stage.BootManager
stage_of (fault.ShortDosHeader len) = stage.BootManager
stage_of (fault.DosSignature found) = stage.BootManager
stage_of (fault.PePlace found len) = stage.BootManager
stage_of (fault.PeSignature place found) = stage.BootManager
stage_of (fault.Magic place found) = stage.BootManager
stage_of (fault.Subsystem place found) = stage.BootManager
stage_of (fault.Ia32 place) = stage.Start
stage_of (fault.ByteCode place) = stage.Start
stage_of (fault.EntryPoint place found image_size) = stage.Start
stage_of _ = stage.Loader

abbrev pub code_view_effect : CodeViewFault → Effect
code_view_effect (code_view.EntryNotLoaded place) = effect.Undecided
code_view_effect (code_view.NotLoaded place found) = effect.Undecided
code_view_effect _ = effect.Refused

abbrev pub code_view_place : CodeViewFault → ℕ
code_view_place (code_view.EntryBeyondImage place found image_size) = place
code_view_place (code_view.EntryNotLoaded place) = place
code_view_place (code_view.BeyondImage place found image_size) = place
code_view_place (code_view.NotLoaded place found) = place
code_view_place (code_view.Size place found wanted) = place

abbrev pub resource_effect : ResourceFault → Effect
resource_effect (resource.NotLoaded place) = effect.Undecided
resource_effect _ = effect.Refused

abbrev pub resource_place : ResourceFault → ℕ
resource_place (resource.NotLoaded place) = place
resource_place (resource.BeyondResources place found size) = place
resource_place (resource.DirectorySize place found size) = place

abbrev pub relocation_effect : RelocationFault → Effect
relocation_effect (relocation.BlockNotLoaded place) = effect.Undecided
relocation_effect _ = effect.Refused

abbrev pub relocation_place : RelocationFault → ℕ
relocation_place (relocation.BlockNotLoaded place) = place
relocation_place (relocation.BlockSize place found left) = place
relocation_place (relocation.BlockAddress place found image_size) = place
relocation_place (relocation.BeyondImage place found image_size) = place
relocation_place (relocation.UnknownType place found) = place

abbrev pub effect_of : ImageFault → Effect
effect_of (fault.DebugPlace place found) = effect.Undecided
effect_of (fault.UnmappedCodeView place) = effect.Undecided
effect_of (fault.Memory place found) = effect.Undecided
effect_of (fault.RelocationsStripped place) = effect.Undecided
effect_of (fault.RelocationsNotLoaded place) = effect.Undecided
effect_of (fault.ByteCode place) = effect.Undecided
effect_of (fault.SectionBeyondMemory section memory_size) = effect.Unsafe
effect_of (fault.SectionOverTable section table_end) = effect.Unsafe
effect_of (fault.RelocationsOverflow place start size) = effect.Unsafe
effect_of (fault.EntryPoint place found image_size) = effect.Unsafe
effect_of (fault.CodeView f) = code_view_effect f
effect_of (fault.Resources f) = resource_effect f
effect_of (fault.Relocations f) = relocation_effect f
effect_of _ = effect.Refused

abbrev pub place_of : ImageFault → ℕ
place_of fault.Empty = 0
place_of (fault.ShortDosHeader len) = 0
place_of (fault.DosSignature found) = 0
place_of (fault.PePlace found len) = 0x3C
place_of (fault.PeSignature place found) = place
place_of (fault.Magic place found) = place
place_of (fault.Subsystem place found) = place
place_of (fault.DirectoryCount place found) = place
place_of (fault.OptionalHeaderSize place found wanted) = place
place_of (fault.ImageSize place found wanted) = place
place_of (fault.HeadersSize place found wanted) = place
place_of (fault.HeadersBeyondImage place found image_size) = place
place_of (fault.HeadersBeyondFile place found len) = place
place_of (fault.CertificatesBeyondFile place start size len) = place
place_of (fault.Machine place found) = place
place_of (fault.SectionInHeaders section headers_size) = section.place
place_of (fault.SectionBeyondFile section len) = section.place
place_of (fault.DebugPlace place found) = place
place_of (fault.DebugBeyondFile place len) = place
place_of (fault.UnmappedCodeView place) = place
place_of (fault.Arm64 place) = place
place_of (fault.Memory place found) = place
place_of (fault.FixedBase place found) = place
place_of (fault.RelocationsStripped place) = place
place_of (fault.SectionAlignment place) = place
place_of (fault.SectionBeyondImage section image_size) = section.place
place_of (fault.SectionBeyondMemory section memory_size) = section.place
place_of (fault.SectionOverTable section table_end) = section.place
place_of (fault.RelocationsNotLoaded place) = place
place_of (fault.RelocationsOverflow place start size) = place
place_of (fault.RelocationsBeyondImage place start size image_size) = place
place_of (fault.CodeView f) = code_view_place f
place_of (fault.Resources f) = resource_place f
place_of (fault.Relocations f) = relocation_place f
place_of (fault.Ia32 place) = place
place_of (fault.ByteCode place) = place
place_of (fault.EntryPoint place found image_size) = place
