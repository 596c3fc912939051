-- The numbers of faults, and what a call tells of one. Out of memory is no refusal: it has a status of its own.
use Rattle.std.specs.Prelude.{◌≡◌, ◌⊎◌, ℕ}
use Rattle.uefi_path.specs.declared.fault.PathFault.{PathFault}
use Rattle.uefi_path.specs.declared.fault.PathFault.TheVariants as path
use Rattle.uefi_text.specs.declared.fault.TextFault.{TextFault}
use Rattle.uefi_text.specs.declared.fault.TextFault.TheVariants as text
use Rattle.uefi_names.specs.declared.fault.NamedFault.{NamedFault}
use Rattle.uefi_names.specs.declared.fault.NamedFault.TheVariants as named
use Rattle.uefi_option.specs.declared.fault.OptionFault.{OptionFault}
use Rattle.uefi_option.specs.declared.fault.OptionFault.TheVariants as option
use Rattle.uefi_vars.specs.declared.fault.SetFault.{SetFault}
use Rattle.uefi_vars.specs.declared.fault.SetFault.TheVariants as set
use Rattle.uefi_vars.specs.declared.fault.VarFault.{VarFault}
use Rattle.uefi_vars.specs.declared.fault.VarFault.TheVariants as var
use Rattle.uefi_vars.specs.declared.fault.PutFault.{PutFault}
use Rattle.uefi_vars.specs.declared.fault.PutFault.TheVariants as put
use Rattle.boot_edits.specs.declared.fault.EditFault.{EditFault}
use Rattle.boot_edits.specs.declared.fault.EditFault.TheVariants as edit
use Rattle.boot_requests.specs.declared.fault.OpenFault.{OpenFault}
use Rattle.boot_requests.specs.declared.fault.OpenFault.TheVariants as opening
use Rattle.boot_requests.specs.declared.fault.FeedFault.{FeedFault}
use Rattle.boot_requests.specs.declared.fault.FeedFault.TheVariants as feeding
use Rattle.boot_requests.specs.declared.fault.FrameFault.{FrameFault}
use Rattle.boot_requests.specs.declared.fault.FrameFault.TheVariants as frame
use Rattle.boot_requests.specs.declared.script_fault.ScriptFault.{ScriptFault}
use Rattle.boot_requests.specs.declared.script_fault.ScriptFault.TheVariants as script
use Rattle.efi_images.specs.declared.fault.ImageFault.{ImageFault}
use Rattle.efi_images.specs.declared.fault.ImageFault.TheVariants as image
use Rattle.efi_images.specs.declared.code_view_fault.CodeViewFault.{CodeViewFault}
use Rattle.efi_images.specs.declared.code_view_fault.CodeViewFault.TheVariants as code_view
use Rattle.efi_images.specs.declared.resource_fault.ResourceFault.{ResourceFault}
use Rattle.efi_images.specs.declared.resource_fault.ResourceFault.TheVariants as resource
use Rattle.efi_images.specs.declared.relocation_fault.RelocationFault.{RelocationFault}
use Rattle.efi_images.specs.declared.relocation_fault.RelocationFault.TheVariants as relocation
use Rattle.efi_images.specs.declared.digest_fault.DigestFault.{DigestFault}
use Rattle.efi_images.specs.declared.digest_fault.DigestFault.TheVariants as undigested
use Rattle.efi_images.specs.declared.signatures.ListFault.{ListFault}
use Rattle.efi_images.specs.declared.signatures.ListFault.TheVariants as listed
use Rattle.boot_journal.specs.declared.fault.JournalFault.{JournalFault}
use Rattle.boot_journal.specs.declared.fault.JournalFault.TheVariants as journal
use Rattle.boot_notes.specs.declared.fault.NotesFault.{NotesFault}
use Rattle.boot_notes.specs.declared.fault.NotesFault.TheVariants as notes
use Rattle.boot_journal.specs.declared.attributes.AttributesFault.{AttributesFault}
use Rattle.boot_journal.specs.declared.attributes.AttributesFault.TheVariants as attributes
use Rattle.var_stores.specs.declared.fault.StoreFault.{StoreFault}
use Rattle.var_stores.specs.declared.fault.StoreFault.TheVariants as store
use Rattle.var_stores.specs.declared.write_fault.WriteFault.{WriteFault as RewriteFault}
use Rattle.var_stores.specs.declared.write_fault.WriteFault.TheVariants as rewriting
use Rattle.change_records.specs.declared.fault.RecordFault.{RecordFault}
use Rattle.change_records.specs.declared.fault.RecordFault.TheVariants as recorded
use Rattle.change_records.specs.declared.fault.WriteFault.{WriteFault}
use Rattle.change_records.specs.declared.fault.WriteFault.TheVariants as writing
use Rattle.efi_images.specs.Words.{place_of}
use Rattle.bootkeep_c.specs.declared.refusal.Refusal.{Refusal}
use Rattle.bootkeep_c.specs.declared.failure.Failure.{Failure}
use Rattle.bootkeep_c.specs.declared.failure.Failure.TheVariants as failure
use Rattle.bootkeep_c.specs.Status.{refused, no_memory}

-- what stands for no fault within, and for no place
abbrev pub no_kind : ℕ
no_kind = 0

abbrev pub no_place : ℕ
no_place = 0xFFFF_FFFF_FFFF_FFFF

abbrev pub refusal : ℕ → ℕ → ℕ → ℕ → Refusal
refusal kind inner_kind place inner_place =
    record { kind = kind; inner_kind = inner_kind; place = place; inner_place = inner_place }

-- a refusal of this number that has no place, and one at a place
abbrev pub bare : ℕ → Failure
bare kind = failure.Refused (refusal kind no_kind no_place no_place)

abbrev pub at_place : ℕ → ℕ → Failure
at_place kind place = failure.Refused (refusal kind no_kind place no_place)

-- ---- the numbers

abbrev pub path_failure : PathFault → Failure
path_failure (path.NoEnd place) = at_place 0x0101 place
path_failure (path.ShortHeader place left) = at_place 0x0102 place
path_failure (path.BadLength place) = at_place 0x0103 place
path_failure (path.PastEnd place stated left) = at_place 0x0104 place
path_failure (path.BadEnd place) = at_place 0x0105 place
path_failure path.OutOfMemory = failure.Memory

abbrev pub text_failure : TextFault → Failure
text_failure (text.BadSegment place) = at_place 0x0201 place
text_failure (text.BadNumber place) = at_place 0x0202 place
text_failure (text.OutOfRange place) = at_place 0x0203 place
text_failure (text.BadEnd place) = at_place 0x0204 place
text_failure text.OutOfMemory = failure.Memory

abbrev pub named_failure : NamedFault → Failure
named_failure (named.BadSegment place) = at_place 0x0201 place
named_failure (named.UnknownName place nearest) = at_place 0x0206 place
named_failure (named.BadArgument place field) = at_place 0x0207 place
named_failure (named.BadCount place) = at_place 0x0208 place
named_failure (named.BadData place) = at_place 0x0209 place
named_failure (named.Exact fault) = text_failure fault
named_failure named.OutOfMemory = failure.Memory

-- bytes that aren't UTF-8 from this place on
abbrev pub not_utf8 : ℕ → Failure
not_utf8 place = at_place 0x0205 place

-- the fault of a part, by this number of the whole, where that has the part's bytes at this place
abbrev pub part_failure : ℕ → ℕ → Failure → Failure
part_failure kind place (failure.Refused inner) = failure.Refused (refusal kind inner.kind place inner.place)
part_failure kind place failure.Memory = failure.Memory

-- the fault of a path within a load option, whose list has these bytes at this place
abbrev pub list_failure : ℕ → Failure → Failure
list_failure place failed = part_failure 0x0305 place failed

abbrev pub option_failure : OptionFault → Failure
option_failure (option.Short found) = bare 0x0301
option_failure option.NoTerminator = bare 0x0302
option_failure (option.ListPastEnd stated left) = bare 0x0303
option_failure option.EmptyList = bare 0x0304
option_failure (option.Path place fault) = list_failure place (path_failure fault)
option_failure option.ZeroUnit = bare 0x0306
option_failure option.ListTooLong = bare 0x0307
option_failure option.OutOfMemory = failure.Memory

abbrev pub set_failure : SetFault → Failure
set_failure (set.BadMagic place) = at_place 0x0401 place
set_failure (set.Truncated place) = at_place 0x0402 place
set_failure (set.BadName place) = at_place 0x0403 place
set_failure (set.BadData place) = at_place 0x0404 place
set_failure (set.NotRising place) = at_place 0x0405 place
set_failure set.OutOfMemory = failure.Memory

abbrev pub vars_failure : VarFault → Failure
vars_failure var.BadOrder = bare 0x0501
vars_failure var.BadNext = bare 0x0502
vars_failure var.OutOfMemory = failure.Memory

abbrev pub open_failure : OpenFault → Failure
open_failure opening.BadOrder = bare 0x0501
open_failure opening.BadNext = bare 0x0502
open_failure opening.BadState = bare 0x0503
open_failure opening.OutOfMemory = failure.Memory

abbrev pub put_failure : PutFault → Failure
put_failure put.BadName = bare 0x0601
put_failure put.EmptyData = bare 0x0602
put_failure put.DataTooLong = bare 0x0603
put_failure put.OutOfMemory = failure.Memory

-- a set that refuses an edit: the place is the number of the entry that it is refused for
abbrev pub edit_failure : EditFault → Failure
edit_failure (edit.BadOption fault) = option_failure fault
edit_failure edit.OptionTooLong = bare 0x0E08
edit_failure (edit.Taken entry) = at_place 0x0E01 entry
edit_failure edit.NoFree = bare 0x0E02
edit_failure (edit.Twice entry) = at_place 0x0E03 entry
edit_failure (edit.Missing entry) = at_place 0x0E04 entry
edit_failure (edit.Stale entry) = at_place 0x0E05 entry
edit_failure (edit.NoOption entry) = at_place 0x0E06 entry
edit_failure edit.BadOrder = bare 0x0501
edit_failure edit.BadNext = bare 0x0502
edit_failure edit.OrderTooLong = bare 0x0E07
edit_failure edit.OutOfMemory = failure.Memory

abbrev pub feed_failure : FeedFault → Failure
feed_failure feeding.BadMagic = bare 0x0701
feed_failure feeding.BadVersion = bare 0x0702
feed_failure feeding.TooLong = bare 0x0703
feed_failure feeding.OutOfMemory = failure.Memory

-- a stream that ends in this many bytes of a frame
abbrev pub rest_failure : ℕ → Failure
rest_failure count = at_place 0x0704 count

-- why a stream isn't run: no other fault is one of a stream
abbrev pub stream_failure : ScriptFault → Failure
stream_failure (script.Stream fault) = feed_failure fault
stream_failure (script.Rest count) = rest_failure count
stream_failure _ = failure.Memory

-- a frame that can't be made, or isn't one: the fault of an option is told as that of the option alone
abbrev pub frame_failure : FrameFault → Failure
frame_failure (frame.Short found) = bare 0x0801
frame_failure frame.BadMagic = bare 0x0802
frame_failure frame.BadVersion = bare 0x0803
frame_failure frame.TooLong = bare 0x0804
frame_failure (frame.BadSize stated found) = bare 0x0805
frame_failure frame.BadKind = bare 0x0806
frame_failure frame.BadNumber = bare 0x0807
frame_failure frame.BadPayload = bare 0x0808
frame_failure (frame.Option fault) = option_failure fault
frame_failure frame.OutOfMemory = failure.Memory

abbrev pub code_view_number : CodeViewFault → ℕ
code_view_number (code_view.EntryBeyondImage place found image_size) = 0x0B01
code_view_number (code_view.EntryNotLoaded place) = 0x0B02
code_view_number (code_view.BeyondImage place found image_size) = 0x0B03
code_view_number (code_view.NotLoaded place found) = 0x0B04
code_view_number (code_view.Size place found wanted) = 0x0B05

abbrev pub resource_number : ResourceFault → ℕ
resource_number (resource.NotLoaded place) = 0x0B06
resource_number (resource.BeyondResources place found size) = 0x0B07
resource_number (resource.DirectorySize place found size) = 0x0B08

abbrev pub relocation_number : RelocationFault → ℕ
relocation_number (relocation.BlockNotLoaded place) = 0x0B09
relocation_number (relocation.BlockSize place found left) = 0x0B0A
relocation_number (relocation.BlockAddress place found image_size) = 0x0B0B
relocation_number (relocation.BeyondImage place found image_size) = 0x0B0C
relocation_number (relocation.UnknownType place found) = 0x0B0D

abbrev pub image_number : ImageFault → ℕ
image_number image.Empty = 0x0901
image_number (image.ShortDosHeader len) = 0x0902
image_number (image.DosSignature found) = 0x0903
image_number (image.PePlace found len) = 0x0904
image_number (image.PeSignature place found) = 0x0905
image_number (image.Magic place found) = 0x0906
image_number (image.Subsystem place found) = 0x0907
image_number (image.DirectoryCount place found) = 0x0908
image_number (image.OptionalHeaderSize place found wanted) = 0x0909
image_number (image.ImageSize place found wanted) = 0x090A
image_number (image.HeadersSize place found wanted) = 0x090B
image_number (image.HeadersBeyondImage place found image_size) = 0x090C
image_number (image.HeadersBeyondFile place found len) = 0x090D
image_number (image.CertificatesBeyondFile place start size len) = 0x090E
image_number (image.Machine place found) = 0x090F
image_number (image.SectionInHeaders section headers_size) = 0x0910
image_number (image.SectionBeyondFile section len) = 0x0911
image_number (image.DebugPlace place found) = 0x0912
image_number (image.DebugBeyondFile place len) = 0x0913
image_number (image.UnmappedCodeView place) = 0x0914
image_number (image.Arm64 place) = 0x0915
image_number (image.Memory place found) = 0x0916
image_number (image.FixedBase place found) = 0x0917
image_number (image.RelocationsStripped place) = 0x0918
image_number (image.SectionAlignment place) = 0x0919
image_number (image.SectionBeyondImage section image_size) = 0x091A
image_number (image.SectionBeyondMemory section memory_size) = 0x091B
image_number (image.SectionOverTable section table_end) = 0x091C
image_number (image.RelocationsNotLoaded place) = 0x091D
image_number (image.RelocationsOverflow place start size) = 0x091E
image_number (image.RelocationsBeyondImage place start size image_size) = 0x091F
image_number (image.CodeView f) = code_view_number f
image_number (image.Resources f) = resource_number f
image_number (image.Relocations f) = relocation_number f
image_number (image.Ia32 place) = 0x0920
image_number (image.ByteCode place) = 0x0921
image_number (image.EntryPoint place found image_size) = 0x0922

abbrev pub image_failure : ImageFault → Failure
image_failure fault = at_place (image_number fault) (place_of fault)

-- an image that has no digest: a fault of its form is told as that of the image alone
abbrev pub digest_failure : DigestFault → Failure
digest_failure (undigested.Image fault) = image_failure fault
digest_failure (undigested.Overlap found len) = bare 0x0923
digest_failure (undigested.CertificatesOverlap found size len) = bare 0x0924
digest_failure undigested.OutOfMemory = failure.Memory

abbrev pub lists_failure : ListFault → Failure
lists_failure (listed.CutHeader place) = at_place 0x0A01 place
lists_failure (listed.BadListSize place len) = at_place 0x0A02 place
lists_failure (listed.BadSignatureSize place len) = at_place 0x0A03 place
lists_failure listed.OutOfMemory = failure.Memory

-- bytes that aren't the file of a journal
abbrev pub journal_failure : JournalFault → Failure
journal_failure journal.BadMagic = bare 0x0C01
journal_failure (journal.BadMachine place) = at_place 0x0C02 place
journal_failure (journal.Truncated place) = at_place 0x0C03 place
journal_failure (journal.ValueTooLong place) = at_place 0x0C04 place
journal_failure (journal.BadCourse place) = at_place 0x0C05 place
journal_failure (journal.BadIdentity place) = at_place 0x0C06 place
journal_failure (journal.BadName place) = at_place 0x0C07 place
journal_failure journal.OutOfMemory = failure.Memory

-- bytes that begin as notes do, and aren't any
abbrev pub notes_failure : NotesFault → Failure
notes_failure (notes.Truncated place) = at_place 0x0F01 place
notes_failure (notes.TooMany place) = at_place 0x0F02 place
notes_failure notes.OutOfMemory = failure.Memory

-- bytes that aren't a record: a word is told by its number, and the place in a set counts from the start of that
abbrev pub record_failure : RecordFault → Failure
record_failure recorded.BadMagic = bare 0x1001
record_failure (recorded.Truncated place) = at_place 0x1002 place
record_failure recorded.TooFewFields = bare 0x1003
record_failure recorded.BadMachine = bare 0x1004
record_failure recorded.BadTime = bare 0x1005
record_failure (recorded.BadBefore fault) = part_failure 0x1006 no_place (set_failure fault)
record_failure (recorded.BadAfter fault) = part_failure 0x1007 no_place (set_failure fault)
record_failure (recorded.BadWord number) = at_place 0x1008 number
record_failure recorded.OutOfMemory = failure.Memory

-- a record that can't be written
abbrev pub write_failure : WriteFault → Failure
write_failure writing.TooLong = bare 0x100A
write_failure writing.OutOfMemory = failure.Memory

-- what a machine keeps that no set has, or that has no data
abbrev pub attributes_failure : AttributesFault → Failure
attributes_failure attributes.NoData = bare 0x0D03
attributes_failure attributes.TooLong = bare 0x0D04
attributes_failure attributes.OutOfMemory = failure.Memory

-- a file that is no variable file of an emulator
abbrev pub store_failure : StoreFault → Failure
store_failure store.NoVolume = bare 0x1101
store_failure store.BadHeader = bare 0x1102
store_failure store.NoStore = bare 0x1103
store_failure store.Unauthenticated = bare 0x1104
store_failure store.BadStore = bare 0x1105
store_failure (store.CutRecord place) = at_place 0x1106 place
store_failure store.OutOfMemory = failure.Memory

-- a file that isn't written
abbrev pub rewrite_failure : RewriteFault → Failure
rewrite_failure (rewriting.Store fault) = store_failure fault
rewrite_failure rewriting.Full = bare 0x1107
rewrite_failure rewriting.OutOfMemory = failure.Memory

-- ---- what a call tells

-- the status of a call that fails so, and what is in the caller's refusal before and after
abbrev pub Tells : Failure → ℕ → Refusal → Refusal → Type 0
Tells (failure.Refused told) status old new = (status ≡ refused) × (new ≡ told)
Tells failure.Memory status old new = (status ≡ no_memory) × (new ≡ old)

-- the same, unless memory was refused before the failure was found
abbrev pub TellsUnless : Failure → ℕ → Refusal → Refusal → Type 0
TellsUnless failed status old new = Tells failed status old new ⊎ Tells failure.Memory status old new
