-- The words that statuses, refusals and outcomes have for a person, by their numbers.
use Rattle.std.specs.Prelude.{◌≡◌, ℕ, ◌==◌, ◌/◌, if◌then◌else◌, List, codes, Option, Some, None}
use Rattle.bootkeep_c.specs.Status.{absent}
use Rattle.bootkeep_c.specs.Buffer.{Gives, IsKept}

-- no word has more bytes
abbrev pub word_max : ℕ
word_max = 32

abbrev pub status_word : ℕ → Option (List ℕ)
status_word status =
    if status == 0 then Some (codes "Done")
    else (if status == 1 then Some (codes "Refused")
    else (if status == 2 then Some (codes "NoRoom")
    else (if status == 3 then Some (codes "Absent")
    else (if status == 4 then Some (codes "NoMemory")
    else (if status == 5 then Some (codes "Closed")
    else (if status == 6 then Some (codes "BadSize")
    else None))))))

-- ---- refusals, by what they are of

abbrev pub path_word : ℕ → Option (List ℕ)
path_word kind =
    if kind == 0x0101 then Some (codes "PathNoEnd")
    else (if kind == 0x0102 then Some (codes "PathShortHeader")
    else (if kind == 0x0103 then Some (codes "PathBadLength")
    else (if kind == 0x0104 then Some (codes "PathPastEnd")
    else (if kind == 0x0105 then Some (codes "PathBadEnd")
    else None))))

abbrev pub text_word : ℕ → Option (List ℕ)
text_word kind =
    if kind == 0x0201 then Some (codes "TextBadSegment")
    else (if kind == 0x0202 then Some (codes "TextBadNumber")
    else (if kind == 0x0203 then Some (codes "TextOutOfRange")
    else (if kind == 0x0204 then Some (codes "TextBadEnd")
    else (if kind == 0x0205 then Some (codes "TextNotUtf8")
    else (if kind == 0x0206 then Some (codes "TextUnknownName")
    else (if kind == 0x0207 then Some (codes "TextBadArgument")
    else (if kind == 0x0208 then Some (codes "TextBadCount")
    else (if kind == 0x0209 then Some (codes "TextBadData")
    else None))))))))

abbrev pub option_word : ℕ → Option (List ℕ)
option_word kind =
    if kind == 0x0301 then Some (codes "OptionShort")
    else (if kind == 0x0302 then Some (codes "OptionNoTerminator")
    else (if kind == 0x0303 then Some (codes "OptionListPastEnd")
    else (if kind == 0x0304 then Some (codes "OptionEmptyList")
    else (if kind == 0x0305 then Some (codes "OptionPath")
    else (if kind == 0x0306 then Some (codes "OptionZeroUnit")
    else (if kind == 0x0307 then Some (codes "OptionListTooLong")
    else (if kind == 0x0308 then Some (codes "OptionNotUtf8")
    else (if kind == 0x0309 then Some (codes "OptionNotUtf16")
    else None))))))))

abbrev pub set_word : ℕ → Option (List ℕ)
set_word kind =
    if kind == 0x0401 then Some (codes "SetBadMagic")
    else (if kind == 0x0402 then Some (codes "SetTruncated")
    else (if kind == 0x0403 then Some (codes "SetBadName")
    else (if kind == 0x0404 then Some (codes "SetBadData")
    else (if kind == 0x0405 then Some (codes "SetNotRising")
    else None))))

abbrev pub vars_word : ℕ → Option (List ℕ)
vars_word kind =
    if kind == 0x0501 then Some (codes "VarsBadOrder")
    else (if kind == 0x0502 then Some (codes "VarsBadNext")
    else (if kind == 0x0503 then Some (codes "VarsBadState")
    else None))

abbrev pub put_word : ℕ → Option (List ℕ)
put_word kind =
    if kind == 0x0601 then Some (codes "PutBadName")
    else (if kind == 0x0602 then Some (codes "PutEmptyData")
    else (if kind == 0x0603 then Some (codes "PutDataTooLong")
    else None))

abbrev pub stream_word : ℕ → Option (List ℕ)
stream_word kind =
    if kind == 0x0701 then Some (codes "StreamBadMagic")
    else (if kind == 0x0702 then Some (codes "StreamBadVersion")
    else (if kind == 0x0703 then Some (codes "StreamTooLong")
    else (if kind == 0x0704 then Some (codes "StreamRest")
    else None)))

abbrev pub frame_word : ℕ → Option (List ℕ)
frame_word kind =
    if kind == 0x0801 then Some (codes "FrameShort")
    else (if kind == 0x0802 then Some (codes "FrameBadMagic")
    else (if kind == 0x0803 then Some (codes "FrameBadVersion")
    else (if kind == 0x0804 then Some (codes "FrameTooLong")
    else (if kind == 0x0805 then Some (codes "FrameBadSize")
    else (if kind == 0x0806 then Some (codes "FrameBadKind")
    else (if kind == 0x0807 then Some (codes "FrameBadNumber")
    else (if kind == 0x0808 then Some (codes "FrameBadPayload")
    else (if kind == 0x0809 then Some (codes "FrameOption")
    else None))))))))

abbrev pub image_word : ℕ → Option (List ℕ)
image_word kind =
    if kind == 0x0901 then Some (codes "ImageEmpty")
    else (if kind == 0x0902 then Some (codes "ImageShortDosHeader")
    else (if kind == 0x0903 then Some (codes "ImageDosSignature")
    else (if kind == 0x0904 then Some (codes "ImagePePlace")
    else (if kind == 0x0905 then Some (codes "ImagePeSignature")
    else (if kind == 0x0906 then Some (codes "ImageMagic")
    else (if kind == 0x0907 then Some (codes "ImageSubsystem")
    else (if kind == 0x0908 then Some (codes "ImageDirectoryCount")
    else (if kind == 0x0909 then Some (codes "ImageOptionalHeaderSize")
    else (if kind == 0x090A then Some (codes "ImageImageSize")
    else (if kind == 0x090B then Some (codes "ImageHeadersSize")
    else (if kind == 0x090C then Some (codes "ImageHeadersBeyondImage")
    else (if kind == 0x090D then Some (codes "ImageHeadersBeyondFile")
    else (if kind == 0x090E then Some (codes "ImageCertificatesBeyondFile")
    else (if kind == 0x090F then Some (codes "ImageMachine")
    else (if kind == 0x0910 then Some (codes "ImageSectionInHeaders")
    else (if kind == 0x0911 then Some (codes "ImageSectionBeyondFile")
    else (if kind == 0x0912 then Some (codes "ImageDebugPlace")
    else (if kind == 0x0913 then Some (codes "ImageDebugBeyondFile")
    else (if kind == 0x0914 then Some (codes "ImageUnmappedCodeView")
    else (if kind == 0x0915 then Some (codes "ImageArm64")
    else (if kind == 0x0916 then Some (codes "ImageMemory")
    else (if kind == 0x0917 then Some (codes "ImageFixedBase")
    else (if kind == 0x0918 then Some (codes "ImageRelocationsStripped")
    else (if kind == 0x0919 then Some (codes "ImageSectionAlignment")
    else (if kind == 0x091A then Some (codes "ImageSectionBeyondImage")
    else (if kind == 0x091B then Some (codes "ImageSectionBeyondMemory")
    else (if kind == 0x091C then Some (codes "ImageSectionOverTable")
    else (if kind == 0x091D then Some (codes "ImageRelocationsNotLoaded")
    else (if kind == 0x091E then Some (codes "ImageRelocationsOverflow")
    else (if kind == 0x091F then Some (codes "ImageRelocationsBeyondImage")
    else (if kind == 0x0920 then Some (codes "ImageIa32")
    else (if kind == 0x0921 then Some (codes "ImageByteCode")
    else (if kind == 0x0922 then Some (codes "ImageEntryPoint")
    else (if kind == 0x0923 then Some (codes "ImageOverlap")
    else (if kind == 0x0924 then Some (codes "ImageCertificatesOverlap")
    else None)))))))))))))))))))))))))))))))))))

abbrev pub lists_word : ℕ → Option (List ℕ)
lists_word kind =
    if kind == 0x0A01 then Some (codes "ListsCutHeader")
    else (if kind == 0x0A02 then Some (codes "ListsBadListSize")
    else (if kind == 0x0A03 then Some (codes "ListsBadSignatureSize")
    else None))

-- of what an image has in memory
abbrev pub loaded_word : ℕ → Option (List ℕ)
loaded_word kind =
    if kind == 0x0B01 then Some (codes "ImageCodeViewEntryBeyondImage")
    else (if kind == 0x0B02 then Some (codes "ImageCodeViewEntryNotLoaded")
    else (if kind == 0x0B03 then Some (codes "ImageCodeViewBeyondImage")
    else (if kind == 0x0B04 then Some (codes "ImageCodeViewNotLoaded")
    else (if kind == 0x0B05 then Some (codes "ImageCodeViewSize")
    else (if kind == 0x0B06 then Some (codes "ImageResourcesNotLoaded")
    else (if kind == 0x0B07 then Some (codes "ImageResourceBeyondResources")
    else (if kind == 0x0B08 then Some (codes "ImageResourceDirectorySize")
    else (if kind == 0x0B09 then Some (codes "ImageRelocationBlockNotLoaded")
    else (if kind == 0x0B0A then Some (codes "ImageRelocationBlockSize")
    else (if kind == 0x0B0B then Some (codes "ImageRelocationBlockAddress")
    else (if kind == 0x0B0C then Some (codes "ImageRelocationBeyondImage")
    else (if kind == 0x0B0D then Some (codes "ImageRelocationUnknownType")
    else None))))))))))))

-- of the journal's file, and of a machine
abbrev pub journal_word : ℕ → Option (List ℕ)
journal_word kind =
    if kind == 0x0C01 then Some (codes "JournalBadMagic")
    else (if kind == 0x0C02 then Some (codes "JournalBadMachine")
    else (if kind == 0x0C03 then Some (codes "JournalTruncated")
    else (if kind == 0x0C04 then Some (codes "JournalValueTooLong")
    else (if kind == 0x0C05 then Some (codes "JournalBadCourse")
    else (if kind == 0x0C06 then Some (codes "JournalBadIdentity")
    else (if kind == 0x0C07 then Some (codes "JournalBadName")
    else (if kind == 0x0C08 then Some (codes "JournalOfAnother")
    else (if kind == 0x0C09 then Some (codes "JournalTooLong")
    else None))))))))

abbrev pub machine_word : ℕ → Option (List ℕ)
machine_word kind =
    if kind == 0x0D01 then Some (codes "MachineBadName")
    else (if kind == 0x0D02 then Some (codes "MachineBadStart")
    else (if kind == 0x0D03 then Some (codes "MachineNoData")
    else (if kind == 0x0D04 then Some (codes "MachineTooLong")
    else None)))

-- of an edit
abbrev pub edit_word : ℕ → Option (List ℕ)
edit_word kind =
    if kind == 0x0E01 then Some (codes "UneditedTaken")
    else (if kind == 0x0E02 then Some (codes "UneditedNoFree")
    else (if kind == 0x0E03 then Some (codes "UneditedTwice")
    else (if kind == 0x0E04 then Some (codes "UneditedMissing")
    else (if kind == 0x0E05 then Some (codes "UneditedStale")
    else (if kind == 0x0E06 then Some (codes "UneditedNoOption")
    else (if kind == 0x0E07 then Some (codes "UneditedOrderTooLong")
    else (if kind == 0x0E08 then Some (codes "UneditedOptionTooLong")
    else (if kind == 0x0E09 then Some (codes "UneditedBadKind")
    else (if kind == 0x0E0A then Some (codes "UneditedBadNumber")
    else (if kind == 0x0E0B then Some (codes "UneditedBadPosition")
    else None))))))))))

-- of notes, and of a record
abbrev pub notes_word : ℕ → Option (List ℕ)
notes_word kind =
    if kind == 0x0F01 then Some (codes "NotesTruncated")
    else (if kind == 0x0F02 then Some (codes "NotesTooMany")
    else (if kind == 0x0F03 then Some (codes "NotesBadIdentity")
    else None))

abbrev pub record_word : ℕ → Option (List ℕ)
record_word kind =
    if kind == 0x1001 then Some (codes "RecordBadMagic")
    else (if kind == 0x1002 then Some (codes "RecordTruncated")
    else (if kind == 0x1003 then Some (codes "RecordTooFewFields")
    else (if kind == 0x1004 then Some (codes "RecordBadMachine")
    else (if kind == 0x1005 then Some (codes "RecordBadTime")
    else (if kind == 0x1006 then Some (codes "RecordBadBefore")
    else (if kind == 0x1007 then Some (codes "RecordBadAfter")
    else (if kind == 0x1008 then Some (codes "RecordBadWord")
    else (if kind == 0x1009 then Some (codes "RecordOpenWord")
    else (if kind == 0x100A then Some (codes "RecordTooLong")
    else None)))))))))

-- of an emulator's variable file
abbrev pub store_word : ℕ → Option (List ℕ)
store_word kind =
    if kind == 0x1101 then Some (codes "StoreNoVolume")
    else (if kind == 0x1102 then Some (codes "StoreBadHeader")
    else (if kind == 0x1103 then Some (codes "StoreNoStore")
    else (if kind == 0x1104 then Some (codes "StoreUnauthenticated")
    else (if kind == 0x1105 then Some (codes "StoreBadStore")
    else (if kind == 0x1106 then Some (codes "StoreCutRecord")
    else (if kind == 0x1107 then Some (codes "StoreFull")
    else None))))))

-- of a change of a machine or of a set, and of what is kept of it
unfoldable pub change_word : ℕ → Option (List ℕ)
change_word kind =
    if kind / 0x100 == 12 then journal_word kind
    else (if kind / 0x100 == 13 then machine_word kind
    else (if kind / 0x100 == 14 then edit_word kind
    else (if kind / 0x100 == 15 then notes_word kind
    else (if kind / 0x100 == 16 then record_word kind
    else (if kind / 0x100 == 17 then store_word kind
    else None)))))

-- of what a file has, and of a change
unfoldable pub file_word : ℕ → Option (List ℕ)
file_word kind =
    if kind / 0x100 == 9 then image_word kind
    else (if kind / 0x100 == 10 then lists_word kind
    else (if kind / 0x100 == 11 then loaded_word kind
    else change_word kind))

-- the upper byte of its number tells of what a refusal is
abbrev pub refusal_word : ℕ → Option (List ℕ)
refusal_word kind =
    if kind / 0x100 == 1 then path_word kind
    else (if kind / 0x100 == 2 then text_word kind
    else (if kind / 0x100 == 3 then option_word kind
    else (if kind / 0x100 == 4 then set_word kind
    else (if kind / 0x100 == 5 then vars_word kind
    else (if kind / 0x100 == 6 then put_word kind
    else (if kind / 0x100 == 7 then stream_word kind
    else (if kind / 0x100 == 8 then frame_word kind
    else file_word kind)))))))

-- ---- outcomes, and what is given

abbrev pub outcome_word : ℕ → Option (List ℕ)
outcome_word outcome =
    if outcome == 0 then Some (codes "None")
    else (if outcome == 1 then Some (codes "Done")
    else (if outcome == 2 then Some (codes "Exists")
    else (if outcome == 3 then Some (codes "Missing")
    else (if outcome == 4 then Some (codes "OrderRepeats")
    else (if outcome == 5 then Some (codes "OrderUnknown")
    else (if outcome == 6 then Some (codes "NoFree")
    else None))))))

-- the word is given, if there is one, and otherwise the status says that there is none
abbrev pub GivesWord : Option (List ℕ) → ℕ → List ℕ → List ℕ → ℕ → ℕ → Type 0
GivesWord (Some word) status old new old_len len = Gives status word old new len
GivesWord None status old new old_len len = (status ≡ absent) × IsKept old new old_len len
