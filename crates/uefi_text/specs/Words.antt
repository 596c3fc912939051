-- The words of faults: a fault's name, and after one blank its place in decimal; and the place.
use Rattle.std.specs.Prelude.{ℕ, List, ◌++◌, codes, decimal, Option, Some, None}
use Rattle.uefi_text.specs.declared.fault.TextFault.{TextFault}
use Rattle.uefi_text.specs.declared.fault.TextFault.TheVariants.{BadSegment, BadNumber, OutOfRange, BadEnd, OutOfMemory}

abbrev pub text_fault_words : TextFault → List ℕ
text_fault_words (BadSegment place) = codes "BadSegment " ++ decimal place
text_fault_words (BadNumber place) = codes "BadNumber " ++ decimal place
text_fault_words (OutOfRange place) = codes "OutOfRange " ++ decimal place
text_fault_words (BadEnd place) = codes "BadEnd " ++ decimal place
text_fault_words OutOfMemory = codes "OutOfMemory"

-- the place of a fault; out of memory has none
abbrev pub text_fault_place : TextFault → Option ℕ
text_fault_place (BadSegment place) = Some place
text_fault_place (BadNumber place) = Some place
text_fault_place (OutOfRange place) = Some place
text_fault_place (BadEnd place) = Some place
text_fault_place OutOfMemory = None
