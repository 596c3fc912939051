-- The status that efibootmgr ends with for words that are wrong.
use Rattle.std.specs.Prelude.{ℕ}
use Rattle.efibootmgr_words.specs.declared.fault.WordFault.{WordFault}
use Rattle.efibootmgr_words.specs.declared.fault.WordFault.TheVariants as fault

-- the status by which a wrong word is told
abbrev pub status_of : WordFault → ℕ
status_of (fault.UnknownLetter letter) = 1
status_of (fault.UnknownName name) = 1
status_of (fault.Ambiguous name) = 1
status_of (fault.NoValue name) = 1
status_of (fault.ExtraValue name) = 1
status_of (fault.NotDone name) = 1
status_of (fault.LongPath value) = 1
status_of (fault.BadEntry value) = 28
status_of (fault.LargeEntry value) = 29
status_of (fault.BadEdd value) = 30
status_of (fault.UnknownEdd value) = 31
status_of (fault.BadNext value) = 35
status_of (fault.LargeNext value) = 36
status_of (fault.BadPart value) = 37
status_of (fault.BadTimeout value) = 38
status_of (fault.BadVerbose value) = 39
status_of (fault.BadOrder value) = 8
status_of fault.BothFamilies = 25
status_of (fault.NoNext name) = 26
status_of (fault.NoTimeout name) = 27
status_of fault.NoneToDelete = 3
status_of fault.NoneToActivate = 4
