-- What an emulator's variable file says of Secure Boot at the next start, as EDK2's AuthVariableLib makes it of the
-- file.
use Rattle.std.specs.Prelude.{◌≡◌, ℕ, ◌==◌, List, [], ◌∷◌, codes, Option, Some, None, if◌then◌else◌}
use Rattle.std.specs.Option.{unwrap_or}
use Rattle.uefi_vars.specs.Name.{global_vendor}
use Rattle.var_stores.specs.Record.{RecordParts}
use Rattle.var_stores.specs.Present.{value_there}
use Rattle.place_checks.specs.declared.stored_secure_boot.NextSecureBoot.{NextSecureBoot}
use Rattle.place_checks.specs.declared.stored_secure_boot.NextSecureBoot.TheVariants as next
use Rattle.place_checks.specs.declared.secure_boot.SeenSecureBoot.{SeenSecureBoot}
use Rattle.place_checks.specs.declared.secure_boot.SeenSecureBoot.TheVariants as seen

-- d719b2cb-3d3a-4596-a3bc-dad00e67656f, the vendor of db and dbx (UEFI 2.10, 32.4.1), as it is stored
abbrev pub database_vendor : List ℕ
database_vendor = 0xCB ∷ 0xB2 ∷ 0x19 ∷ 0xD7 ∷ 0x3A ∷ 0x3D ∷ 0x96 ∷ 0x45 ∷ 0xA3 ∷ 0xBC ∷ 0xDA ∷ 0xD0 ∷ 0x0E ∷ 0x67 ∷ 0x65 ∷ 0x6F ∷ []

-- f0a30bc7-af08-4556-99c4-001009c93a44, EDK2's vendor of SecureBootEnable, as it is stored
abbrev pub enable_vendor : List ℕ
enable_vendor = 0xC7 ∷ 0x0B ∷ 0xA3 ∷ 0xF0 ∷ 0x08 ∷ 0xAF ∷ 0x56 ∷ 0x45 ∷ 0x99 ∷ 0xC4 ∷ 0x00 ∷ 0x10 ∷ 0x09 ∷ 0xC9 ∷ 0x3A ∷ 0x44 ∷ []

-- with a platform key it is on if the first byte of SecureBootEnable is 1
abbrev pub by_enable : ℕ → NextSecureBoot
by_enable first = if first == 1 then next.On else next.Off

-- by the data of PK and SecureBootEnable: without a platform key it is off; with one it is also on if SecureBootEnable
-- isn't there, since EDK2 makes it 1 then. EDK2 looks at its first byte, and of no byte it isn't told what that is.
abbrev pub next_secure_boot : Option (List ℕ) → Option (List ℕ) → NextSecureBoot
next_secure_boot None enable = next.Off
next_secure_boot (Some key) None = next.On
next_secure_boot (Some key) (Some []) = next.Untold
next_secure_boot (Some key) (Some (first ∷ others)) = by_enable first

-- that of the records of a variable file
abbrev pub stored_next : List RecordParts → NextSecureBoot
stored_next records =
    next_secure_boot (value_there global_vendor (codes "PK") records) (value_there enable_vendor (codes "SecureBootEnable") records)

-- the data of db or dbx, no bytes if it isn't there
abbrev pub stored_list : List ℕ → List RecordParts → List ℕ
stored_list name records = unwrap_or (value_there database_vendor name records) []

-- what is seen is what these say, and these lists, if it is on
abbrev pub Shows : SeenSecureBoot → NextSecureBoot → List ℕ → List ℕ → Type 0
Shows seen.Off next.Off db dbx = Unit {0}
Shows (seen.On held_db held_dbx) next.On db dbx = (held_db.items ≡ db) × (held_dbx.items ≡ dbx)
Shows (seen.Unread why) next.Untold db dbx = Unit {0}
Shows _ _ _ _ = ⊥

-- what is seen of a variable file with these records
abbrev pub IsStored : List RecordParts → SeenSecureBoot → Type 0
IsStored records seen = Shows seen (stored_next records) (stored_list (codes "db") records) (stored_list (codes "dbx") records)
