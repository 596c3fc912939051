-- The table of the nodes that libefivar 37 prints in another form than a person is shown, row by row.
use Rattle.std.specs.Prelude.{ℕ, List, [], ◌∷◌, codes}
use Rattle.uefi_names.specs.declared.table.NodeTable.{NodeTable}
use Rattle.uefi_names.specs.declared.table.NodeRow.{NodeRow}
use Rattle.uefi_names.specs.declared.table.Field.{Field}
use Rattle.uefi_names.specs.declared.table.Word.{Word}
use Rattle.uefi_names.specs.declared.table.DataLen.TheVariants.{Exactly, AtLeast}
use Rattle.uefi_names.specs.Standard.{all_bits, number_at, decimal_at, word, word_or_decimal_at, guid_at, text_at, row_of, group_of}

-- a word for each of some numbers, and decimal digits for another
abbrev words_at : ℕ → ℕ → List Word → Field
words_at at len all = word_or_decimal_at at len all_bits all

abbrev pub hardware_rows : List NodeRow
hardware_rows =
    row_of 3 (Exactly 20) (codes "MemoryMapped") (decimal_at 0 4 ∷ number_at 4 8 ∷ number_at 12 8 ∷ [])
    ∷ row_of 6 (Exactly 9) (codes "BMC") (decimal_at 0 1 ∷ number_at 1 8 ∷ [])
    ∷ []

-- a zero is the rate that most firmware has
abbrev pub uart_fields : List Field
uart_fields =
    words_at 4 8 (word 0 (codes "115200") ∷ [])
    ∷ words_at 12 1 (word 0 (codes "8") ∷ [])
    ∷ words_at 13 1 (word 0 (codes "D") ∷ word 1 (codes "N") ∷ word 2 (codes "E") ∷ word 3 (codes "O") ∷ word 4 (codes "M") ∷ word 5 (codes "S") ∷ [])
    ∷ words_at 14 1 (word 0 (codes "D") ∷ word 1 (codes "1") ∷ word 2 (codes "1.5") ∷ word 3 (codes "2") ∷ [])
    ∷ []

abbrev pub messaging_rows : List NodeRow
messaging_rows =
    row_of 1 (Exactly 4) (codes "Ata") (decimal_at 0 1 ∷ decimal_at 1 1 ∷ decimal_at 2 2 ∷ [])
    ∷ row_of 2 (Exactly 4) (codes "SCSI") (decimal_at 0 2 ∷ decimal_at 2 2 ∷ [])
    ∷ row_of 4 (Exactly 12) (codes "I1394") (number_at 4 8 ∷ [])
    ∷ row_of 6 (Exactly 4) (codes "I2O") (decimal_at 0 4 ∷ [])
    ∷ row_of 14 (Exactly 15) (codes "Uart") uart_fields
    ∷ row_of 17 (Exactly 1) (codes "Unit") (decimal_at 0 1 ∷ [])
    ∷ row_of 26 (Exactly 1) (codes "SD") (decimal_at 0 1 ∷ [])
    ∷ row_of 29 (Exactly 1) (codes "eMMC") (decimal_at 0 1 ∷ [])
    ∷ []

abbrev pub media_rows : List NodeRow
media_rows = row_of 7 (Exactly 16) (codes "FvVol") (guid_at 0 ∷ []) ∷ []

abbrev pub boot_devices : List Word
boot_devices =
    word 1 (codes "Floppy") ∷ word 2 (codes "HD") ∷ word 3 (codes "CDROM") ∷ word 4 (codes "PCMCIA") ∷ word 5 (codes "USB")
    ∷ word 6 (codes "Network") ∷ []

abbrev pub bios_boot_rows : List NodeRow
bios_boot_rows = row_of 1 (AtLeast 5) (codes "BBS") (words_at 0 2 boot_devices ∷ text_at 4 0 ∷ number_at 2 2 ∷ []) ∷ []

-- the table
unfoldable pub efivar_table : NodeTable
efivar_table = record {
  groups =
      group_of 1 hardware_rows ∷ group_of 3 messaging_rows ∷ group_of 4 media_rows ∷ group_of 5 bios_boot_rows
      ∷ group_of 0 [] ∷ group_of 0 [] ∷ group_of 0 [] ∷ group_of 0 [] ∷ [];
}
