-- The options of efibootmgr, as a table.
use Rattle.std.specs.Prelude.{ℕ, List, [], ◌∷◌, codes, slice_index}
use Prim.Native.String.{String}
use Rattle.efibootmgr_words.specs.declared.option_table.Choice.{Choice}
use Rattle.efibootmgr_words.specs.declared.option_table.Choice.TheVariants as choice
use Rattle.efibootmgr_words.specs.declared.option_table.OptionRow.{OptionRow}
use Rattle.efibootmgr_words.specs.declared.option_table.Takes.{Takes}
use Rattle.efibootmgr_words.specs.declared.option_table.Takes.TheVariants as takes

pub record RowParts : Type 0 where
  pub letter : ℕ
  pub name : List ℕ
  pub takes : Takes
  pub choice : Choice

abbrev pub row_parts : OptionRow → RowParts
row_parts row = record { letter = row.letter; name = row.name.now; takes = row.takes; choice = row.choice }

-- an option with a letter, or with a blank in its place
abbrev pub row : String → String → Takes → Choice → RowParts
row letter name kind choice =
    record { letter = slice_index (codes letter) 0; name = codes name; takes = kind; choice = choice }

abbrev pub option_rows : List RowParts
option_rows =
    row "a" "active" takes.Nothing choice.Activate
    ∷ row "A" "inactive" takes.Nothing choice.Deactivate
    ∷ row "b" "bootnum" takes.Value choice.Entry
    ∷ row "B" "delete-bootnum" takes.Nothing choice.Delete
    ∷ row "c" "create" takes.Nothing choice.Create
    ∷ row "C" "create-only" takes.Nothing choice.CreateOnly
    ∷ row "D" "remove-dups" takes.Nothing choice.RemoveRepeats
    ∷ row "d" "disk" takes.Value choice.Disk
    ∷ row "i" "iface" takes.Value choice.Interface
    ∷ row "E" "edd-device" takes.Value choice.EddDevice
    ∷ row "e" "edd30" takes.Value choice.Edd
    ∷ row "g" "gpt" takes.Nothing choice.Gpt
    ∷ row " " "keep" takes.Nothing choice.Keep
    ∷ row "l" "loader" takes.Value choice.Loader
    ∷ row "L" "label" takes.Value choice.Label
    ∷ row "m" "mirror-below-4G" takes.Value choice.MirrorBelow
    ∷ row "M" "mirror-above-4G" takes.Value choice.MirrorAbove
    ∷ row "n" "bootnext" takes.Value choice.Next
    ∷ row "N" "delete-bootnext" takes.Nothing choice.DeleteNext
    ∷ row "o" "bootorder" takes.Value choice.Order
    ∷ row "O" "delete-bootorder" takes.Nothing choice.DeleteOrder
    ∷ row "p" "part" takes.Value choice.Part
    ∷ row "q" "quiet" takes.Nothing choice.Quiet
    ∷ row "r" "driver" takes.Nothing choice.Driver
    ∷ row "t" "timeout" takes.Value choice.Timeout
    ∷ row "T" "delete-timeout" takes.Nothing choice.DeleteTimeout
    ∷ row "u" "unicode" takes.Nothing choice.Unicode
    ∷ row " " "UCS-2" takes.Nothing choice.Unicode
    ∷ row "v" "verbose" takes.Perhaps choice.Verbose
    ∷ row "V" "version" takes.Nothing choice.Version
    ∷ row "w" "write-signature" takes.Nothing choice.WriteSignature
    ∷ row "y" "sysprep" takes.Nothing choice.SysPrep
    ∷ row "@" "append-binary-args" takes.Value choice.BinaryArguments
    ∷ row "h" "help" takes.Nothing choice.Help
    ∷ []
