-- Where an entry leads whose path is of a whole disk, by what the looks at the parts of the disk came to.
use Rattle.std.specs.Prelude.{ℕ, ◌==◌, Bool, true, false, ◌&&◌, is_some, List, count_by, if◌then◌else◌}
use Rattle.std.specs.List.{list_any}
use Rattle.entry_checks.specs.declared.lead.Lead.{Lead}
use Rattle.entry_checks.specs.declared.lead.Lead.TheVariants as lead
use Rattle.place_checks.specs.declared.machine.Seen.{Seen}

abbrev pub is_file_lead : Lead → Bool
is_file_lead lead.File = true
is_file_lead _ = false

abbrev pub is_hidden_lead : Lead → Bool
is_hidden_lead lead.Unmounted = true
is_hidden_lead lead.Closed = true
is_hidden_lead _ = false

-- the part has the file
abbrev pub has_file : Seen → Bool
has_file seen = is_file_lead seen.lead

-- it has it, and more is known of the file than that firmware starts it
abbrev pub has_doubtful : Seen → Bool
has_doubtful seen = is_file_lead seen.lead && is_some seen.image.state

-- it couldn't be looked at, so that it may have the file
abbrev pub may_have_file : Seen → Bool
may_have_file seen = is_hidden_lead seen.lead

-- of so many parts with the file, of which one is doubtful or none, and of others that may have it: firmware takes a part that has
-- the file, and which one isn't known, so that one file alone counts, and if another part may have one, only if nothing is
-- wrong with it
abbrev pub lead_by : ℕ → Bool → Bool → Lead
lead_by files is_doubtful is_hidden =
    if files == 0 then (if is_hidden then lead.PartUnseen else lead.NoFileOnDisk)
    else if files == 1 then (if is_doubtful && is_hidden then lead.PartUnseen else lead.File)
    else lead.SeveralFiles

-- of these looks
abbrev pub lead_on_disk : List Seen → Lead
lead_on_disk looks = lead_by (count_by has_file looks) (list_any has_doubtful looks) (list_any may_have_file looks)
