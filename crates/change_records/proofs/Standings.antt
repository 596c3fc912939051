-- How a change stands beside what a start may have left.
use Rattle.std.proofs.Common.{◌≢◌, inr}
use Rattle.uefi_vars.specs.Vars.{Variables}
use Rattle.change_records.specs.declared.stands.Standing.{Standing}
use Rattle.change_records.specs.declared.stands.Standing.TheVariants.{Unchanged, NotMade, Changed}
use Rattle.change_records.specs.BootPart.{IsUsedStanding, IsPartStanding}
use Rattle.change_records.specs.Record.{RecordParts}

-- beside neither exactly, it stands as it does beside what a start may have left of them
pub used_stands : (r : RecordParts) (part : Variables) → part ≢ r.after → part ≢ r.before → (standing : Standing)
    → IsUsedStanding r part standing → IsPartStanding r part standing
used_stands r part other old Unchanged is = inr (other, old, is)
used_stands r part other old NotMade is = inr (other, old, is)
used_stands r part other old Changed is = (other, old, is)
