-- Whether the folder of a journal is kept from others.
use Rattle.std.specs.Prelude.{◌==◌, ◌||◌, ℕ, Bool, Option, Some, None, bit_and, if◌then◌else◌}
use Rattle.machine_storage.specs.declared.state_folder.AccessFault.{AccessFault}
use Rattle.machine_storage.specs.declared.state_folder.AccessFault.TheVariants.{Shared, Foreign}

-- of a folder with these rights and this owner, for this user: its owner is root, whose number is 0, or the user, and neither
-- its group nor others may write it, for which the bits 16 and 2 stand
abbrev pub access_fault : ℕ → ℕ → ℕ → Option AccessFault
access_fault mode owner user =
    if (owner == 0) || (owner == user)
    then (if bit_and mode 18 == 0 then None else Some Shared)
    else Some Foreign
