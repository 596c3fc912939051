-- The changes that words ask for, in the sequence in which `efibootmgr` makes them.
use Rattle.std.specs.Prelude.{ℕ, Bool, true, false, List, [], ◌∷◌, ◌++◌, Option, Some, None, is_some, if◌then◌else◌}
use Rattle.efibootmgr_words.specs.declared.asked_words.Asked.{Asked}
use Rattle.efibootmgr_runs.specs.declared.planned.Planned.{Planned}
use Rattle.efibootmgr_runs.specs.declared.planned.Planned.TheVariants.{Delete, Activate, Deactivate, Create, DeleteOrder, Order, RemoveRepeats}
use Rattle.efibootmgr_runs.specs.declared.planned.Planned.TheVariants.{DeleteNext, DeleteTimeout, Next, Timeout}

-- the change alone, if it is asked for
abbrev pub if_asked : Bool → Planned → List Planned
if_asked is_asked change = if is_asked then change ∷ [] else []

-- the change to a value, if there is one
abbrev pub if_some : (ℕ → Planned) → Option ℕ → List Planned
if_some change None = []
if_some change (Some value) = change value ∷ []

-- an entry becomes active, or inactive, if it is to become one of them
abbrev pub switches : ℕ → Option Bool → List Planned
switches entry None = []
switches entry (Some true) = Activate entry ∷ []
switches entry (Some false) = Deactivate entry ∷ []

-- what is asked of the entry that is named: nothing if none is
abbrev pub entry_changes : Option ℕ → Bool → Option Bool → List Planned
entry_changes None delete active = []
entry_changes (Some entry) delete active = if_asked delete (Delete entry) ++ switches entry active

-- of BootOrder: it is taken out, it is set, and repeated numbers are taken out of it
abbrev pub order_changes : Bool → Bool → Bool → List Planned
order_changes delete set repeats = if_asked delete DeleteOrder ++ (if_asked set Order ++ if_asked repeats RemoveRepeats)

abbrev pub planned_of : Asked → List Planned
planned_of asked =
    entry_changes asked.entry asked.delete asked.active
    ++ (if_asked asked.create Create
    ++ (order_changes asked.delete_order (is_some asked.order) asked.remove_repeats
    ++ (if_asked asked.delete_next DeleteNext
    ++ (if_asked asked.delete_timeout DeleteTimeout
    ++ (if_some Next asked.next ++ if_some Timeout asked.timeout)))))
