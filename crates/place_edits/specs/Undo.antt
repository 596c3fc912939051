-- Which change an undoing undoes, of those that are kept of a machine, and what it brings back. The last change comes first.
use Rattle.std.specs.Prelude.{◌≡◌, ◌≢◌, ◌⊎◌, ℕ, ◌<◌, Bool, true, false, List, length, Some, Contains}
use Rattle.std.specs.FinMap.{get}
use Rattle.std.specs.List.{slice_get}
use Rattle.uefi_vars.specs.BootChange.{is_boot_name}
use Rattle.uefi_vars.specs.Vars.{Variables}
use Rattle.messages.specs.declared.failure.Failure.TheVariants.{Memory}
use Rattle.boot_history.specs.declared.history.KeptRecord.{KeptRecord}
use Rattle.change_records.specs.declared.record.Record.{Record}
use Rattle.change_records.specs.declared.stands.Standing.{Standing}
use Rattle.change_records.specs.declared.stands.Standing.TheVariants as standing
use Rattle.change_records.specs.Back.{IsWanted}
use Rattle.change_records.specs.BootPart.{IsStanding, as_used}
use Rattle.change_records.specs.Record.{record_parts}
use Rattle.boot_edits.specs.Restore.{IsRestored}
use Rattle.place_edits.specs.Brought.{IsBrought}
use Rattle.place_edits.specs.declared.takeable.Takeable.{Takeable}
use Rattle.place_edits.specs.declared.undo_run.UndoFault.{UndoFault}
use Rattle.place_edits.specs.declared.undo_run.UndoFault.TheVariants.{Nothing, Changed, Failure}
use Rattle.place_edits.specs.declared.undo_run.Undone.{Undone}

-- ---- how a change stands beside variables

abbrev pub Stands : Record → Variables → Standing → Type 0
Stands change vars is = IsStanding (record_parts change) vars is

-- ---- what is brought back

-- what undoing the change brings back, where these variables are now
pub record IsBroughtBack (left_out : List (List ℕ)) (change : Record) (now : Variables) (back : Takeable) : Type 0 where
  pub wanted : Variables
  pub is : IsWanted (record_parts change) now wanted
  pub brought : IsBrought left_out now wanted back

-- ---- which change is undone

-- of the boot manager's variables those are there, but perhaps for a BootNext, which a start uses
abbrev pub IsThere : Variables → Variables → Type 0
IsThere now back = (name : List ℕ) → is_boot_name name ≡ true → get now name ≡ get (as_used now back) name

-- what undoing the change brings back is there already: it was undone, and its record left
abbrev pub IsUndone : List (List ℕ) → Variables → Record → Type 0
IsUndone left_out vars change = (back : Takeable) × IsBroughtBack left_out change vars back × IsThere vars back.vars

-- something of it isn't there
abbrev pub IsNotUndone : List (List ℕ) → Variables → Record → Type 0
IsNotUndone left_out vars change = (back : Takeable) × IsBroughtBack left_out change vars back × (IsThere vars back.vars → ⊥)

-- something else has changed since
abbrev pub IsOther : List (List ℕ) → Variables → Record → Type 0
IsOther left_out vars change = Stands change vars standing.Changed × IsNotUndone left_out vars change

-- They are those after the change, or something else has changed, and it is undone all the same.
abbrev pub CanBeUndone : Bool → List (List ℕ) → Variables → Record → Type 0
CanBeUndone force left_out vars change = Stands change vars standing.Unchanged ⊎ ((force ≡ true) × IsOther left_out vars change)

-- it wasn't made, or it was undone and its record left
abbrev pub IsPassedOver : List (List ℕ) → Variables → Record → Type 0
IsPassedOver left_out vars change =
    Stands change vars standing.NotMade ⊎ (Stands change vars standing.Changed × IsUndone left_out vars change)

-- each change before this place is passed over
abbrev pub ArePassedOver : List KeptRecord → List (List ℕ) → Variables → ℕ → Type 0
ArePassedOver changes left_out vars place =
    (later : ℕ) → later < place → (kept : KeptRecord) → slice_get changes later ≡ Some kept → IsPassedOver left_out vars kept.«record»

-- it is one of the changes, and all later ones are passed over
pub record IsLast (changes : List KeptRecord) (left_out : List (List ℕ)) (vars : Variables) (kept : KeptRecord) : Type 0 where
  pub place : ℕ
  pub here : slice_get changes place ≡ Some kept
  pub later : ArePassedOver changes left_out vars place

-- ---- what an undoing leads to

-- the change of this number is undone, and what was there before it and what is brought back of that are told
abbrev pub Undoes : List (List ℕ) → Variables → Undone → KeptRecord → Type 0
Undoes left_out now undone kept =
    (undone.number ≡ kept.number) × (undone.before ≡ kept.«record».before) × IsBroughtBack left_out kept.«record» now undone.back

-- the last change is undone, and can be
abbrev pub IsUndoing : Bool → List KeptRecord → List (List ℕ) → Variables → Undone → Type 0
IsUndoing force changes left_out now undone =
    (kept : KeptRecord) × IsLast changes left_out now kept × CanBeUndone force left_out now kept.«record» × Undoes left_out now undone kept

-- ---- why nothing is undone

-- something fails
abbrev pub IsFailure : UndoFault → Type 0
IsFailure Nothing = ⊥
IsFailure (Changed since) = ⊥
IsFailure (Failure failure) = failure ≢ Memory

-- The change isn't undone for this fault: something else has changed since; or something fails, of undoing it, or of taking
-- its record away, which a dry run doesn't.
abbrev pub IsChangeFault : Bool → Bool → List (List ℕ) → Variables → KeptRecord → UndoFault → Type 0
IsChangeFault force dry_run left_out vars kept Nothing = ⊥
IsChangeFault force dry_run left_out vars kept (Changed since) =
    (force ≡ false) × IsOther left_out vars kept.«record»
    × (since.now ≡ vars) × (since.after ≡ kept.«record».after) × (since.time ≡ kept.«record».time)
IsChangeFault force dry_run left_out vars kept (Failure failure) =
    (failure ≢ Memory)
    × (CanBeUndone force left_out vars kept.«record» ⊎ ((dry_run ≡ false) × IsPassedOver left_out vars kept.«record»))

-- none is undone: all are passed over, or the last one that isn't has a fault
abbrev pub IsUndoFault : Bool → Bool → List KeptRecord → List (List ℕ) → Variables → UndoFault → Type 0
IsUndoFault force dry_run changes left_out vars fault =
    ((fault ≡ Nothing) × ArePassedOver changes left_out vars (length changes))
    ⊎ ((kept : KeptRecord) × IsLast changes left_out vars kept × IsChangeFault force dry_run left_out vars kept fault)

-- ---- for private functions

-- how an undoing counts a change: one that was undone as not made
abbrev pub IsCounted : List (List ℕ) → Record → Variables → Standing → Type 0
IsCounted left_out change vars standing.Unchanged = Stands change vars standing.Unchanged
IsCounted left_out change vars standing.NotMade = IsPassedOver left_out vars change
IsCounted left_out change vars standing.Changed = IsOther left_out vars change

-- ---- what is undone of those that are kept of a machine

-- The undoing is one of some changes that are kept, and brings back what it tells.
abbrev pub IsUndoingSome : Bool → List (List ℕ) → Variables → Variables → Undone → Type 0
IsUndoingSome force left_out from to undone =
    (changes : List KeptRecord) × IsUndoing force changes left_out from undone × IsRestored undone.back.vars from to

-- What is kept can't be read, or none of it is undone.
abbrev pub IsSomeUndoFault : Bool → Bool → List (List ℕ) → Variables → UndoFault → Type 0
IsSomeUndoFault force dry_run left_out vars fault =
    IsFailure fault ⊎ ((changes : List KeptRecord) × IsUndoFault force dry_run changes left_out vars fault)
