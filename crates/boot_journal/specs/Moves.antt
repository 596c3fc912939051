-- Where a cut comes: after a number of moves, each of which is a change of one variable or replaces the journal.
use Rattle.std.specs.Prelude.{◌≡◌, ℕ, zero, suc, List, [], ◌∷◌, Option, Some, None}
use Rattle.uefi_vars.specs.Vars.{Variables}
use Rattle.uefi_vars.specs.BootChange.{ChangeParts}
use Rattle.boot_journal.specs.Journal.{JournalParts, PendingParts, Makes, TakesBack, idle, due, turned}
use Rattle.boot_journal.specs.Store.{Store, with_made, with_journal, journal_to}

-- the changes one by one, and then this journal
abbrev pub cut_making : ℕ → List ChangeParts → JournalParts → Store → Store
cut_making zero changes last s = s
cut_making (suc moves) [] last s = with_journal last s
cut_making (suc moves) (change ∷ changes) last s = cut_making moves changes last (with_made (change ∷ []) s)

-- this journal, then these changes, and then that journal
abbrev pub cut_carrying_by : JournalParts → List ChangeParts → JournalParts → ℕ → Store → Store
cut_carrying_by journal changes last zero s = s
cut_carrying_by journal changes last (suc moves) s = cut_making moves changes last (with_journal journal s)

-- this journal, then the changes that it has due, and then one without
abbrev pub cut_carrying : List ℕ → JournalParts → ℕ → Store → Store
cut_carrying boot journal moves s = cut_carrying_by journal (due boot journal.pending) (idle journal.state) moves s

-- a settling: with nothing to be done, nothing is moved
abbrev pub cut_settling_by : Option PendingParts → List ℕ → ℕ → Store → Store
cut_settling_by None boot moves s = s
cut_settling_by (Some pending) boot moves s = cut_making moves (due boot (Some pending)) (idle s.journal.state) s

-- a settling, cut off after so many moves
abbrev pub cut_settling : List ℕ → ℕ → Store → Store
cut_settling boot moves s = cut_settling_by s.journal.pending boot moves s

-- A settling that fails after so many moves, and whose taking back is cut off after so many. What is being taken back
-- already goes on being so.
abbrev pub cut_undoing_by : Option PendingParts → List ℕ → ℕ → ℕ → Store → Store
cut_undoing_by None boot moves back s = s
cut_undoing_by (Some (Makes former changes began)) boot moves back s =
    cut_carrying boot (turned s.journal) back (cut_settling boot moves s)
cut_undoing_by (Some (TakesBack changes began)) boot moves back s = cut_settling boot moves s

-- a settling that fails after so many moves, and whose taking back is cut off after so many
abbrev pub cut_undoing : List ℕ → ℕ → ℕ → Store → Store
cut_undoing boot moves back s = cut_undoing_by s.journal.pending boot moves back s

-- an update that fails after so many moves, and whose taking back is cut off after so many
abbrev pub cut_failing : List ℕ → JournalParts → ℕ → ℕ → Store → Store
cut_failing boot journal moves back s = cut_carrying boot (turned journal) back (cut_carrying boot journal moves s)

-- ---- whole

abbrev pub settled_by : Option PendingParts → List ℕ → Store → Store
settled_by None boot s = s
settled_by (Some pending) boot s = with_journal (idle s.journal.state) (with_made (due boot (Some pending)) s)

-- after a whole settling
abbrev pub settled : List ℕ → Store → Store
settled boot s = settled_by s.journal.pending boot s

-- ---- as relations

-- the second store is one after some number of moves: of changes, of changes with their journal, of a settling, of an
-- update
abbrev pub IsMaking : List ChangeParts → JournalParts → Store → Store → Type 0
IsMaking changes last s c = (moves : ℕ) × (c ≡ cut_making moves changes last s)

abbrev pub IsCarrying : JournalParts → List ChangeParts → JournalParts → Store → Store → Type 0
IsCarrying journal changes last s c = (moves : ℕ) × (c ≡ cut_carrying_by journal changes last moves s)

abbrev pub IsSettling : List ℕ → Store → Store → Type 0
IsSettling boot s c = (moves : ℕ) × (back : ℕ) × (c ≡ cut_undoing boot moves back s)

abbrev pub IsUpdating : List ℕ → Variables → Store → Store → Type 0
IsUpdating boot to s c = (moves : ℕ) × (back : ℕ) × (c ≡ cut_failing boot (journal_to boot s to) moves back s)
