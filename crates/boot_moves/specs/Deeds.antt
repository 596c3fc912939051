-- Moves, what became of them, and what that leaves.
use Rattle.std.specs.Prelude.{ℕ, ◌+◌, List, [], ◌∷◌, ◌++◌, map, Option, Some, None}
use Rattle.std.specs.String.{string_bytes}
use Rattle.uefi_vars.specs.Vars.{Variables}
use Rattle.uefi_vars.specs.NameChanges.{with_data}
use Rattle.boot_journal.specs.Journal.{JournalParts}
use Rattle.boot_journal.specs.Store.{Store}
use Rattle.boot_moves.specs.declared.parts.Answer.{Answer}
use Rattle.boot_moves.specs.declared.parts.Answer.TheVariants.{Done, Refused, Perhaps}
use Rattle.boot_moves.specs.declared.parts.Move.{Move}
use Rattle.boot_moves.specs.declared.parts.Move.TheVariants.{Set, Delete, Replace}
use Rattle.boot_moves.specs.declared.parts.Told.{Told}

-- a move, without where it lies in memory
pub data Act : Type 0 where
  -- the variable of this name is set to this, or deleted
  Sets : List ℕ → Option (List ℕ) → Act
  -- the journal is replaced by this one
  Replaces : JournalParts → Act

-- a move, and what became of it
pub record Deed : Type 0 where
  pub act : Act
  pub answer : Answer

abbrev pub deed : Act → Answer → Deed
deed act answer = record { act = act; answer = answer }

abbrev pub act_of : Move → Act
act_of (Set name kept) = Sets (string_bytes name) (Some kept.items)
act_of (Delete name) = Sets (string_bytes name) None
act_of (Replace journal) = Replaces journal

abbrev pub deed_of : Told → Deed
deed_of told = deed (act_of told.asked) told.answer

abbrev pub deeds_of : List Told → List Deed
deeds_of told = map deed_of told

-- these, and then that this became of the move that is asked for, if one is
abbrev pub told_then : List Deed → Option Act → Answer → List Deed
told_then deeds None answer = deeds
told_then deeds (Some act) answer = deeds ++ deed act answer ∷ []

-- ---- what they leave

-- the variables and the journal after a move that is made
abbrev pub vars_did : Act → Variables → Variables
vars_did (Sets name kept) vars = with_data vars name kept
vars_did (Replaces journal) vars = vars

abbrev pub journal_did : Act → JournalParts → JournalParts
journal_did (Sets name kept) journal = journal
journal_did (Replaces other) journal = other

abbrev pub did : Act → Store → Store
did act s = record { variables = vars_did act s.variables; journal = journal_did act s.journal }

-- and after a move of which this became: one that is perhaps made counts as made
abbrev pub vars_by : Answer → Act → Variables → Variables
vars_by Done act vars = vars_did act vars
vars_by (Refused reason) act vars = vars
vars_by (Perhaps reason) act vars = vars_did act vars

abbrev pub journal_by : Answer → Act → JournalParts → JournalParts
journal_by Done act journal = journal_did act journal
journal_by (Refused reason) act journal = journal
journal_by (Perhaps reason) act journal = journal_did act journal

abbrev pub after : Deed → Store → Store
after d s = record { variables = vars_by d.answer d.act s.variables; journal = journal_by d.answer d.act s.journal }

-- after all of them, the first one first
abbrev pub after_all : List Deed → Store → Store
after_all [] s = s
after_all (d ∷ ds) s = after_all ds (after d s)

-- after each of them
abbrev pub past : List Deed → Store → List Store
past [] s = []
past (d ∷ ds) s = after d s ∷ past ds (after d s)

-- how many were refused
abbrev pub refusals_by : Answer → ℕ
refusals_by Done = 0
refusals_by (Refused reason) = 1
refusals_by (Perhaps reason) = 1

abbrev pub refusals : List Deed → ℕ
refusals [] = 0
refusals (d ∷ ds) = refusals_by d.answer + refusals ds
