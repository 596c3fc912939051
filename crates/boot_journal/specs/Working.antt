-- For private functions: all that it takes to carry a journal out.
use Rattle.std.specs.Prelude.{◌≡◌, ℕ, List, if◌then◌else◌, true}
use Rattle.boot_journal.specs.declared.work.Work.{Work}
use Rattle.boot_journal.specs.Journal.{JournalParts, idle, due, is_making}
use Rattle.boot_journal.specs.Store.{Store, with_made, with_journal}
use Rattle.boot_journal.specs.Moves.{cut_making, cut_carrying_by}

pub record IsWork (boot : List ℕ) (journal : JournalParts) (work : Work) : Type 0 where
  pub journal_is : work.journal ≡ journal
  pub due_is : work.due.items ≡ due boot journal.pending
  pub last_is : work.last ≡ idle journal.state

-- where a cut comes: the work is done, and if it is of changes that are made, and fails, it is taken back
abbrev pub cut_going_on : Work → Work → ℕ → ℕ → Store → Store
cut_going_on work back moves undone s =
    let cut = cut_making moves work.due.items work.last s in
    if is_making work.journal.pending then cut_carrying_by back.journal back.due.items back.last undone cut else cut

abbrev pub IsGoingOn : Work → Work → Store → Store → Type 0
IsGoingOn work back s c = (moves : ℕ) × (undone : ℕ) × (c ≡ cut_going_on work back moves undone s)

-- it failed after so many moves, and was taken back
abbrev pub IsTakenBack : Work → Work → Store → Store → Type 0
IsTakenBack work back s c =
    (is_making work.journal.pending ≡ true)
    × (moves : ℕ) × (c ≡ with_journal back.last (with_made back.due.items (cut_making moves work.due.items work.last s)))

-- where a cut comes: the journal is carried out, and if that fails, it is taken back
abbrev pub IsUndertaking : Work → Work → Store → Store → Type 0
IsUndertaking work back s c = (moves : ℕ) × (undone : ℕ) × (c ≡
    cut_carrying_by back.journal back.due.items back.last undone (cut_carrying_by work.journal work.due.items work.last moves s))

-- it failed after so many moves, and was taken back
abbrev pub IsGivenUp : Work → Work → Store → Store → Type 0
IsGivenUp work back s c = (moves : ℕ) × (c ≡
    with_journal back.last (with_made back.due.items (cut_carrying_by work.journal work.due.items work.last moves s)))
