-- The statuses of calls.
use Rattle.std.specs.Prelude.{◌≡◌, ◌⊎◌, ℕ}

abbrev pub done : ℕ
done = 0

abbrev pub refused : ℕ
refused = 1

abbrev pub no_room : ℕ
no_room = 2

abbrev pub absent : ℕ
absent = 3

abbrev pub no_memory : ℕ
no_memory = 4

abbrev pub closed : ℕ
closed = 5

abbrev pub bad_size : ℕ
bad_size = 6

-- ---- which statuses a call answers

-- one that reads and takes no memory
abbrev pub IsReadStatus : ℕ → Type 0
IsReadStatus status = (status ≡ done) ⊎ (status ≡ refused)

-- one that takes memory
abbrev pub IsMakeStatus : ℕ → Type 0
IsMakeStatus status = IsReadStatus status ⊎ (status ≡ no_memory)

-- one that gives bytes or numbers
abbrev pub IsGiveStatus : ℕ → Type 0
IsGiveStatus status = IsMakeStatus status ⊎ (status ≡ no_room)

-- one that looks for a name
abbrev pub IsFindStatus : ℕ → Type 0
IsFindStatus status = IsGiveStatus status ⊎ (status ≡ absent)
