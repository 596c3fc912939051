-- What sources and sinks do with bytes, if these are known.
use Rattle.std.specs.Prelude.{◌≡◌, ℕ, ◌<◌, ◌≤◌, List, ◌++◌, length, take, Option, MatchOption}
use Rattle.std.specs.Io.KnownBytes.{Keeps, Appends, Consumes, IsAtEnd}

-- A read filled the start of the buffer with as many of the bytes that were left as it says: none only at their end, or
-- if the buffer has no room. One that failed took none.
abbrev pub Reads : Option (List ℕ) → Option (List ℕ) → Option ℕ → List ℕ → Type 0
Reads old new result buffer = MatchOption result (Keeps old new)
    (λ count. Consumes old new (take count buffer) × (count ≡ 0 → 0 < length buffer → IsAtEnd new))

-- A write appended as many of the first bytes as it says: some if there are any. One that failed appended none.
abbrev pub Writes : Option (List ℕ) → Option (List ℕ) → Option ℕ → List ℕ → Type 0
Writes old new result bytes = MatchOption result (Keeps old new)
    (λ count. Appends old new (take count bytes) × (0 < length bytes → 0 < count))

-- what was left was this text, and nothing is left
abbrev pub ReadsAll : Option (List ℕ) → Option (List ℕ) → List ℕ → Type 0
ReadsAll old new text = Consumes old new text × IsAtEnd new

-- this many of the bytes that were left were taken
abbrev pub Takes : Option (List ℕ) → Option (List ℕ) → ℕ → Type 0
Takes old new count = (taken : List ℕ) × Consumes old new taken × (length taken ≡ count)

-- at most this many of the bytes that were left were taken
abbrev pub TakesAtMost : Option (List ℕ) → Option (List ℕ) → ℕ → Type 0
TakesAtMost old new most = (taken : List ℕ) × Consumes old new taken × (length taken ≤ most)

-- a prefix of the bytes was appended
abbrev pub AppendsFront : Option (List ℕ) → Option (List ℕ) → List ℕ → Type 0
AppendsFront old new bytes = (front : List ℕ) × (rest : List ℕ) × (bytes ≡ front ++ rest) × Appends old new front
