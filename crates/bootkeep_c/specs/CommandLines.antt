-- The words of a command line, each ended by a zero.
use Rattle.std.specs.Prelude.{◌≡◌, ◌≢◌, ◌⊎◌, ℕ, List, [], ◌∷◌, ◌++◌, length, IsUtf8}
use Rattle.std.specs.List.{AllByRecursion, flat_map}
use Rattle.change_records.specs.Fault.{IsFirstBadWord}
use Rattle.bootkeep_c.specs.declared.failure.Failure.{Failure}
use Rattle.bootkeep_c.specs.Refusals.{at_place}

abbrev pub ended : List ℕ → List ℕ
ended word = word ++ 0 ∷ []

-- none of the bytes is zero
abbrev pub HasNoZero : List ℕ → Type 0
HasNoZero bytes = AllByRecursion (λ (byte : ℕ). byte ≢ 0) bytes

-- the bytes, all of them, are these words
pub record AreEnded (bytes : List ℕ) (words : List (List ℕ)) : Type 0 where
  pub whole : AllByRecursion HasNoZero words
  pub parts : bytes ≡ flat_map ended words

-- after whole words there are bytes of one that no zero ends, which begins at this place
pub record HasOpenWord (bytes : List ℕ) (place : ℕ) : Type 0 where
  pub words : List (List ℕ)
  pub rest : List ℕ
  pub whole : AllByRecursion HasNoZero words
  pub some : rest ≢ []
  pub no_end : HasNoZero rest
  pub parts : bytes ≡ flat_map ended words ++ rest
  pub at : place ≡ length (flat_map ended words)

abbrev pub IsOpenFailure : List ℕ → Failure → Type 0
IsOpenFailure bytes failed = (place : ℕ) × HasOpenWord bytes place × (failed ≡ at_place 0x1009 place)

-- and each is UTF-8
abbrev pub AreWordsOf : List ℕ → List (List ℕ) → Type 0
AreWordsOf bytes words = AreEnded bytes words × AllByRecursion IsUtf8 words

-- why bytes aren't words: the last one is open; or, of whole ones, this is the number of the first that isn't UTF-8
abbrev pub IsWordsFailure : List ℕ → Failure → Type 0
IsWordsFailure bytes failed =
    IsOpenFailure bytes failed
    ⊎ ((words : List (List ℕ)) × (number : ℕ) × AreEnded bytes words × IsFirstBadWord words number × (failed ≡ at_place 0x1008 number))

-- ---- for private functions

-- the word is at the start of the bytes, and these are after the zero that ends it
pub record SplitsWord (bytes word behind : List ℕ) : Type 0 where
  pub whole : HasNoZero word
  pub parts : bytes ≡ ended word ++ behind
