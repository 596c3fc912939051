-- What a call tells in a buffer of the caller and in its length.
use Rattle.std.specs.Prelude.{◌≡◌, ◌⊎◌, ℕ, ◌<◌, ◌≤◌, List, ◌++◌, length, drop}
use Rattle.bootkeep_c.specs.Status.{done, no_room, no_memory}

-- the answer is at the front of the buffer, the rest is as it was, and the length is the answer's
pub record IsInFront {A : Type 0} (answer old new : List A) (len : ℕ) : Type 0 where
  pub fits : length answer ≤ length old
  pub front : new ≡ answer ++ drop (length answer) old
  pub told : len ≡ length answer

-- the buffer is too short for the answer and as it was, and the length is the answer's
pub record IsTooLong {A : Type 0} (answer old new : List A) (len : ℕ) : Type 0 where
  pub over : length old < length answer
  pub kept : new ≡ old
  pub told : len ≡ length answer

-- the buffer and its length are as they were
pub record IsKept {A : Type 0} (old new : List A) (old_len len : ℕ) : Type 0 where
  pub buffer : new ≡ old
  pub told : len ≡ old_len

-- the answer is given, or there is no room for it
abbrev pub Gives : {A : Type 0} → ℕ → List A → List A → List A → ℕ → Type 0
Gives status answer old new len =
    ((status ≡ done) × IsInFront answer old new len) ⊎ ((status ≡ no_room) × IsTooLong answer old new len)

-- the same, unless memory was refused
abbrev pub GivesUnless : {A : Type 0} → ℕ → List A → List A → List A → ℕ → ℕ → Type 0
GivesUnless status answer old new old_len len =
    Gives status answer old new len ⊎ ((status ≡ no_memory) × IsKept old new old_len len)
