-- What a cut at any moment leaves.
use Rattle.std.specs.Prelude.{◌≡◌, ◌⊎◌, ◌++◌, List, [], ◌∷◌}
use Rattle.std.specs.List.{AllByRecursion}
use Rattle.boot_journal.specs.Store.{Store}

-- a cut at any moment since the old ones leaves what is so
pub record Leaves (Is : Store → Type 0) (old new : List Store) : Type 0 where
  pub since : List Store
  pub is : new ≡ old ++ since
  pub each : AllByRecursion Is since

-- the last moment is that of this store
abbrev pub IsNow : Store → List Store → Type 0
IsNow s history = (earlier : List Store) × (history ≡ earlier ++ s ∷ [])

-- the last moment is that of what is there now, or nothing happened
abbrev pub IsRecorded : Store → Store → List Store → List Store → Type 0
IsRecorded before now old new = IsNow now new ⊎ ((now ≡ before) × (new ≡ old))
