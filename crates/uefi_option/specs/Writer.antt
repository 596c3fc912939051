-- For private functions of the writer: what an unfinished write leaves.
use Rattle.std.specs.Prelude.{◌≡◌, List, ◌++◌}

-- new is old with something after it
abbrev pub Extends : {X : Type 0} → List X → List X → Type 0
Extends {X} old new = (more : List X) × (new ≡ old ++ more)
