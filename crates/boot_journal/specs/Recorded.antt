-- What was done to a machine, from the first on.
use Rattle.std.specs.Prelude.{◌≡◌, ℕ, ◌+◌, Bool, true, false, List, [], ◌∷◌, ◌++◌, Option}
use Rattle.uefi_vars.specs.BootChange.{ChangeParts}
use Rattle.boot_journal.specs.Asked.{Ask, ToMake, HasMade, ToReplace, HasReplaced, and_then}
use Rattle.boot_journal.specs.Journal.{JournalParts}
use Rattle.boot_journal.specs.declared.recorded.Move.{Move}
use Rattle.boot_journal.specs.declared.recorded.Move.TheVariants.{Made, Replaced, Refused}
use Rattle.boot_journal.specs.Store.{Store, with_made, with_journal}

-- the store after a move
abbrev pub moved : Store → Move → Store
moved s (Made change) = with_made (change ∷ []) s
moved s (Replaced journal) = with_journal journal s
moved s Refused = s

-- the store after all moves
abbrev pub done_to : Store → List Move → Store
done_to s [] = s
done_to s (move ∷ moves) = done_to (moved s move) moves

-- the stores after each of them
abbrev pub past : Store → List Move → List Store
past s [] = []
past s (move ∷ moves) = moved s move ∷ past (moved s move) moves

-- how many were refused
abbrev pub refusals_in : List Move → ℕ
refusals_in [] = 0
refusals_in (Made change ∷ moves) = refusals_in moves
refusals_in (Replaced journal ∷ moves) = refusals_in moves
refusals_in (Refused ∷ moves) = 1 + refusals_in moves

-- ---- what storage was asked for

-- Storage does what it is asked to, or it refuses to and, when it is asked, tells whether it has done it nevertheless.
pub data Attempt : Type 0 where
  Makes : ChangeParts → Attempt
  RefusesToMake : ChangeParts → Bool → Attempt
  Replaces : JournalParts → Attempt
  RefusesToReplace : JournalParts → Bool → Attempt

-- what it was asked then, and answered
abbrev pub asks_of : Attempt → List Ask
asks_of (Makes change) = ToMake change true ∷ []
asks_of (RefusesToMake change has) = ToMake change false ∷ HasMade change has ∷ []
asks_of (Replaces journal) = ToReplace journal true ∷ []
asks_of (RefusesToReplace journal has) = ToReplace journal false ∷ HasReplaced journal has ∷ []

-- what was done by its answers
abbrev pub moves_of : Attempt → List Move
moves_of (Makes change) = Made change ∷ []
moves_of (RefusesToMake change true) = Made change ∷ Refused ∷ []
moves_of (RefusesToMake change false) = Refused ∷ []
moves_of (Replaces journal) = Replaced journal ∷ []
moves_of (RefusesToReplace journal true) = Replaced journal ∷ Refused ∷ []
moves_of (RefusesToReplace journal false) = Refused ∷ []

-- the storage was asked for this, and no more, and the record tells what was done by its answers
pub record Tells (attempt : Attempt) (asked asked' : Option (List Ask)) (moves moves' : List Move) : Type 0 where
  pub asks : asked' ≡ and_then asked (asks_of attempt)
  pub told : moves' ≡ moves ++ moves_of attempt

-- the storage was asked for nothing, and the record tells of nothing
pub record TellsNothing (asked asked' : Option (List Ask)) (moves moves' : List Move) : Type 0 where
  pub asks : asked' ≡ asked
  pub told : moves' ≡ moves
