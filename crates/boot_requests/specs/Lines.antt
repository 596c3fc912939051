-- For private functions that read a script: what becomes of its events and their places with one more line.
use Rattle.std.specs.Prelude.{◌≡◌, ℕ, List, [], ◌∷◌, ◌++◌}
use Rattle.std.specs.List.{AllByRecursion}
use Rattle.boot_requests.specs.declared.event.Event.{Event}
use Rattle.boot_requests.specs.Seen.{IsEvent}
use Rattle.boot_requests.specs.Script.{TellOf, line_numbers}

-- the events that the line of this number tells of, at most one, come after those that were there, and so does its place
pub record AppendsEvents (line : List ℕ) (number : ℕ) (old new : List Event) (places more : List ℕ) : Type 0 where
  pub events : List Event
  pub told : TellOf (line ∷ []) events
  pub valid : AllByRecursion IsEvent events
  pub items : new ≡ old ++ events
  pub places_are : more ≡ places ++ line_numbers number (line ∷ [])
