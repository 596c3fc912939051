-- What happened, with deliveries read.
use Rattle.std.specs.Prelude.{ℕ, List, [], ◌∷◌}
use Rattle.std.specs.List.{AllByRecursion}
use Rattle.uefi_path.specs.Row.{IsByte}
use Rattle.boot_requests.specs.declared.request.Request.{Request}
use Rattle.boot_requests.specs.declared.event.Event.{Event}
use Rattle.boot_requests.specs.declared.event.Event.TheVariants as event
use Rattle.boot_requests.specs.declared.fault.FrameFault.{FrameFault}
use Rattle.boot_requests.specs.Frame.{SpellsFrame}
use Rattle.boot_requests.specs.FrameFault.{IsFirstFault}

-- A request came with its number; bytes came that aren't a frame, with their first fault; a boot was to be prepared; a
-- plan was to be handed out; the keeper started again.
pub data Seen : Type 0 where
  Came : ℕ → Request → Seen
  Malformed : FrameFault → Seen
  Prepare : Seen
  Hand : Seen
  Restart : Seen

-- what is delivered is bytes
abbrev pub IsEvent : Event → Type 0
IsEvent (event.Deliver bytes) = AllByRecursion IsByte bytes
IsEvent event.Prepare = Unit {0}
IsEvent event.Hand = Unit {0}
IsEvent event.Restart = Unit {0}

-- the event is read as this
abbrev pub IsSeen : Event → Seen → Type 0
IsSeen (event.Deliver bytes) (Came number request) = SpellsFrame bytes number request
IsSeen (event.Deliver bytes) (Malformed fault) = IsFirstFault bytes fault
IsSeen event.Prepare Prepare = Unit {0}
IsSeen event.Hand Hand = Unit {0}
IsSeen event.Restart Restart = Unit {0}
IsSeen _ _ = ⊥

-- the events are read as these, one each
abbrev pub AreSeen : List Event → List Seen → Type 0
AreSeen [] [] = Unit {0}
AreSeen (event ∷ events) (seen ∷ later) = IsSeen event seen × AreSeen events later
AreSeen _ _ = ⊥
