-- Streams: frames one after the other, each of which is delivered.
use Rattle.std.specs.Prelude.{◌≡◌, ◌≢◌, ℕ, ◌+◌, List, [], ◌∷◌, length, map, Option, Some, None}
use Rattle.std.specs.List.{flat_map}
use Rattle.boot_requests.specs.declared.event.Event.{Event}
use Rattle.boot_requests.specs.declared.event.Event.TheVariants as event
use Rattle.boot_requests.specs.declared.fault.FeedFault.{FeedFault}
use Rattle.boot_requests.specs.declared.fault.FeedFault.TheVariants as feeding
use Rattle.boot_requests.specs.declared.script_fault.ScriptFault.{ScriptFault}
use Rattle.boot_requests.specs.declared.script_fault.ScriptFault.TheVariants as fault
use Rattle.boot_requests.specs.Stream.{Cut, IsCut}

-- the bytes are deliveries alone, and the events are these, in their order
abbrev pub IsStream : List ℕ → List Event → Type 0
IsStream stream events =
    (cut : Cut) × IsCut stream cut × (cut.rest ≡ []) × (events ≡ map (λ delivery. event.Deliver delivery) cut.deliveries)

-- The fault is that of a stream, by cases: the first header that is at fault, or how many bytes are left of a delivery
-- that isn't whole.
abbrev pub IsStreamFault : List ℕ → ScriptFault → Type 0
IsStreamFault stream (fault.Stream feed_fault) = (cut : Cut) × IsCut stream cut × (cut.fault ≡ Some feed_fault)
IsStreamFault stream (fault.Rest count) =
    (cut : Cut) × IsCut stream cut × (cut.fault ≡ None) × (count ≡ length cut.rest) × (count ≢ 0)
IsStreamFault stream _ = ⊥

-- what a fault for which a stream can't be cut is to a script
abbrev pub script_fault_of : FeedFault → ScriptFault
script_fault_of feeding.OutOfMemory = fault.OutOfMemory
script_fault_of feed_fault = fault.Stream feed_fault

-- behind its deliveries a stream that is cut so has this fault, or nothing
abbrev pub EndsIn : Cut → Option ScriptFault → Type 0
EndsIn cut None = cut.rest ≡ []
EndsIn cut (Some (fault.Stream feed_fault)) = cut.fault ≡ Some feed_fault
EndsIn cut (Some (fault.Rest count)) = (cut.fault ≡ None) × (count ≡ length cut.rest) × (count ≢ 0)
EndsIn cut (Some _) = ⊥

-- where each of the frames begins, if the first one begins here
abbrev pub frame_offsets : ℕ → List (List ℕ) → List ℕ
frame_offsets start [] = []
frame_offsets start (frame ∷ frames) = start ∷ frame_offsets (start + length frame) frames

-- What a stream is read as: its deliveries, where each of them begins, where they end, and the fault that is there.
pub record IsStreamList (stream : List ℕ) (events : List Event) (places : List ℕ) (end : ℕ) (found : Option ScriptFault) : Type 0 where
  pub cut : Cut
  pub is : IsCut stream cut
  pub events_are : events ≡ map (λ delivery. event.Deliver delivery) cut.deliveries
  pub places_are : places ≡ frame_offsets 0 cut.deliveries
  pub end_is : end ≡ length (flat_map (λ delivery. delivery) cut.deliveries)
  pub fault : EndsIn cut found
