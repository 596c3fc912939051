-- Frames of what C asks for.
use Rattle.std.specs.Prelude.{◌≡◌, ◌≢◌, ◌⊎◌, ℕ, ◌<◌, ◌≤◌, List, length}
use Rattle.uefi_option.specs.declared.fault.OptionFault.{OptionFault}
use Rattle.uefi_option.specs.LoadOption.{OptionParts, SpellsOption}
use Rattle.uefi_option.specs.Fault.{IsFirstFault}
use Rattle.boot_requests.specs.declared.fault.FrameFault.{FrameFault}
use Rattle.boot_requests.specs.declared.fault.FrameFault.TheVariants as fault
use Rattle.boot_requests.specs.declared.request.Request.{Request}
use Rattle.boot_requests.specs.declared.request.Request.TheVariants as request
use Rattle.boot_requests.specs.Limits.{payload_max, no_number}
use Rattle.boot_requests.specs.Request.{payload_of}
use Rattle.boot_requests.specs.Frame.{SpellsFrame}
use Rattle.bootkeep_c.specs.declared.frame.Asked.{Asked}
use Rattle.bootkeep_c.specs.declared.frame.Asked.TheVariants as asked
use Rattle.bootkeep_c.specs.declared.failure.Failure.{Failure}
use Rattle.bootkeep_c.specs.Refusals.{bare, option_failure, frame_failure}

-- the number by which C names a kind of request: the byte that its frames have
abbrev pub asked_number : Asked → ℕ
asked_number asked.Add = 1
asked_number asked.Replace = 2
asked_number asked.Remove = 3
asked_number asked.Order = 4
asked_number asked.Next = 5
asked_number asked.AddFree = 6
asked_number asked.AddFirst = 7
asked_number asked.First = 8

-- the request of this kind with this entry, the option of these bytes, or this order: it has what its kind takes
abbrev pub AsksFor : Asked → ℕ → List ℕ → List ℕ → Request → Type 0
AsksFor asked.Add entry bytes order made = (option : OptionParts) × SpellsOption bytes option × (made ≡ request.Add entry option)
AsksFor asked.Replace entry bytes order made =
    (option : OptionParts) × SpellsOption bytes option × (made ≡ request.Replace entry option)
AsksFor asked.Remove entry bytes order made = made ≡ request.Remove entry
AsksFor asked.Order entry bytes order made = made ≡ request.Order order
AsksFor asked.Next entry bytes order made = made ≡ request.Next entry
AsksFor asked.AddFree entry bytes order made = (option : OptionParts) × SpellsOption bytes option × (made ≡ request.AddFree option)
AsksFor asked.AddFirst entry bytes order made = (option : OptionParts) × SpellsOption bytes option × (made ≡ request.AddFirst option)
AsksFor asked.First entry bytes order made = made ≡ request.First entry

-- the kind takes an option, and the bytes have this first fault of one
abbrev pub HasBadOption : Asked → List ℕ → OptionFault → Type 0
HasBadOption asked.Add bytes option_fault = IsFirstFault bytes option_fault
HasBadOption asked.Replace bytes option_fault = IsFirstFault bytes option_fault
HasBadOption asked.Remove bytes option_fault = ⊥
HasBadOption asked.Order bytes option_fault = ⊥
HasBadOption asked.Next bytes option_fault = ⊥
HasBadOption asked.AddFree bytes option_fault = IsFirstFault bytes option_fault
HasBadOption asked.AddFirst bytes option_fault = IsFirstFault bytes option_fault
HasBadOption asked.First bytes option_fault = ⊥

-- the bytes are the frame of what is asked for
pub record IsFrameOf (number kind entry : ℕ) (option order bytes : List ℕ) : Type 0 where
  pub what : Asked
  pub made : Request
  pub kind_is : asked_number what ≡ kind
  pub asks : AsksFor what entry option order made
  pub spelled : SpellsFrame bytes number made

-- a request with this number has no frame, for this
abbrev pub HasNoFrame : ℕ → Request → FrameFault → Type 0
HasNoFrame number made fault.TooLong = payload_max < length (payload_of made)
HasNoFrame number made fault.BadNumber = (length (payload_of made) ≤ payload_max) × (number ≡ no_number)
HasNoFrame number made _ = ⊥

-- the request that is asked for has no frame, for this
pub record AsksForNoFrame (number kind entry : ℕ) (option order : List ℕ) (why : FrameFault) : Type 0 where
  pub what : Asked
  pub made : Request
  pub kind_is : asked_number what ≡ kind
  pub asks : AsksFor what entry option order made
  pub none : HasNoFrame number made why

-- Why there is no frame: no kind has this number, or the option is none, or the request has no frame.
abbrev pub IsFrameFailure : ℕ → ℕ → ℕ → List ℕ → List ℕ → Failure → Type 0
IsFrameFailure number kind entry option order failed =
    (((what : Asked) → asked_number what ≢ kind) × (failed ≡ bare 0x0806))
    ⊎ (((what : Asked) × (why : OptionFault) × (asked_number what ≡ kind) × HasBadOption what option why
    × (failed ≡ option_failure why))
    ⊎ ((why : FrameFault) × AsksForNoFrame number kind entry option order why × (failed ≡ frame_failure why)))
