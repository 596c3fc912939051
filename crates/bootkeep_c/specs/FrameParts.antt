-- The parts of a frame, as C is told.
use Rattle.std.specs.Prelude.{◌≡◌, ◌≢◌, ◌⊎◌, ℕ, ◌+◌, List, [], length}
use Rattle.uefi_option.specs.LoadOption.{option_bytes}
use Rattle.boot_requests.specs.declared.fault.FrameFault.{FrameFault}
use Rattle.boot_requests.specs.declared.request.Request.{Request}
use Rattle.boot_requests.specs.declared.request.Request.TheVariants as request
use Rattle.boot_requests.specs.Kind.{byte_of}
use Rattle.boot_requests.specs.Request.{kind_of, named_entry}
use Rattle.boot_requests.specs.Frame.{SpellsFrame}
use Rattle.boot_requests.specs.FrameFault.{IsFirstFault}
use Rattle.bootkeep_c.specs.declared.frame_parts.FrameParts.{FrameParts}
use Rattle.bootkeep_c.specs.declared.failure.Failure.{Failure}
use Rattle.bootkeep_c.specs.declared.refusal.Refusal.{Refusal}
use Rattle.bootkeep_c.specs.Status.{done, no_memory}
use Rattle.bootkeep_c.specs.Buffer.{Gives, IsKept}
use Rattle.bootkeep_c.specs.Refusals.{frame_failure, Tells}
use Rattle.bootkeep_c.specs.Plans.{number_or_none}
use Rattle.bootkeep_c.specs.Parts.{IsPartAt}

-- ---- the parts of a request

-- the number by which C names its kind: the byte that its frames have
abbrev pub request_number : Request → ℕ
request_number made = byte_of (kind_of made)

-- the numbers of an order, none of another request
abbrev pub order_of : Request → List ℕ
order_of (request.Add entry option) = []
order_of (request.Replace entry option) = []
order_of (request.Remove entry) = []
order_of (request.Order numbers) = numbers
order_of (request.Next entry) = []
order_of (request.AddFree option) = []
order_of (request.AddFirst option) = []
order_of (request.First entry) = []

-- the part is in the frame at this place, has so many bytes, and is the last of it
pub record IsEndAt (frame : List ℕ) (at len : ℕ) (part : List ℕ) : Type 0 where
  pub is : IsPartAt frame at len part
  pub end : at + len ≡ length frame

-- neither a place nor bytes
abbrev pub IsNowhere : ℕ → ℕ → Type 0
IsNowhere at len = (at ≡ 0) × (len ≡ 0)

-- The option of the request is in its frame at this place, and has so many bytes.
abbrev pub HasOptionAt : List ℕ → ℕ → ℕ → Request → Type 0
HasOptionAt frame at len (request.Add entry option) = IsEndAt frame at len (option_bytes option)
HasOptionAt frame at len (request.Replace entry option) = IsEndAt frame at len (option_bytes option)
HasOptionAt frame at len (request.Remove entry) = IsNowhere at len
HasOptionAt frame at len (request.Order numbers) = IsNowhere at len
HasOptionAt frame at len (request.Next entry) = IsNowhere at len
HasOptionAt frame at len (request.AddFree option) = IsEndAt frame at len (option_bytes option)
HasOptionAt frame at len (request.AddFirst option) = IsEndAt frame at len (option_bytes option)
HasOptionAt frame at len (request.First entry) = IsNowhere at len

-- ---- what is read of a frame

-- the parts of the frame of this request with this number, in a struct of this size
pub record TellsFrame (frame : List ℕ) (size number : ℕ) (made : Request) (parts : FrameParts) : Type 0 where
  pub size_is : parts.size ≡ size
  pub number_is : parts.number ≡ number
  pub kind : parts.kind ≡ request_number made
  pub entry : parts.entry ≡ number_or_none (named_entry made)
  pub reserved : parts.reserved ≡ 0
  pub option : HasOptionAt frame parts.option parts.option_len made

-- the bytes are a frame of these parts, and of an order of these numbers
pub record HasFrameParts (frame : List ℕ) (size : ℕ) (parts : FrameParts) (order : List ℕ) : Type 0 where
  pub number : ℕ
  pub made : Request
  pub spelled : SpellsFrame frame number made
  pub tells : TellsFrame frame size number made parts
  pub order_is : order ≡ order_of made

-- the bytes aren't a frame, for this
abbrev pub IsUnreadFrame : List ℕ → Failure → Type 0
IsUnreadFrame frame failed = (why : FrameFault) × IsFirstFault frame why × (failed ≡ frame_failure why)

-- ---- what a call tells

-- the parts are told if the numbers are given
abbrev pub TellsIfGiven : ℕ → FrameParts → FrameParts → FrameParts → Type 0
TellsIfGiven status told old new = ((status ≡ done) × (new ≡ told)) ⊎ ((status ≢ done) × (new ≡ old))

-- The numbers of a frame's order are given, if there is room for them, with the frame's parts; or a failure is told; or memory was
-- refused. Nothing else is written.
abbrev pub AnswersFrame : List ℕ → ℕ → List ℕ → List ℕ → ℕ → ℕ → FrameParts → FrameParts → Refusal → Refusal → Type 0
AnswersFrame frame status old new old_len len parts_old parts old_why why =
    ((order : List ℕ) × (told : FrameParts) × HasFrameParts frame parts_old.size told order × Gives status order old new len
    × TellsIfGiven status told parts_old parts × (why ≡ old_why))
    ⊎ (((failed : Failure) × IsUnreadFrame frame failed × Tells failed status old_why why × IsKept old new old_len len × (parts ≡ parts_old))
    ⊎ ((status ≡ no_memory) × IsKept old new old_len len × (parts ≡ parts_old) × (why ≡ old_why)))
