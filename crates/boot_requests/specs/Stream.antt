-- Streams of frames, whatever pieces they come in. Nothing here knows how a stream is kept while it comes.
use Rattle.std.specs.Prelude.{◌≡◌, ℕ, List, [], ◌++◌, Option, Some, None, Result, Ok, Err}
use Rattle.std.specs.List.{AllByRecursion, flat_map}
use Rattle.boot_requests.specs.declared.fault.FeedFault.{FeedFault}
use Rattle.boot_requests.specs.declared.fault.FeedFault.TheVariants as fault
use Rattle.boot_requests.specs.FrameFault.{IsRawWith, FailsMagic, FailsVersion, FailsLength, PassesSize}

-- Bytes that are delivered together: a good header, and as many bytes after it as it states. Whether they are a frame,
-- with a kind, a number and a payload that a request has, doesn't matter here.
abbrev pub IsDelivery : List ℕ → Type 0
IsDelivery bytes = IsRawWith bytes PassesSize

-- the bytes aren't a delivery, and don't begin with one
abbrev pub HasNoDelivery : List ℕ → Type 0
HasNoDelivery bytes = (front behind : List ℕ) → bytes ≡ front ++ behind → IsDelivery front → ⊥

-- the bytes begin with a whole header, of which this test is the first to fail
abbrev pub IsHeaderFault : List ℕ → FeedFault → Type 0
IsHeaderFault bytes fault.BadMagic = IsRawWith bytes FailsMagic
IsHeaderFault bytes fault.BadVersion = IsRawWith bytes FailsVersion
IsHeaderFault bytes fault.TooLong = IsRawWith bytes FailsLength
IsHeaderFault bytes fault.OutOfMemory = ⊥

-- this is the fault of the header at the start, or there is none
abbrev pub IsHeaderFaultIfAny : List ℕ → Option FeedFault → Type 0
IsHeaderFaultIfAny bytes (Some fault) = IsHeaderFault bytes fault
IsHeaderFaultIfAny bytes None = (fault : FeedFault) → IsHeaderFault bytes fault → ⊥

-- what a stream is cut into
pub record Cut : Type 0 where
  pub deliveries : List (List ℕ)
  pub rest : List ℕ
  pub fault : Option FeedFault

-- The stream is deliveries, one after the other, and a rest, which doesn't begin with one: it is still to come, or its
-- header is at fault.
pub record IsCut (stream : List ℕ) (cut : Cut) : Type 0 where
  pub deliveries : AllByRecursion IsDelivery cut.deliveries
  pub rest : HasNoDelivery cut.rest
  pub fault : IsHeaderFaultIfAny cut.rest cut.fault
  pub parts : stream ≡ flat_map (λ delivery. delivery) cut.deliveries ++ cut.rest

-- ---- what is kept of a stream

-- the bytes of a delivery that isn't whole yet, or the fault of a header, after which nothing is kept
pub record Kept : Type 0 where
  pub rest : List ℕ
  pub fault : Option FeedFault

abbrev pub kept_in : List ℕ → Option FeedFault → Kept
kept_in rest fault = record { rest = rest; fault = fault }

-- nothing is kept of a rest whose header is at fault
abbrev pub kept_rest : Option FeedFault → List ℕ → List ℕ
kept_rest None rest = rest
kept_rest (Some fault) rest = []

-- what is kept when a stream was cut so
abbrev pub kept_of : Cut → Kept
kept_of cut = kept_in (kept_rest cut.fault cut.rest) cut.fault

-- what no bytes are cut into
abbrev pub nothing_cut : Cut
nothing_cut = record { deliveries = []; rest = []; fault = None }

-- what can be kept: it is kept of the stream that is the rest
abbrev pub IsKept : Kept → Type 0
IsKept kept = (stream : List ℕ) × (cut : Cut) × IsCut stream cut × (kept ≡ kept_of cut)

-- the answer to a piece of a stream, after which the stream has this fault, or none
abbrev pub feed_result : Option FeedFault → Result (Unit {0}) FeedFault
feed_result None = Ok tt
feed_result (Some fault) = Err fault

-- From what is kept of a stream, which was cut so before, one more piece leads to what is kept of both together: the
-- deliveries that are whole with the piece are given after what was there, in their order, and the answer is the fault.
pub record Feeds (stream : List ℕ) (before : Cut) (piece : List ℕ) (kept : Kept) (old new : List (List ℕ)) (answer : Result (Unit {0}) FeedFault) : Type 0 where
  pub after : Cut
  pub is : IsCut (stream ++ piece) after
  pub stands : kept ≡ kept_of after
  pub given : List (List ℕ)
  pub appended : new ≡ old ++ given
  pub deliveries : after.deliveries ≡ before.deliveries ++ given
  pub answered : answer ≡ feed_result after.fault
