-- Frames: a request with its number, as bytes. Numbers are little-endian.
use Rattle.std.specs.Prelude.{◌≡◌, ℕ, ◌<◌, ◌≤◌, List, [], ◌∷◌, ◌++◌, length}
use Rattle.std.specs.Int.{w32, to_le_bytes}
use Rattle.boot_requests.specs.declared.request.Request.{Request}
use Rattle.boot_requests.specs.Limits.{payload_max, no_number}
use Rattle.boot_requests.specs.declared.frame.Kind.{Kind}
use Rattle.boot_requests.specs.Kind.{version_of, byte_of}
use Rattle.boot_requests.specs.Request.{IsRequest, kind_of, payload_of}

-- the two bytes at the start of a frame
abbrev pub magic : List ℕ
magic = 0x42 ∷ 0x51 ∷ []

-- The twelve bytes before a payload: the magic, the version and the byte of the kind, the request's number in four
-- bytes, and the length of the payload in four.
abbrev pub header_bytes : Kind → ℕ → ℕ → List ℕ
header_bytes kind number len =
    magic ++ (version_of kind ∷ byte_of kind ∷ []) ++ to_le_bytes w32 number ++ to_le_bytes w32 len

-- the spelling of a request with its number
abbrev pub frame_bytes : ℕ → Request → List ℕ
frame_bytes number request =
    header_bytes (kind_of request) number (length (payload_of request)) ++ payload_of request

-- the bytes, all of them, spell the request with this number
pub record SpellsFrame (bytes : List ℕ) (number : ℕ) (request : Request) : Type 0 where
  pub below : number < no_number
  pub valid : IsRequest request
  pub len : length (payload_of request) ≤ payload_max
  pub is : bytes ≡ frame_bytes number request

-- some frame has the request with this number
abbrev pub IsSent : ℕ → Request → Type 0
IsSent number request = (bytes : List ℕ) × SpellsFrame bytes number request
