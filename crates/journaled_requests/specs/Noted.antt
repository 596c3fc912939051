-- What a digest that a run notes is of.
use Rattle.std.specs.Prelude.{◌≡◌, ℕ, ◌<◌, List, Some}
use Rattle.std.specs.FinMap.{get}
use Rattle.boot_requests.specs.declared.request.Request.{Request}
use Rattle.boot_requests.specs.Frame.{SpellsFrame}
use Rattle.boot_requests.specs.Run.{accepted_requests, gap_at}
use Rattle.boot_requests.specs.Seen.{Seen}
use Rattle.boot_requests.specs.Window.{Requests}
use Rattle.boot_notes.specs.declared.digest.FrameDigest.{FrameDigest}
use Rattle.boot_notes.specs.Digest.{frame_digest}

-- the digest is of a frame whose request is accepted under its number
pub record IsOfAccepted (requests : Requests) (kept : FrameDigest) : Type 0 where
  pub bytes : List ℕ
  pub request : Request
  pub spelled : SpellsFrame bytes kept.number request
  pub is : kept ≡ frame_digest kept.number bytes
  pub accepted : get requests kept.number ≡ Some request

-- and was applied, if this is the next number
pub record IsOfAppliedBelow (requests : Requests) (gap : ℕ) (kept : FrameDigest) : Type 0 where
  pub of : IsOfAccepted requests kept
  pub below : kept.number < gap

-- the digest is of the frame that the run applied under its number
abbrev pub IsOfApplied : ℕ → List Seen → FrameDigest → Type 0
IsOfApplied first run kept = IsOfAppliedBelow (accepted_requests first run) (gap_at first run) kept
