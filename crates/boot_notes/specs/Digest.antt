-- Digests of frames.
use Rattle.std.specs.Prelude.{◌≡◌, ◌↔◌, ℕ, ◌^◌, ◌<◌, ◌==◌, Bool, IsTrue, List, length, take, Option, Some, None}
use Rattle.std.specs.List.{find}
use Rattle.std.specs.Option.{option_map}
use Rattle.sha2.specs.Sha256.{sha256}
use Rattle.boot_notes.specs.declared.digest.FrameDigest.{FrameDigest}

-- a number of four bytes, and eight bytes
pub record IsFrameDigest (kept : FrameDigest) : Type 0 where
  pub four_bytes : kept.number < 2 ^ 32
  pub len : length kept.digest ≡ 8

-- the first eight bytes of the SHA-256 of a frame
abbrev pub digest_of : List ℕ → List ℕ
digest_of frame = take 8 (sha256 frame)

-- the digest of a frame, with the number of its request
abbrev pub frame_digest : ℕ → List ℕ → FrameDigest
frame_digest number frame = record { number = number; digest = digest_of frame }

-- the first of these that is of the request of this number
abbrev pub digest_under : List FrameDigest → ℕ → Option (List ℕ)
digest_under digests number = option_map (λ (kept : FrameDigest). kept.digest) (find (λ (kept : FrameDigest). kept.number == number) digests)

-- whether the frame is one with this digest, if there is a digest
abbrev pub IsSame : Option (List ℕ) → List ℕ → Option Bool → Type 0
IsSame None frame same = same ≡ None
IsSame (Some kept) frame None = ⊥
IsSame (Some kept) frame (Some same) = IsTrue same ↔ (kept ≡ digest_of frame)
