-- A request that has no frame, as C is told it.
use Rattle.std.proofs.Common.{◌≡◌, ◌≢◌, ℕ, ◌<◌, ◌≤◌, List, length, inr, refl}
use Rattle.boot_requests.specs.declared.fault.FrameFault.{FrameFault}
use Rattle.boot_requests.specs.declared.fault.FrameFault.TheVariants as fault
use Rattle.boot_requests.specs.declared.request.Request.{Request}
use Rattle.boot_requests.specs.Limits.{payload_max, no_number}
use Rattle.boot_requests.specs.Request.{payload_of}
use Rattle.boot_requests.specs.Writer.{IsWriteFault}
use Rattle.bootkeep_c.specs.declared.frame.Asked.{Asked}
use Rattle.bootkeep_c.specs.declared.failure.Failure.{Failure}
use Rattle.bootkeep_c.specs.declared.failure.Failure.TheVariants as failure
use Rattle.bootkeep_c.specs.Refusals.{frame_failure}
use Rattle.bootkeep_c.specs.Frames.{asked_number, AsksFor, IsFrameFailure}

module _ (number kind entry : ℕ) (option order : List ℕ) (what : Asked) (made : Request) where
  pub no_frame : (why : FrameFault) → asked_number what ≡ kind → AsksFor what entry option order made → IsWriteFault why →
      (why ≡ fault.TooLong → payload_max < length (payload_of made)) →
      (why ≡ fault.BadNumber → (length (payload_of made) ≤ payload_max) × (number ≡ no_number)) →
      frame_failure why ≢ failure.Memory → IsFrameFailure number kind entry option order (frame_failure why)
  no_frame fault.TooLong kind-is asks named long bad own =
      inr (inr (fault.TooLong, record { what = what; made = made; kind_is = kind-is; asks = asks; none = long refl }, refl))
  no_frame fault.BadNumber kind-is asks named long bad own =
      inr (inr (fault.BadNumber, record { what = what; made = made; kind_is = kind-is; asks = asks; none = bad refl }, refl))
  no_frame fault.OutOfMemory kind-is asks named long bad own = absurd (own refl)
  no_frame (fault.Short found) kind-is asks named long bad own = absurd named
  no_frame fault.BadMagic kind-is asks named long bad own = absurd named
  no_frame fault.BadVersion kind-is asks named long bad own = absurd named
  no_frame (fault.BadSize stated found) kind-is asks named long bad own = absurd named
  no_frame fault.BadKind kind-is asks named long bad own = absurd named
  no_frame fault.BadPayload kind-is asks named long bad own = absurd named
  no_frame (fault.Option why) kind-is asks named long bad own = absurd named
