-- What comes of a call that reads a frame, from what its work comes to.
use Rattle.std.proofs.Common.{◌≡◌, ◌≢◌, ℕ, List, Result, Ok, Err, IfOk, IfErr, inl, inr}
use Rattle.bootkeep_c.specs.declared.frame_parts.FrameParts.{FrameParts}
use Rattle.bootkeep_c.specs.declared.frame_parts.FrameRead.{FrameRead}
use Rattle.bootkeep_c.specs.declared.refusal.Refusal.{Refusal}
use Rattle.bootkeep_c.specs.declared.failure.Failure.{Failure}
use Rattle.bootkeep_c.specs.declared.failure.Failure.TheVariants as failure
use Rattle.bootkeep_c.specs.Refusals.{Tells}
use Rattle.bootkeep_c.specs.Buffer.{Gives, IsKept}
use Rattle.bootkeep_c.specs.FrameParts.{HasFrameParts, IsUnreadFrame, TellsIfGiven, AnswersFrame}

pub answers_frame : (frame : List ℕ) (read : Result FrameRead Failure) (status : ℕ) (old new : List ℕ) (old_len len : ℕ)
    (parts_old parts : FrameParts) (old_why why : Refusal)
    → IfOk read (λ it. HasFrameParts frame parts_old.size it.parts it.numbers.items)
    → IfErr read (λ failed. failed ≢ failure.Memory → IsUnreadFrame frame failed)
    → IfOk read (λ it. Gives status it.numbers.items old new len × TellsIfGiven status it.parts parts_old parts × (why ≡ old_why))
    → IfErr read (λ failed. Tells failed status old_why why × IsKept old new old_len len × (parts ≡ parts_old))
    → AnswersFrame frame status old new old_len len parts_old parts old_why why
answers_frame frame (Ok it) status old new old_len len parts_old parts old_why why is fails given told =
    inl (it.numbers.items, it.parts, is, given.0, given.1, given.2)
answers_frame frame (Err (failure.Refused r)) status old new old_len len parts_old parts old_why why is fails given told =
    inr (inl (failure.Refused r, fails (λ e. cc), told.0, told.1, told.2))
answers_frame frame (Err failure.Memory) status old new old_len len parts_old parts old_why why is fails given told =
    inr (inr (told.0.0, told.1, told.2, told.0.1))
