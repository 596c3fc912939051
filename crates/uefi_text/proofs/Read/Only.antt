-- An answer that is right, or a fault that rules every other one out.
use Rattle.std.proofs.Common.{◌≡◌, ◌≢◌, Result, Ok, Err, IfOk, IfErr, refl, ap, inl, inr}
use Rattle.uefi_path.specs.Answer.{IsUnless}
use Rattle.uefi_text.specs.declared.fault.TextFault.{TextFault}
use Rattle.uefi_text.specs.declared.fault.TextFault.TheVariants.{BadSegment, BadNumber, OutOfRange, BadEnd, OutOfMemory}

-- if at most one answer is right, and none if there is a fault, the right answer comes unless memory is refused
pub only_answer : {T : Type 0} (P : T → Type 0) (Q : TextFault → Type 0) (result : Result T TextFault) →
    IfOk result P → IfErr result (λ fault. fault ≢ OutOfMemory → Q fault) → ((x y : T) → P x → P y → x ≡ y) →
    ((fault : TextFault) (x : T) → Q fault → P x → ⊥) → (x : T) → P x → IsUnless result (Ok x) OutOfMemory
only_answer P Q (Ok y) found fault one no_fault x is = inl (ap (λ z. Ok z) (one y x found is))
only_answer P Q (Err (BadSegment at)) found fault one no_fault x is = absurd (no_fault (BadSegment at) x (fault (λ e. cc)) is)
only_answer P Q (Err (BadNumber at)) found fault one no_fault x is = absurd (no_fault (BadNumber at) x (fault (λ e. cc)) is)
only_answer P Q (Err (OutOfRange at)) found fault one no_fault x is = absurd (no_fault (OutOfRange at) x (fault (λ e. cc)) is)
only_answer P Q (Err (BadEnd at)) found fault one no_fault x is = absurd (no_fault (BadEnd at) x (fault (λ e. cc)) is)
only_answer P Q (Err OutOfMemory) found fault one no_fault x is = inr refl
