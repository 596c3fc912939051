use Rattle.std.proofs.Common.{◌≡◌, ◌⊎◌, inl, inr, Some, ap, sym, ◌∙◌}
use Rattle.boot_requests.specs.declared.fault.OpenFault.{OpenFault}
use Rattle.boot_requests.specs.declared.fault.OpenFault.TheVariants.{BadOrder, BadNext, BadState, OutOfMemory}
use Rattle.boot_requests.specs.Turn.{Plain}
use Rattle.boot_updates.proofs.numbers.next_number.Goals as goal

is_no_memory : (fault : OpenFault) → (fault ≡ BadOrder) ⊎ ((fault ≡ BadNext) ⊎ (fault ≡ BadState)) → fault ≡ OutOfMemory → ⊥
is_no_memory fault (inl order) memory = let clash : BadOrder ≡ OutOfMemory = sym order ∙ memory in cc
is_no_memory fault (inr (inl next)) memory = let clash : BadNext ≡ OutOfMemory = sym next ∙ memory in cc
is_no_memory fault (inr (inr state)) memory = let clash : BadState ≡ OutOfMemory = sym state ∙ memory in cc

pub returns-in-Ok : goal.returns-in-Ok
returns-in-Ok c = λ m opens.
    ap Some (c.next_number.ensures.number ∙ ap (λ (k : Plain). k.state.next_number) (c.in-Ok.ensures.only m opens))

pub returns : goal.returns
returns c = λ m opens. absurd (is_no_memory c.in-Err.refused.fault c.in-BadOrder.is (c.in-Err.ensures.only m opens))
