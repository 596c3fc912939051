-- What is told of a failure, if it can be no other.
use Rattle.std.proofs.Common.{◌≡◌, ◌≢◌, ℕ, List, inl, inr, subst, arith}
use Rattle.bootkeep_c.specs.declared.refusal.Refusal.{Refusal}
use Rattle.bootkeep_c.specs.declared.failure.Failure.{Failure}
use Rattle.bootkeep_c.specs.declared.failure.Failure.TheVariants as failure
use Rattle.bootkeep_c.specs.Status.{done, refused, absent, no_memory}
use Rattle.bootkeep_c.specs.Refusals.{Tells, TellsUnless}
use Rattle.bootkeep_c.specs.Buffer.{IsInFront, Gives}

-- nothing but memory was refused
pub only_memory : (failed : Failure) (status : ℕ) (old new : Refusal) → Tells failed status old new → (failed ≢ failure.Memory → ⊥) → status ≡ no_memory
only_memory (failure.Refused told) status old new tells none = absurd (none (λ e. cc))
only_memory failure.Memory status old new tells none = tells.0

-- nothing but this failed, or memory was refused
pub only_failure : (failed wanted : Failure) (status : ℕ) (old new : Refusal) → Tells failed status old new → (failed ≢ failure.Memory → failed ≡ wanted)
    → TellsUnless wanted status old new
only_failure (failure.Refused told) wanted status old new tells same = inl (subst (λ (f : Failure). Tells f status old new) (same (λ e. cc)) tells)
only_failure failure.Memory wanted status old new tells same = inr tells

-- what is given, if the call is done
pub given : (status : ℕ) (answer old new : List ℕ) (len : ℕ) → Gives status answer old new len → status ≡ done → IsInFront answer old new len
given status answer old new len (inl is) is_done = is.1
given status answer old new len (inr is) is_done = absurd (omega (arith, is.0, is_done))

-- what gives an answer doesn't say that there is none
pub not_absent : (status : ℕ) (answer old new : List ℕ) (len : ℕ) → Gives status answer old new len → status ≡ absent → ⊥
not_absent status answer old new len (inl is) none = omega (arith, is.0, none)
not_absent status answer old new len (inr is) none = omega (arith, is.0, none)

-- if the call is refused, memory wasn't
pub not_memory : (failed : Failure) (status : ℕ) (old new : Refusal) → Tells failed status old new → status ≡ refused → failed ≢ failure.Memory
not_memory (failure.Refused told) status old new tells is = λ e. cc
not_memory failure.Memory status old new tells is = absurd (omega (arith, tells.0, is))
