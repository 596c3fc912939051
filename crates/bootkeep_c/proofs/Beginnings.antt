-- What comes of a call that begins a command, from what its work comes to.
use Rattle.std.proofs.Common.{◌≡◌, ◌≢◌, ◌⊎◌, ℕ, Option, Some, None, Result, Ok, Err, IfOk, IfErr, inl, inr}
use Rattle.bootkeep_c.specs.declared.refusal.Refusal.{Refusal}
use Rattle.bootkeep_c.specs.declared.failure.Failure.{Failure}
use Rattle.bootkeep_c.specs.declared.failure.Failure.TheVariants as failure
use Rattle.bootkeep_c.specs.declared.session.Session.{Session}
use Rattle.bootkeep_c.specs.Status.{done}
use Rattle.bootkeep_c.specs.Refusals.{Tells}
use Rattle.bootkeep_c.specs.Sessions.{Begins}

pub begins : {V : Type 0} (made : Result V Failure) (session : V → Session) (Is : Session → Type 0) (Fails : Failure → Type 0)
    (status : ℕ) (after : Option Session) (old_why why : Refusal)
    → IfOk made (λ v. Is (session v)) → IfErr made (λ failed. failed ≢ failure.Memory → Fails failed)
    → IfOk made (λ v. (status ≡ done) × (after ≡ Some (session v)) × (why ≡ old_why))
    → IfErr made (λ failed. Tells failed status old_why why × (after ≡ None))
    → Begins Is Fails status after old_why why
begins (Ok v) session Is Fails status after old_why why is fails opened told = inl (session v, is, opened.0, opened.1, opened.2)
begins (Err (failure.Refused r)) session Is Fails status after old_why why is fails opened told =
    inr (inl (failure.Refused r, fails (λ e. cc), told.0, told.1))
begins (Err failure.Memory) session Is Fails status after old_why why is fails opened told = inr (inr (told.0.0, told.1, told.0.1))
