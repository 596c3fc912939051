-- What comes of a call, from what its work comes to.
use Rattle.std.proofs.Common.{◌≡◌, ◌≢◌, ℕ, List, Option, Some, None, Result, Ok, Err, IfOk, IfErr, IfSome, IfNone, inl, inr, sym, subst}
use Rattle.bootkeep_c.specs.declared.refusal.Refusal.{Refusal}
use Rattle.bootkeep_c.specs.declared.failure.Failure.{Failure}
use Rattle.bootkeep_c.specs.declared.failure.Failure.TheVariants as failure
use Rattle.bootkeep_c.specs.Status.{done, absent}
use Rattle.bootkeep_c.specs.Refusals.{Tells}
use Rattle.bootkeep_c.specs.Buffer.{Gives, IsKept}
use Rattle.bootkeep_c.specs.Answers.{Answers, Finds, TellsValue, FindsValue}
use Rattle.boot_edits.specs.declared.answer.EditAnswer.{EditAnswer}
use Rattle.bootkeep_c.specs.declared.edit.EditedNumbers.{EditedNumbers}
use Rattle.bootkeep_c.specs.declared.edit.EditedSet.{EditedSet}
use Rattle.bootkeep_c.specs.Edits.{TellsEdited, AnswersEdit}

pub answers : {A V : Type 0} (items : V → List A) (Is : List A → Type 0) (Fails : Failure → Type 0) (made : Result V Failure)
    (status : ℕ) (old new : List A) (old_len len : ℕ)
    (old_why why : Refusal) → IfOk made (λ v. Is (items v)) → IfErr made (λ failed. failed ≢ failure.Memory → Fails failed)
    → IfOk made (λ v. Gives status (items v) old new len × (why ≡ old_why)) →
    IfErr made (λ failed. Tells failed status old_why why × IsKept old new old_len len)
    → Answers Is Fails status old new old_len len old_why why
answers items Is Fails (Ok v) status old new old_len len old_why why is fails given told = inl (items v, is, given.0, given.1)
answers items Is Fails (Err (failure.Refused r)) status old new old_len len old_why why is fails given told =
    inr (inl (failure.Refused r, fails (λ e. cc), told.0, told.1))
answers items Is Fails (Err failure.Memory) status old new old_len len old_why why is fails given told = inr (inr (told.0.0, told.1, told.0.1))

pub finds : {A V : Type 0} (items : V → List A) (Is : List A → Type 0) (Missing : Type 0) (Fails : Failure → Type 0) (found : Result (Option V) Failure)
    (status : ℕ) (old new : List A) (old_len len : ℕ)
    (old_why why : Refusal) → IfOk found (λ it. IfSome it (λ v. Is (items v))) → IfOk found (λ it. IfNone it Missing)
    → IfErr found (λ failed. failed ≢ failure.Memory → Fails failed)
    → IfOk found (λ it. IfSome it (λ v. Gives status (items v) old new len × (why ≡ old_why))) →
    IfOk found (λ it. IfNone it ((status ≡ absent) × IsKept old new old_len len × (why ≡ old_why)))
    → IfErr found (λ failed. Tells failed status old_why why × IsKept old new old_len len)
    → Finds Is Missing Fails status old new old_len len old_why why
finds items Is Missing Fails (Ok (Some v)) status old new old_len len old_why why is lacks fails given none told = inr (inl (items v, is, given.0, given.1))
finds items Is Missing Fails (Ok None) status old new old_len len old_why why is lacks fails given none told = inl (none.0, lacks, none.1, none.2)
finds items Is Missing Fails (Err (failure.Refused r)) status old new old_len len old_why why is lacks fails given none told =
    inr (inr (inl (failure.Refused r, fails (λ e. cc), told.0, told.1)))
finds items Is Missing Fails (Err failure.Memory) status old new old_len len old_why why is lacks fails given none told =
    inr (inr (inr (told.0.0, told.1, told.0.1)))

pub tells_value : {A : Type 0} (Is : A → Type 0) (Fails : Failure → Type 0) (made : Result A Failure) (status : ℕ) (old new : A)
    (old_why why : Refusal) → IfOk made Is
    → IfErr made (λ failed. failed ≢ failure.Memory → Fails failed) → IfOk made (λ told. (status ≡ done) × (new ≡ told) × (why ≡ old_why))
    → IfErr made (λ failed. Tells failed status old_why why × (new ≡ old)) → TellsValue Is Fails status old new old_why why
tells_value Is Fails (Ok told) status old new old_why why is fails tells none = inl (tells.0, subst Is (sym tells.1) is, tells.2)
tells_value Is Fails (Err (failure.Refused r)) status old new old_why why is fails tells none = inr (inl (failure.Refused r, fails (λ e. cc), none.0, none.1))
tells_value Is Fails (Err failure.Memory) status old new old_why why is fails tells none = inr (inr (none.0.0, none.1, none.0.1))

pub finds_value : {A : Type 0} (Is : A → Type 0) (Missing : Type 0) (Fails : Failure → Type 0) (found : Result (Option A) Failure) (status : ℕ)
    (old new : A) (old_why why : Refusal) → IfOk found (λ it. IfSome it Is) → IfOk found (λ it. IfNone it Missing)
    → IfErr found (λ failed. failed ≢ failure.Memory → Fails failed)
    → IfOk found (λ it. IfSome it (λ told. (status ≡ done) × (new ≡ told) × (why ≡ old_why)))
    → IfOk found (λ it. IfNone it ((status ≡ absent) × (new ≡ old) × (why ≡ old_why)))
    → IfErr found (λ failed. Tells failed status old_why why × (new ≡ old)) → FindsValue Is Missing Fails status old new old_why why
finds_value Is Missing Fails (Ok (Some told)) status old new old_why why is lacks fails tells none failed =
    inr (inl (tells.0, subst Is (sym tells.1) is, tells.2))
finds_value Is Missing Fails (Ok None) status old new old_why why is lacks fails tells none failed = inl (none.0, lacks, none.1, none.2)
finds_value Is Missing Fails (Err (failure.Refused r)) status old new old_why why is lacks fails tells none failed =
    inr (inr (inl (failure.Refused r, fails (λ e. cc), failed.0, failed.1)))
finds_value Is Missing Fails (Err failure.Memory) status old new old_why why is lacks fails tells none failed =
    inr (inr (inr (failed.0.0, failed.1, failed.0.1)))

pub answers_edit : (Is : List ℕ → EditAnswer → Type 0) (Fails : Failure → Type 0) (made : Result EditedSet Failure) (status : ℕ)
    (old new : List ℕ) (old_len len : ℕ) (edited_old edited : EditedNumbers) (old_why why : Refusal)
    → IfOk made (λ set. Is set.bytes.items set.answer) → IfErr made (λ failed. failed ≢ failure.Memory → Fails failed)
    → IfOk made (λ set. Gives status set.bytes.items old new len × TellsEdited status set.answer edited_old edited × (why ≡ old_why))
    → IfErr made (λ failed. Tells failed status old_why why × IsKept old new old_len len × (edited ≡ edited_old))
    → AnswersEdit Is Fails status old new old_len len edited_old edited old_why why
answers_edit Is Fails (Ok set) status old new old_len len edited_old edited old_why why is fails given told =
    inl (set.bytes.items, set.answer, is, given.0, given.1, given.2)
answers_edit Is Fails (Err (failure.Refused r)) status old new old_len len edited_old edited old_why why is fails given told =
    inr (inl (failure.Refused r, fails (λ e. cc), told.0, told.1, told.2))
answers_edit Is Fails (Err failure.Memory) status old new old_len len edited_old edited old_why why is fails given told =
    inr (inr (told.0.0, told.1, told.2, told.0.1))
