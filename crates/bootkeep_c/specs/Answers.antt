-- What comes of a call that gives an answer or tells why it has none.
use Rattle.std.specs.Prelude.{◌≡◌, ◌⊎◌, ℕ, List}
use Rattle.bootkeep_c.specs.declared.refusal.Refusal.{Refusal}
use Rattle.bootkeep_c.specs.declared.failure.Failure.{Failure}
use Rattle.bootkeep_c.specs.Status.{done, absent, no_memory}
use Rattle.bootkeep_c.specs.Refusals.{Tells}
use Rattle.bootkeep_c.specs.Buffer.{Gives, IsKept}

-- An answer is given, if there is room for it, or a failure is told, or memory was refused. Nothing else is written.
abbrev pub Answers : {A : Type 0} → (List A → Type 0) → (Failure → Type 0) → ℕ → List A → List A → ℕ → ℕ → Refusal → Refusal → Type 0
Answers {A} Is Fails status old new old_len len old_why why =
    ((answer : List A) × Is answer × Gives status answer old new len × (why ≡ old_why))
    ⊎ (((failed : Failure) × Fails failed × Tells failed status old_why why × IsKept old new old_len len)
    ⊎ ((status ≡ no_memory) × IsKept old new old_len len × (why ≡ old_why)))

-- the same of a call that looks for something: it says that there is nothing, if this holds
abbrev pub Finds : {A : Type 0} → (List A → Type 0) → Type 0 → (Failure → Type 0) → ℕ → List A → List A → ℕ → ℕ → Refusal → Refusal → Type 0
Finds Is Missing Fails status old new old_len len old_why why =
    ((status ≡ absent) × Missing × IsKept old new old_len len × (why ≡ old_why))
    ⊎ Answers Is Fails status old new old_len len old_why why

-- A value is told of which this holds, or a failure, or memory was refused. Nothing else is written.
abbrev pub TellsValue : {A : Type 0} → (A → Type 0) → (Failure → Type 0) → ℕ → A → A → Refusal → Refusal → Type 0
TellsValue Is Fails status old new old_why why =
    ((status ≡ done) × Is new × (why ≡ old_why))
    ⊎ (((failed : Failure) × Fails failed × Tells failed status old_why why × (new ≡ old))
    ⊎ ((status ≡ no_memory) × (new ≡ old) × (why ≡ old_why)))

-- the same of a call that looks for one
abbrev pub FindsValue : {A : Type 0} → (A → Type 0) → Type 0 → (Failure → Type 0) → ℕ → A → A → Refusal → Refusal → Type 0
FindsValue Is Missing Fails status old new old_why why =
    ((status ≡ absent) × Missing × (new ≡ old) × (why ≡ old_why)) ⊎ TellsValue Is Fails status old new old_why why
