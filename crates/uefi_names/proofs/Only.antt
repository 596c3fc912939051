-- A reader that finds what a text stands for, or tells that it stands for nothing.
use Rattle.std.proofs.Common.{◌≡◌, ◌≢◌, refl, ap, inl, inr}
use Rattle.std.specs.Prelude.{Result, Ok, Err, IfOk, IfErr}
use Rattle.uefi_path.specs.Answer.{IsUnless}
use Rattle.uefi_names.specs.declared.fault.NamedFault.{NamedFault}
use Rattle.uefi_names.specs.declared.fault.NamedFault.TheVariants as faults

pub only_path : {P : Type 0} (Is : P → Type 0) → ((p q : P) → Is p → Is q → p ≡ q) → (result : Result P NamedFault) → IfOk result Is
    → IfErr result (λ fault. fault ≢ faults.OutOfMemory → (path : P) → Is path → ⊥) → (path : P) → Is path → IsUnless result (Ok path) faults.OutOfMemory
only_path Is one (Ok p) found none path is = inl (ap Ok (one p path found is))
only_path Is one (Err faults.OutOfMemory) found none path is = inr refl
only_path Is one (Err (faults.BadSegment place)) found none path is = absurd (none (λ e. cc) path is)
only_path Is one (Err (faults.UnknownName place name)) found none path is = absurd (none (λ e. cc) path is)
only_path Is one (Err (faults.BadArgument place field)) found none path is = absurd (none (λ e. cc) path is)
only_path Is one (Err (faults.BadCount place)) found none path is = absurd (none (λ e. cc) path is)
only_path Is one (Err (faults.BadData place)) found none path is = absurd (none (λ e. cc) path is)
only_path Is one (Err (faults.Exact fault)) found none path is = absurd (none (λ e. cc) path is)
