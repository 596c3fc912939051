use Rattle.std.proofs.Common.{◌≡◌, ℕ, List, inl, inr, refl, ap, subst, ◌∙◌, arith}
use Rattle.uefi_path.proofs.Paths.{same_front, no_fault_at_front}
use Rattle.uefi_names.specs.Standard.{standard_table}
use Rattle.uefi_names.specs.Named.{named_path}
use Rattle.bootkeep_c.specs.declared.failure.Failure.{Failure}
use Rattle.bootkeep_c.specs.Refusals.{Tells}
use Rattle.bootkeep_c.specs.Buffer.{Gives}
use Rattle.bootkeep_c.proofs.Telling.{only_memory}
use Rattle.bootkeep_c.proofs.named_path.bootkeep_path_names.Goals as goal
use Rattle.bootkeep_c.proofs.named_path.bootkeep_path_names.Goals.{then-status-eq-DONE, else-status-eq-DONE}

pub returns-after-status-eq-DONE-clause-text : goal.returns-after-status-eq-DONE-clause-text
returns-after-status-eq-DONE-clause-text c = λ path n front.
    let found = c.in-Ok.ensures.found in
    let same = same_front c.args.bytes.now found.0 path c.in-Ok.count n found.1 front in
    let is : c.as_bytes.result.now ≡ named_path standard_table path = c.as_bytes.ensures.value ∙ found.2 ∙ ap (named_path standard_table) same.0 in (
      inl (subst (λ (answer : List ℕ). Gives c.give-status.result answer c.args.out.now c.give-status.new.out c.give-status.new.len) is c.give-status.ensures),
      λ done. elim c.if-status-eq-DONE.branch [
        | then-status-eq-DONE w ↦ w.taken-is ∙ same.1
        | else-status-eq-DONE w ↦ absurd (w.if-status-eq-DONE.false done)
      ],
    )

pub returns-after-status-eq-DONE-clause-fault : goal.returns-after-status-eq-DONE-clause-fault
returns-after-status-eq-DONE-clause-fault c = λ fault first.
    let found = c.in-Ok.ensures.found in
    absurd (no_fault_at_front c.args.bytes.now fault found.0 c.in-Ok.count found.1 first)

pub returns-in-Err-clause-text : goal.returns-in-Err-clause-text
returns-in-Err-clause-text c = λ path n front.
    let none = only_memory c.in-Err.failure c.tell.result c.args.refusal.now c.tell.new.refusal c.tell.ensures
    (λ other. let why = c.in-Err.ensures.fault other in no_fault_at_front c.args.bytes.now why.0 path n front why.1) in
    (inr (none, record { buffer = refl; told = refl }), λ done. absurd (omega (arith, none, done)))

pub returns-in-Err-clause-fault : goal.returns-in-Err-clause-fault
returns-in-Err-clause-fault c = λ fault first.
    subst (λ (f : Failure). Tells f c.tell.result c.args.refusal.now c.tell.new.refusal) (c.in-Err.ensures.only_fault fault first) c.tell.ensures
