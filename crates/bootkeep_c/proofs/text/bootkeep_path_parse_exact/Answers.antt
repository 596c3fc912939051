use Rattle.std.proofs.Common.{ℕ, List, inl, inr, refl, ap, subst, ◌∙◌}
use Rattle.uefi_path.specs.Path.{path_bytes}
use Rattle.bootkeep_c.specs.Buffer.{Gives}
use Rattle.bootkeep_c.proofs.Telling.{only_memory}
use Rattle.bootkeep_c.proofs.text.bootkeep_path_parse_exact.Goals as goal

pub returns-in-Ok-clause-bytes : goal.returns-in-Ok-clause-bytes
returns-in-Ok-clause-bytes c = λ path utf8 means.
    let found = c.in-Ok.ensures.found in
    let same = c.a_text_stands_for_one_path.ensures c.args.text.now found.0 path found.1 means in
    inl (subst (λ (answer : List ℕ). Gives c.give.result answer c.args.out.now c.give.new.out c.give.new.len)
    (c.deref.ensures.value ∙ found.2 ∙ ap path_bytes same) c.give.ensures)

pub returns-in-Ok-clause-utf8 : goal.returns-in-Ok-clause-utf8
returns-in-Ok-clause-utf8 c = λ none. let failed = c.in-Ok.ensures.utf8 none in absurd (let wrong = failed.2 in cc)

pub returns-in-Ok-clause-fault : goal.returns-in-Ok-clause-fault
returns-in-Ok-clause-fault c = λ fault utf8 why.
    let found = c.in-Ok.ensures.found in
    absurd (c.a_text_with_a_fault_stands_for_no_path.ensures c.args.text.now fault found.0 why found.1)

pub returns-in-Err-clause-bytes : goal.returns-in-Err-clause-bytes
returns-in-Err-clause-bytes c = λ path utf8 means.
    inr (
      only_memory c.in-Err.failure c.tell.result c.args.refusal.now c.tell.new.refusal c.tell.ensures
          (λ other. elim (c.in-Err.ensures.fault other) [
            | inl why ↦ absurd (why.0 utf8)
            | inr why ↦ absurd (c.a_text_with_a_fault_stands_for_no_path.ensures c.args.text.now why.1 path why.2 means)
          ]),
      record { buffer = refl; told = refl },
    )
