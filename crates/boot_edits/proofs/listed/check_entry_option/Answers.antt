use Rattle.std.proofs.Common.{◌≡◌, ℕ, List, sym, subst, inr, ⊎_elim}
use Rattle.std.proofs.lemmas.Result.{on_ok_weaker, IfErr-weaker}
use Rattle.uefi_option.specs.LoadOption.{SpellsOption}
use Rattle.boot_edits.proofs.listed.check_entry_option.Goals as goal

pub returns-clause-fine : goal.returns-clause-fine
returns-clause-fine c =
    let stored = c.in-Some.ensures.value in
    on_ok_weaker c.check_bytes.result
    (λ s fault is. ⊎_elim (λ missing. let none = missing.1 in cc)
    (λ other. other.2 s.0 (record { bytes = c.in-Some.bytes.now; stored = sym stored; spelled = s.1 })) is)
    c.check_bytes.ensures.fine

pub returns-clause-refused : goal.returns-clause-refused
returns-clause-refused c =
    let stored = c.in-Some.ensures.value in
    IfErr-weaker c.check_bytes.result _ _
    (λ fault is. inr (
      is.0,
      (λ none. cc),
      λ option has.
          let held = has.stored in
          let same : has.bytes ≡ c.in-Some.bytes.now = cc in
          is.1 option (subst (λ (bytes : List ℕ). SpellsOption bytes option) same has.spelled),
    ))
    c.check_bytes.ensures.refused
