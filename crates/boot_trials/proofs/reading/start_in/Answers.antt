use Rattle.std.proofs.Common.{◌≡◌, ℕ, List, sym, subst, ◌∙◌}
use Rattle.uefi_vars.specs.Name.{IsName}
use Rattle.uefi_vars.proofs.Names.{IsUtf8-name}
use Rattle.boot_trials.proofs.Files.{some_is}
use Rattle.boot_trials.proofs.reading.start_in.Goals as goal

-- the characters of an identity are text
pub returns-in-Err-clause-none : goal.returns-in-Err-clause-none
returns-in-Err-clause-none c start is stored =
    let same : start ≡ c.in-Some.data.now = some_is _ _ (sym stored ∙ sym c.in-Some.ensures.value) in
    c.in-Err.ensures.cases.0 (IsUtf8-name c.in-Some.data.now (subst (λ (t : List ℕ). IsName t) same is))
