-- The least number that is free among variables is that of the state which they stand for.
use Rattle.std.proofs.Common.{◌≡◌, ℕ, ◌≤◌, true, false, inl, inr, None, sym, ap, ◌∙◌, arith}
use Rattle.std.specs.Option.{is_some}
use Rattle.std.specs.FinMap.{get}
use Rattle.std.proofs.lemmas.Bool.{cases_lt, cond-true, cond-false, lt-ltb, le-ltb}
use Rattle.uefi_vars.specs.Vars.{Variables, entry_of}
use Rattle.uefi_vars.specs.Free.{IsLowestFree, IsLowestFreeIfAny}
use Rattle.boot_requests.specs.declared.outcome.Code.TheVariants.{NoFree}
use Rattle.boot_requests.specs.Limits.{number_count}
use Rattle.boot_requests.specs.Outcome.{without_entry, added_at}
use Rattle.boot_requests.specs.State.{State}
use Rattle.boot_requests.specs.Apply.{free_number, free_outcome}
use Rattle.boot_requests.specs.Keeper.{IsStateOf}
use Rattle.boot_requests.proofs.WholeRuns.Gaps.{IsGap, gap_is, gap_one}

module _ (m : State) (vars : Variables) (stands : IsStateOf m vars) where
  at_free : IsGap 0 m.entries (free_number m)
  at_free = gap_is 0 m.entries

  free_is : (number : ℕ) → IsLowestFree (entry_of vars) number → free_number m ≡ number
  free_is number lowest = gap_one 0 m.entries (free_number m) number at_free (record {
    from = omega arith;
    filled = λ q from below. ap is_some (sym (stands.image.entry q (omega (arith, below, lowest.is)))) ∙ lowest.taken q below;
    free = sym (stands.image.entry number lowest.is) ∙ lowest.free;
  })

  -- an entry is added under the number
  pub told_free : (number : ℕ) → IsLowestFree (entry_of vars) number → free_outcome m ≡ added_at number
  told_free number lowest =
      let is = free_is number lowest in
      cond-true _ _ _ (lt-ltb (free_number m) number_count (omega (arith, is, lowest.is))) ∙ ap added_at is

  -- if all numbers are taken, none is told
  pub told_none : IsLowestFreeIfAny (entry_of vars) None → free_outcome m ≡ without_entry NoFree
  told_none taken = cond-false _ _ _ (le-ltb (free_number m) number_count (past (free_number m) at_free.free))
    where
      past : (number : ℕ) → get m.entries number ≡ None → number_count ≤ number
      past number none = elim (cases_lt number number_count) [
        | inl below ↦ absurd (let clash : true ≡ false = sym (taken number below) ∙ ap is_some (stands.image.entry number below ∙ none) in cc)
        | inr above ↦ above
      ]
