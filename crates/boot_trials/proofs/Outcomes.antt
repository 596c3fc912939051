-- What came of a trial is one thing, and what it changes.
use Rattle.std.proofs.Common.{◌≡◌, ◌≢◌, ℕ, List, Option, refl, sym, ap, ◌∙◌}
use Rattle.uefi_vars.specs.Vars.{Variables}
use Rattle.boot_trials.specs.declared.outcome.Outcome.{Outcome}
use Rattle.boot_trials.specs.declared.outcome.Outcome.TheVariants.{TooEarly, CameUp, Failed, Changed, Interrupted, Done}
use Rattle.boot_trials.specs.Outcome.{IsOutcome}
use Rattle.boot_trials.specs.Run.{IsMade}
use Rattle.boot_trials.specs.Trial.{TrialParts}

module _ (trial : TrialParts) (start : List ℕ) (current : Option ℕ) (vars : Variables) where
  pub one_outcome : (a b : Outcome) → IsOutcome trial start current vars a → IsOutcome trial start current vars b → a ≡ b
  one_outcome TooEarly TooEarly p q = refl
  one_outcome TooEarly CameUp p q = absurd (p.1 q.0.1)
  one_outcome TooEarly Changed p q = absurd (p.1 q.0.1)
  one_outcome TooEarly (Failed by) p q = absurd (p.1 q.0.1)
  one_outcome TooEarly Interrupted p q = absurd (cc (p.0, q.0))
  one_outcome TooEarly Done p q = absurd (cc (p.0, q.0))
  one_outcome CameUp TooEarly p q = absurd (q.1 p.0.1)
  one_outcome CameUp CameUp p q = refl
  one_outcome CameUp Changed p q = absurd (q.2 p.2)
  one_outcome CameUp (Failed by) p q = absurd (q.1 p.1)
  one_outcome CameUp Interrupted p q = absurd (cc (p.0.0, q.0))
  one_outcome CameUp Done p q = absurd (cc (p.0.0, q.0))
  one_outcome Changed TooEarly p q = absurd (q.1 p.0.1)
  one_outcome Changed CameUp p q = absurd (p.2 q.2)
  one_outcome Changed Changed p q = refl
  one_outcome Changed (Failed by) p q = absurd (q.1 p.1)
  one_outcome Changed Interrupted p q = absurd (cc (p.0.0, q.0))
  one_outcome Changed Done p q = absurd (cc (p.0.0, q.0))
  one_outcome (Failed by) TooEarly p q = absurd (q.1 p.0.1)
  one_outcome (Failed by) CameUp p q = absurd (p.1 q.1)
  one_outcome (Failed by) Changed p q = absurd (p.1 q.1)
  one_outcome (Failed by) (Failed other) p q = ap (λ (o : Option ℕ). Failed o) (p.2 ∙ sym q.2)
  one_outcome (Failed by) Interrupted p q = absurd (cc (p.0.0, q.0))
  one_outcome (Failed by) Done p q = absurd (cc (p.0.0, q.0))
  one_outcome Interrupted TooEarly p q = absurd (cc (p.0, q.0))
  one_outcome Interrupted CameUp p q = absurd (cc (p.0, q.0.0))
  one_outcome Interrupted Changed p q = absurd (cc (p.0, q.0.0))
  one_outcome Interrupted (Failed by) p q = absurd (cc (p.0, q.0.0))
  one_outcome Interrupted Interrupted p q = refl
  one_outcome Interrupted Done p q = absurd (p.1 q.1)
  one_outcome Done TooEarly p q = absurd (cc (p.0, q.0))
  one_outcome Done CameUp p q = absurd (cc (p.0, q.0.0))
  one_outcome Done Changed p q = absurd (cc (p.0, q.0.0))
  one_outcome Done (Failed by) p q = absurd (cc (p.0, q.0.0))
  one_outcome Done Interrupted p q = absurd (q.1 p.1)
  one_outcome Done Done p q = refl

-- nothing is made but by the one outcome
pub only_came_up : (entry : ℕ) (outcome : Outcome) (from to : Variables) → IsMade entry outcome from to → outcome ≢ CameUp → to ≡ from
only_came_up entry CameUp from to made other = absurd (other refl)
only_came_up entry TooEarly from to made other = made
only_came_up entry Changed from to made other = made
only_came_up entry (Failed by) from to made other = made
only_came_up entry Interrupted from to made other = made
only_came_up entry Done from to made other = made

-- so what is made is made by that one
pub made_by : (entry : ℕ) (outcome : Outcome) (from to : Variables) → IsMade entry outcome from to → to ≢ from → outcome ≡ CameUp
made_by entry CameUp from to made other = refl
made_by entry TooEarly from to made other = absurd (other made)
made_by entry Changed from to made other = absurd (other made)
made_by entry (Failed by) from to made other = absurd (other made)
made_by entry Interrupted from to made other = absurd (other made)
made_by entry Done from to made other = absurd (other made)
