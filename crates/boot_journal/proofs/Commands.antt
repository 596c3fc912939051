-- Commands: a settling, and then an update of what is settled. Where a cut comes in the two is where one comes in a command, and what
-- it leaves then stands for what was there, for what that falls back to, or for what the run leads to.
use Rattle.std.proofs.Common.{◌≡◌, inl, inr, ⊎_elim, ℕ, false, List, sym, ap, subst, ◌∙◌}
use Rattle.std.specs.List.{AllByRecursion}
use Rattle.std.specs.FinMap.{get}
use Rattle.uefi_vars.specs.Vars.{Variables}
use Rattle.uefi_vars.specs.BootChange.{changes_from, is_boot_name, IsNeeded}
use Rattle.uefi_vars.specs.Name.{keep_text}
use Rattle.boot_journal.specs.Store.{Store, seen, stands_for, brought, updated}
use Rattle.boot_journal.specs.Moments.{Leaves}
use Rattle.boot_journal.specs.Moves.{settled, IsSettling, IsUpdating}
use Rattle.boot_journal.specs.Commands.{IsCommanding, IsCommandMoment}
use Rattle.boot_journal.proofs.Moments.{then, weaker}
use Rattle.boot_journal.proofs.Settling.{settling_either}
use Rattle.boot_journal.proofs.Updates.{updating_either}
use Rattle.boot_journal.proofs.Making.{settled_stands, settled_idle, idle_stands, state_over}

-- what is read of a settled machine is what it stood for
pub settled_reads : (boot : List ℕ) (s mid : Store) → mid ≡ settled boot s → seen mid ≡ stands_for boot s
settled_reads boot s mid is = ap seen is ∙ sym (idle_stands boot (settled boot s) (settled_idle boot s)) ∙ settled_stands boot s

pub updated_stands : (boot : List ℕ) (mid new : Store) (to : Variables) → new ≡ updated mid to → stands_for boot new ≡ brought (seen mid) to
updated_stands boot mid new to is =
    ap (stands_for boot) is ∙ sym (state_over (get to keep_text) mid.journal.state (changes_from (seen mid) to) mid.variables)

-- ---- where a cut comes

-- after the settling it comes in an update of what is settled, to variables to which the run leads from what the machine stood for
pub command_updates : {A : Type 0} (leads : Variables → Variables → A → Type 0) (boot : List ℕ) (s mid c : Store) → mid ≡ settled boot s
    → (to : Variables) × (answer : A) × leads (seen mid) to answer × IsUpdating boot to mid c
    → IsCommanding (λ from to. (answer : A) × leads from to answer) boot s c
command_updates leads boot s mid c is did = inr (
  did.0,
  (did.1, subst (λ (v : Variables). leads v did.0 did.1) (settled_reads boot s mid is) did.2),
  subst (λ (m : Store). IsUpdating boot did.0 m c) is did.3,
)

pub command_moves : {A : Type 0} (leads : Variables → Variables → A → Type 0) (boot : List ℕ) (s mid : Store) (old middle new : List Store)
    → mid ≡ settled boot s → Leaves (IsSettling boot s) old middle
    → Leaves (λ c. (to : Variables) × (answer : A) × leads (seen mid) to answer × IsUpdating boot to mid c) middle new
    → Leaves (IsCommanding (λ from to. (answer : A) × leads from to answer) boot s) old new
command_moves {A} leads boot s mid old middle new is settling updating =
    let P = IsCommanding (λ from to. (answer : A) × leads from to answer) boot s in
    then P old middle new (weaker _ P _ _ (λ c at. inl at) settling) (weaker _ P _ _ (λ c did. command_updates leads boot s mid c is did) updating)

-- ---- what a command leaves

module _ (needed : (from to : Variables) → AllByRecursion (IsNeeded from to) (changes_from from to)) (no_keep : is_boot_name keep_text ≡ false) where
  pub command_moment : (Leads : Variables → Variables → Type 0) (boot : List ℕ) (s c : Store) → IsCommanding Leads boot s c → IsCommandMoment Leads boot s c
  command_moment Leads boot s c at = ⊎_elim
      (λ settling. inl (settling_either boot s c settling))
      (λ did. ⊎_elim
      (λ before. inl (inl (before ∙ settled_stands boot s)))
      (λ after. inr (did.0, did.1, after ∙ ap (λ (m : Variables). brought m did.0) (settled_stands boot s)))
      (updating_either needed no_keep boot did.0 (settled boot s) c (settled_idle boot s) did.2))
      at
