-- What came of a trial.
use Rattle.std.specs.Prelude.{◌≡◌, ◌≢◌, ℕ, List, [], ◌∷◌, Option, Some, None, codes, option_and_then}
use Rattle.std.specs.FinMap.{get}
use Rattle.std.specs.Int.{w16, from_le_bytes}
use Rattle.std.specs.Option.{option_map}
use Rattle.sha2.specs.Sha256.{sha256}
use Rattle.uefi_vars.specs.Name.{next_text}
use Rattle.uefi_vars.specs.Order.{HasOrder}
use Rattle.uefi_vars.specs.Vars.{Variables, entry_of}
use Rattle.boot_trials.specs.declared.outcome.Outcome.{Outcome}
use Rattle.boot_trials.specs.declared.outcome.Outcome.TheVariants.{TooEarly, CameUp, Failed, Changed, Interrupted, Done}
use Rattle.boot_trials.specs.declared.stage.Stage.TheVariants.{Open, Confirming}
use Rattle.boot_trials.specs.Trial.{TrialParts}

abbrev pub current_name : List ℕ
current_name = codes "BootCurrent"

-- the number that two bytes are
abbrev pub number_in : List ℕ → Option ℕ
number_in [] = None
number_in (low ∷ []) = None
number_in (low ∷ high ∷ []) = Some (from_le_bytes w16 (low ∷ high ∷ []))
number_in (low ∷ high ∷ other ∷ rest) = None

-- the entry by which the machine came up, if the variables tell it
abbrev pub current_of : Variables → Option ℕ
current_of vars = option_and_then number_in (get vars current_name)

-- the entry that BootNext names, if it names one
abbrev pub next_of : Variables → Option ℕ
next_of vars = option_and_then number_in (get vars next_text)

-- the SHA-256 of the data of the entry, if it is there
abbrev pub digest_of : Variables → ℕ → Option (List ℕ)
digest_of vars entry = option_map sha256 (entry_of vars entry)

-- the entry is first in BootOrder
abbrev pub IsFirst : Variables → ℕ → Type 0
IsFirst vars entry = (rest : List ℕ) × HasOrder vars (entry ∷ rest)

-- Firmware has tried the entry: this is another start than that in which the trial began, and BootNext doesn't name the entry
-- any more. A kernel that starts another one makes a new start without firmware, and so without an end of BootNext.
abbrev pub IsTried : TrialParts → List ℕ → Variables → Type 0
IsTried trial start vars = (start ≢ trial.start) × (next_of vars ≢ Some trial.entry)

-- the trial is open, and firmware has tried the entry
abbrev pub IsDue : TrialParts → List ℕ → Variables → Type 0
IsDue trial start vars = (trial.stage ≡ Open) × IsTried trial start vars

-- This came of the trial, in this start, in which the machine came up by this entry, with these variables.
abbrev pub IsOutcome : TrialParts → List ℕ → Option ℕ → Variables → Outcome → Type 0
IsOutcome trial start current vars TooEarly = (trial.stage ≡ Open) × ¬ IsTried trial start vars
IsOutcome trial start current vars CameUp =
    IsDue trial start vars × (current ≡ Some trial.entry) × (digest_of vars trial.entry ≡ Some trial.digest)
IsOutcome trial start current vars Changed =
    IsDue trial start vars × (current ≡ Some trial.entry) × (digest_of vars trial.entry ≢ Some trial.digest)
IsOutcome trial start current vars (Failed by) =
    IsDue trial start vars × (current ≢ Some trial.entry) × (by ≡ current)
IsOutcome trial start current vars Interrupted = (trial.stage ≡ Confirming) × (IsFirst vars trial.entry → ⊥)
IsOutcome trial start current vars Done = (trial.stage ≡ Confirming) × IsFirst vars trial.entry
