-- The file of a trial tells of one trial.
use Rattle.std.proofs.Common.{◌≡◌, ◌≢◌, length, subst, ℕ, ◌<◌, ◌^◌, List, [], ◌∷◌, Option, Some, None, refl, sym, ap, ◌∙◌}
use Rattle.std.specs.FinMap.{empty, get, insert, get-insert, get-remove}
use Rattle.std.specs.Int.{w16, from_le_bytes, to_le_bytes}
use Rattle.std.proofs.lemmas.Cmp.{nat_list_cmp_total}
use Rattle.std.proofs.lemmas.Nat.{from_le_bytes-to_le_bytes_2}
use Rattle.uefi_vars.specs.NameChanges.{with_data}
use Rattle.uefi_vars.specs.Name.{IsName}
use Rattle.uefi_vars.specs.Order.{IsEntryNumber}
use Rattle.uefi_vars.specs.Set.{SpellsSet}
use Rattle.uefi_vars.specs.Vars.{Variables}
use Rattle.boot_trials.specs.declared.fault.TrialFault.{TrialFault}
use Rattle.boot_trials.specs.declared.fault.TrialFault.TheVariants.{NoSet, NoTrial, OutOfMemory}
use Rattle.boot_trials.specs.declared.stage.Stage.{Stage}
use Rattle.boot_trials.specs.declared.stage.Stage.TheVariants.{Open, Confirming}
use Rattle.boot_trials.specs.File.{digest_name, entry_name, order_name, stage_name, start_name, stage_byte, trial_vars, Tells, IsOther, IsTrialFault}
use Rattle.boot_trials.specs.Trial.{TrialParts, IsTrial, trial_of}

-- ---- what is under each name

abbrev file : List ℕ → List ℕ → List ℕ → List ℕ → Option (List ℕ) → Variables
file digest entry stage start order =
    with_data (insert (insert (insert (insert empty digest_name digest) entry_name entry) stage_name stage) start_name start) order_name order

at_digest : (digest entry stage start : List ℕ) (order : Option (List ℕ)) → get (file digest entry stage start order) digest_name ≡ Some digest
at_digest digest entry stage start None = simp (get-remove {X = List ℕ} nat_list_cmp_total, get-insert {X = List ℕ} nat_list_cmp_total)
at_digest digest entry stage start (Some order) = simp (get-insert {X = List ℕ} nat_list_cmp_total)

at_entry : (digest entry stage start : List ℕ) (order : Option (List ℕ)) → get (file digest entry stage start order) entry_name ≡ Some entry
at_entry digest entry stage start None = simp (get-remove {X = List ℕ} nat_list_cmp_total, get-insert {X = List ℕ} nat_list_cmp_total)
at_entry digest entry stage start (Some order) = simp (get-insert {X = List ℕ} nat_list_cmp_total)

at_stage : (digest entry stage start : List ℕ) (order : Option (List ℕ)) → get (file digest entry stage start order) stage_name ≡ Some stage
at_stage digest entry stage start None = simp (get-remove {X = List ℕ} nat_list_cmp_total, get-insert {X = List ℕ} nat_list_cmp_total)
at_stage digest entry stage start (Some order) = simp (get-insert {X = List ℕ} nat_list_cmp_total)

at_start : (digest entry stage start : List ℕ) (order : Option (List ℕ)) → get (file digest entry stage start order) start_name ≡ Some start
at_start digest entry stage start None = simp (get-remove {X = List ℕ} nat_list_cmp_total, get-insert {X = List ℕ} nat_list_cmp_total)
at_start digest entry stage start (Some order) = simp (get-insert {X = List ℕ} nat_list_cmp_total)

at_order : (digest entry stage start : List ℕ) (order : Option (List ℕ)) → get (file digest entry stage start order) order_name ≡ order
at_order digest entry stage start None = simp (get-remove {X = List ℕ} nat_list_cmp_total)
at_order digest entry stage start (Some order) = simp (get-insert {X = List ℕ} nat_list_cmp_total)

-- the variables of a trial's file tell of it
pub file_tells : (trial : TrialParts) → Tells (trial_vars trial) trial
file_tells trial =
    let digest = trial.digest in
    let entry = to_le_bytes w16 trial.entry in
    let stage = stage_byte trial.stage ∷ [] in
    let start = trial.start in
    let order = trial.order in
    record {
      digest = at_digest digest entry stage start order;
      entry = at_entry digest entry stage start order;
      stage = at_stage digest entry stage start order;
      start = at_start digest entry stage start order;
      order = at_order digest entry stage start order;
    }

-- ---- they tell of no other

one_number : (m n : ℕ) → m < 2 ^ 16 → n < 2 ^ 16 → to_le_bytes w16 m ≡ to_le_bytes w16 n → m ≡ n
one_number m n p q e = sym (from_le_bytes-to_le_bytes_2 m p) ∙ ap (from_le_bytes w16) e ∙ from_le_bytes-to_le_bytes_2 n q

one_stage : (a b : Stage) → stage_byte a ≡ stage_byte b → a ≡ b
one_stage Open Open e = refl
one_stage Open Confirming e = cc
one_stage Confirming Open e = cc
one_stage Confirming Confirming e = refl

same_parts : (m n : ℕ) (d e s t : List ℕ) (o p : Option (List ℕ)) (a b : Stage) → m ≡ n → d ≡ e → s ≡ t → o ≡ p → a ≡ b →
    trial_of m d s o a ≡ trial_of n e t p b
same_parts m n d e s t o p a b entry digest start order stage = cc

pub some_is : {A : Type 0} (x y : A) → Some x ≡ Some y → x ≡ y
some_is x y e = cc

head_is : (x y : ℕ) → x ∷ [] ≡ y ∷ [] → x ≡ y
head_is x y e = cc

pub told_once : (vars : Variables) (a b : TrialParts) → IsTrial a → IsTrial b → Tells vars a → Tells vars b → a ≡ b
told_once vars a b is_a is_b t u = same_parts _ _ _ _ _ _ _ _ _ _
    (one_number _ _ is_a.entry is_b.entry (some_is _ _ (sym t.entry ∙ u.entry)))
    (some_is _ _ (sym t.digest ∙ u.digest))
    (some_is _ _ (sym t.start ∙ u.start))
    (sym t.order ∙ u.order)
    (one_stage _ _ (head_is _ _ (some_is _ _ (sym t.stage ∙ u.stage))))

-- equal variables tell of equal trials
pub one_trial : (vars : Variables) (a b : TrialParts) → IsTrial a → IsTrial b → vars ≡ trial_vars a → vars ≡ trial_vars b → a ≡ b
one_trial vars a b is_a is_b e f =
    let t : Tells (trial_vars a) b = rw (sym e ∙ f) (file_tells b) in
    told_once (trial_vars a) a b is_a is_b (file_tells a) t

-- ---- variables of no trial's file

tells_at : (vars : Variables) (trial : TrialParts) → vars ≡ trial_vars trial → Tells vars trial
tells_at vars trial e = subst (λ (v : Variables). Tells v trial) (sym e) (file_tells trial)

module _ (vars : Variables) where
  pub no_entry : ((entry : ℕ) → IsEntryNumber entry → get vars entry_name ≡ Some (to_le_bytes w16 entry) → ⊥) → IsOther vars NoTrial
  no_entry none = (refl, λ trial is e. none trial.entry is.entry (tells_at vars trial e).entry)

  pub no_digest : ((digest : List ℕ) → length digest ≡ 32 → get vars digest_name ≡ Some digest → ⊥) → IsOther vars NoTrial
  no_digest none = (refl, λ trial is e. none trial.digest is.digest (tells_at vars trial e).digest)

  pub no_stage : ((stage : Stage) → get vars stage_name ≡ Some (stage_byte stage ∷ []) → ⊥) → IsOther vars NoTrial
  no_stage none = (refl, λ trial is e. none trial.stage (tells_at vars trial e).stage)

  pub no_start : ((start : List ℕ) → IsName start → get vars start_name ≡ Some start → ⊥) → IsOther vars NoTrial
  no_start none = (refl, λ trial is e. none trial.start is.start (tells_at vars trial e).start)

  -- they tell of a trial, and are not its file's: then they are that of none
  pub no_other : (trial : TrialParts) → IsTrial trial → Tells vars trial → vars ≢ trial_vars trial → IsOther vars NoTrial
  no_other trial is t differ = (
    refl,
    λ other is_other e.
        differ (e ∙ ap trial_vars (told_once vars other trial is_other is (tells_at vars other e) t)),
  )

-- the fault of a set that is of no trial's file
pub fault_of_set : (bytes : List ℕ) (vars : Variables) → ((other : Variables) → SpellsSet bytes vars → SpellsSet bytes other → vars ≡ other)
    → SpellsSet bytes vars → (f : TrialFault) → (f ≢ OutOfMemory → IsOther vars f) → IsTrialFault bytes f
fault_of_set bytes vars one spells (NoSet g) told =
    let other : NoSet g ≡ NoTrial = (told (λ e. cc)).0 in absurd (cc)
fault_of_set bytes vars one spells NoTrial told =
    ((vars, spells), λ trial spelled. (told (λ e. cc)).1 trial spelled.0 (one (trial_vars trial) spells spelled.1))
fault_of_set bytes vars one spells OutOfMemory told = tt
