-- What BootOrder and BootNext name between the moves of an update. The variables are those after the first of its changes (`front_before`,
-- `front_after`), for which uefi_vars has the law, of sets; here it is carried over to what a machine keeps, with attributes and
-- with BootKeepState elsewhere (`order_law`, `next_law`).
use Rattle.std.proofs.Common.{◌≡◌, ◌≢◌, ◌⊎◌, ◌<◌, ◌^◌, map, inl, inr, ⊎_elim, ℕ, Bool, true, false, List, [], ◌∷◌, take, length, Option, Some, None, is_some}
use Rattle.std.proofs.Common.{Contains, refl, sym, ap, subst, ◌∙◌, arith}
use Rattle.std.specs.List.{AllByRecursion, IsDistinct}
use Rattle.std.specs.FinMap.{get}
use Rattle.std.specs.Option.{option_map}
use Rattle.std.proofs.lemmas.Bool.{true≢false}
use Rattle.std.proofs.lemmas.List.{take-map}
use Rattle.uefi_vars.specs.Name.{entry_text, order_text, next_text, keep_text}
use Rattle.uefi_vars.specs.Vars.{Variables}
use Rattle.uefi_vars.specs.NameChanges.{after_each}
use Rattle.uefi_vars.specs.BootChange.{ChangeParts, same_name, new_data, changed_names, change_under, changes_from, is_boot_name, IsNeeded, order_in}
use Rattle.uefi_vars.specs.BootChange.{DanglesInOrder, DanglesAsNext}
use Rattle.uefi_vars.proofs.Afterwards.{get_after}
use Rattle.uefi_vars.proofs.Fronts.{now_under, order_alike, next_alike}
use Rattle.boot_journal.specs.Attributes.{data_in, data_of}
use Rattle.boot_journal.specs.Changes.{made, IsFront}
use Rattle.boot_journal.specs.Store.{Store, IsIdle, seen, with_state}
use Rattle.boot_journal.specs.Journal.{PendingParts}
use Rattle.boot_journal.specs.Moves.{settled, settled_by}
use Rattle.boot_journal.specs.Events.{Event, Settles, Undoes, Updates, Fails, Starts, Firmware, world, happens, all_happen, without_next, IsUpdateTo}
use Rattle.boot_journal.specs.Events.{AreSettlings, AreSettlingsOrStarts, failing}
use Rattle.boot_journal.proofs.Single.{unlike, over, get-each}
use Rattle.boot_journal.proofs.WithAttributes.{get-data_of}
use Rattle.boot_journal.proofs.Boot.{get-without_next, at_other}
use Rattle.boot_journal.proofs.Between.{IsOf, Keeps, apart, own_onwards, own_backwards, settlings_keep, updating_keeps, starts_keep}
use Rattle.boot_journal.proofs.Making.{beside_state}
use Rattle.boot_journal.proofs.Updates.{tells_there}

-- ---- fronts

-- the first of the update's changes are made, and what is to be done, if anything, is of these changes
abbrev IsAmid : List ℕ → Store → Variables → Store → Type 0
IsAmid boot s to t = Keeps (changes_from (seen s) to) boot (IsFront (changes_from (seen s) to) s.variables) t

module _ (needed : (from to : Variables) → AllByRecursion (IsNeeded from to) (changes_from from to)) (no_keep : is_boot_name keep_text ≡ false)
    (distinct : (from to : Variables) → IsDistinct same_name (map (λ (c : ChangeParts). c.name) (changes_from from to))) where
  begun_keeps : (boot : List ℕ) (s : Store) (to : Variables) (k undone : ℕ) → IsIdle s → IsAmid boot s to (failing boot to k undone (settled boot s))
  begun_keeps boot s to k undone none =
      let cs = changes_from (seen s) to in
      subst (λ (t : Store). IsAmid boot s to (failing boot to k undone t)) (sym (ap (λ (p : Option PendingParts). settled_by p boot s) none))
      (updating_keeps cs s.variables (apart cs (distinct (seen s) to)) (tells_there needed no_keep s to) boot s.journal.state (get to keep_text) s k undone
      (record { variables = (0, refl); journal = subst (IsOf cs boot) (sym none) tt }))

  update_keeps : (boot : List ℕ) (s : Store) (to : Variables) (update : Event) → IsIdle s → IsUpdateTo to update
      → IsAmid boot s to (happens (world boot s) update).store × ((happens (world boot s) update).boot ≡ boot)
  update_keeps boot s to (Updates other k) none is =
      (subst (λ (t : Variables). IsAmid boot s to (failing boot t k 0 (settled boot s))) (sym is) (begun_keeps boot s to k 0 none), refl)
  update_keeps boot s to (Fails other k undone) none is =
      (subst (λ (t : Variables). IsAmid boot s to (failing boot t k undone (settled boot s))) (sym is) (begun_keeps boot s to k undone none), refl)
  update_keeps boot s to (Settles k) none is = elim is [ ]
  update_keeps boot s to (Undoes k undone) none is = elim is [ ]
  update_keeps boot s to (Starts boot' deletes) none is = elim is [ ]
  update_keeps boot s to (Firmware changes) none is = elim is [ ]

  all_keep : (boot : List ℕ) (s : Store) (to : Variables) (update : Event) (settlings : List Event) → IsIdle s → IsUpdateTo to update
      → AreSettlings settlings → IsAmid boot s to (all_happen (world boot s) (update ∷ settlings)).store
  all_keep boot s to update settlings none is settle =
      let cs = changes_from (seen s) to in
      let begun = update_keeps boot s to update none is in
      let a = apart cs (distinct (seen s) to) in
      let t = tells_there needed no_keep s to in
      settlings_keep cs boot boot (IsFront cs s.variables) (own_onwards cs s.variables a t boot) (own_backwards cs s.variables a t boot)
      (happens (world boot s) update) settlings begun.1 settle begun.0

  pub front_before : (boot : List ℕ) (s : Store) (to : Variables) (update : Event) (settlings : List Event)
      → IsIdle s → IsUpdateTo to update → AreSettlings settlings
      → IsFront (changes_from (seen s) to) s.variables (all_happen (world boot s) (update ∷ settlings)).store.variables
  front_before boot s to update settlings none is settle = (all_keep boot s to update settlings none is settle).variables

  pub front_after : (boot next_boot : List ℕ) (deletes : Bool) (s : Store) (to : Variables) (update : Event) (settlings later : List Event) →
      IsIdle s → IsUpdateTo to update → AreSettlings settlings → same_name next_boot boot ≡ false → AreSettlingsOrStarts boot later →
      (front : Variables) × (gone : Bool) × IsFront (changes_from (seen s) to) s.variables front
      × ((all_happen (all_happen (world boot s) (update ∷ settlings)) (Starts next_boot deletes ∷ later)).store.variables ≡ without_next gone front)
  front_after boot next_boot deletes s to update settlings later none is settle other after =
      let cs = changes_from (seen s) to in
      let before = all_happen (world boot s) (update ∷ settlings) in
      let keeps = all_keep boot s to update settlings none is settle in
      (starts_keep cs s.variables (apart cs (distinct (seen s) to)) (tells_there needed no_keep s to) boot
      (happens before (Starts next_boot deletes)) later other after
      (record { variables = (before.store.variables, deletes, keeps.variables, refl); journal = keeps.journal })).variables

-- ---- what is named

-- two maps agree on what is named and on whether it is there
record Agree (number : ℕ) (v w : Variables) : Type 0 where
  order : get v order_text ≡ get w order_text
  entry : get v (entry_text number) ≡ get w (entry_text number)

-- so do their sets
data_same : (v w : Variables) (q : List ℕ) → get v q ≡ get w q → get (data_of v) q ≡ get (data_of w) q
data_same v w q same = get-data_of v q ∙ ap (option_map (data_in q)) same ∙ sym (get-data_of w q)

data_agree : (number : ℕ) (v w : Variables) → Agree number v w → Agree number (data_of v) (data_of w)
data_agree number v w agree = record {
  order = data_same v w order_text agree.order;
  entry = data_same v w (entry_text number) agree.entry;
}

order_over : (number : ℕ) (v w : Variables) → Agree number v w → DanglesInOrder v number → DanglesInOrder w number
order_over number v w agree dangles = (
  subst (λ (x : Option (List ℕ)). Contains (order_in x) number) agree.order dangles.0,
  sym agree.entry ∙ dangles.1,
)

next_over : (number : ℕ) (v w : Variables) → Agree number v w → get v next_text ≡ get w next_text → DanglesAsNext v number → DanglesAsNext w number
next_over number v w agree same dangles = (dangles.0, sym same ∙ dangles.1, dangles.2, sym agree.entry ∙ dangles.3)

module _ (len : (number : ℕ) → length (entry_text number) ≡ 8) (no_next : (number : ℕ) → entry_text number ≢ next_text) where
  entry_not_keep : (number : ℕ) → same_name (entry_text number) keep_text ≡ false
  entry_not_keep number = unlike (entry_text number) keep_text (λ e.
      let same : ◌≡◌ {A = ℕ} 13 8 = sym (ap length e) ∙ len number in
      omega (arith, same))

  -- ---- without BootNext

  without_agrees : (gone : Bool) (m : Variables) (number : ℕ) → Agree number (without_next gone m) m
  without_agrees gone m number = record {
    order = at_other gone m order_text refl;
    entry = at_other gone m (entry_text number) (unlike (entry_text number) next_text (no_next number));
  }

  -- ---- with another BootKeepState

  state_apart : (state : Option (List ℕ)) (cs : List ChangeParts) (m : Variables) (q : List ℕ) → same_name q keep_text ≡ false
      → get (made cs m) q ≡ get (made cs (with_state state m)) q
  state_apart state cs m q other =
      get-each (new_data cs) m q
      ∙ ap (over (new_data cs) q) (sym (beside_state state m q other))
      ∙ sym (get-each (new_data cs) (with_state state m) q)

  made_agrees : (state : Option (List ℕ)) (cs : List ChangeParts) (m : Variables) (number : ℕ) → Agree number (made cs m) (made cs (with_state state m))
  made_agrees state cs m number = record {
    order = state_apart state cs m order_text refl;
    entry = state_apart state cs m (entry_text number) (entry_not_keep number);
  }

  back_agrees : (state : Option (List ℕ)) (m : Variables) (number : ℕ) → Agree number (with_state state m) m
  back_agrees state m number = record { order = sym (made_agrees state [] m number).order; entry = sym (made_agrees state [] m number).entry }

  -- ---- the laws

  -- what dangles once some of the changes are made dangles in what was there or in what they lead to: by the law on sets of changes,
  -- since BootKeepState is the only difference between what is read and what is there
  front_law : (number : ℕ) (D : Variables → Type 0) → ((v w : Variables) → Agree number v w → get v next_text ≡ get w next_text → D v → D w)
      → ((from to : Variables) (made : ℕ) → D (data_of (after_each from (new_data (take made (changes_from from to))))) → D (data_of from) ⊎ D (data_of to))
      → (s : Store) (to front : Variables) → IsFront (changes_from (seen s) to) s.variables front → D (data_of front)
      → D (data_of s.variables) ⊎ D (data_of to)
  front_law number D over law s to front is dangles =
      let cs = take is.0 (changes_from (seen s) to) in
      let state = s.journal.state in
      let vars = s.variables in
      let at_made = subst (λ (m : Variables). D (data_of m)) is.1 dangles in
      let at_seen = over (data_of (made cs vars)) (data_of (made cs (seen s)))
      (data_agree number (made cs vars) (made cs (seen s)) (made_agrees state cs vars number))
      (data_same (made cs vars) (made cs (seen s)) next_text (state_apart state cs vars next_text refl)) at_made in
      ⊎_elim
      (λ before. inl (over (data_of (seen s)) (data_of vars) (data_agree number (seen s) vars (back_agrees state vars number))
      (data_same (seen s) vars next_text (sym (state_apart state [] vars next_text refl))) before))
      (λ after. inr after)
      (law (seen s) to is.0 at_seen)

  pub order_law :
      ((from to : Variables) (made number : ℕ) → number < 2 ^ 16
      → DanglesInOrder (data_of (after_each from (new_data (take made (changes_from from to))))) number →
      DanglesInOrder (data_of from) number ⊎ DanglesInOrder (data_of to) number)
      → (s : Store) (to front : Variables) (gone : Bool) (number : ℕ) → number < 2 ^ 16 → IsFront (changes_from (seen s) to) s.variables front
      → DanglesInOrder (data_of (without_next gone front)) number →
      DanglesInOrder (data_of s.variables) number ⊎ DanglesInOrder (data_of to) number
  order_law law s to front gone number bound is dangles =
      front_law number (λ v. DanglesInOrder v number) (λ v w agree same. order_over number v w agree) (λ from to made. law from to made number bound)
      s to front is
      (order_over number (data_of (without_next gone front)) (data_of front)
      (data_agree number (without_next gone front) front (without_agrees gone front number)) dangles)

  next_kept : (gone : Bool) (m : Variables) (number : ℕ) → DanglesAsNext (data_of (without_next gone m)) number → DanglesAsNext (data_of m) number
  next_kept true m number dangles = absurd (true≢false (ap is_some
      (sym dangles.1 ∙ get-data_of (without_next true m) next_text ∙ ap (option_map (data_in next_text)) (get-without_next true m next_text))))
  next_kept false m number dangles = dangles

  pub next_law :
      ((from to : Variables) (made number : ℕ) → number < 2 ^ 16
      → DanglesAsNext (data_of (after_each from (new_data (take made (changes_from from to))))) number →
      DanglesAsNext (data_of from) number ⊎ DanglesAsNext (data_of to) number)
      → (s : Store) (to front : Variables) (gone : Bool) (number : ℕ) → number < 2 ^ 16 → IsFront (changes_from (seen s) to) s.variables front
      → DanglesAsNext (data_of (without_next gone front)) number →
      DanglesAsNext (data_of s.variables) number ⊎ DanglesAsNext (data_of to) number
  next_law law s to front gone number bound is dangles =
      front_law number (λ v. DanglesAsNext v number) (λ v w agree same. next_over number v w agree same) (λ from to made. law from to made number bound)
      s to front is (next_kept gone front number dangles)

-- ---- what is named after some of the changes

-- a set names what the variables do, and has none that they don't have
none_there : (q : List ℕ) (x : Option (List ℕ)) → option_map (data_in q) x ≡ None → x ≡ None
none_there q None none = refl
none_there q (Some kept) none = cc

gone_too : (v : Variables) (q : List ℕ) → get (data_of v) q ≡ None → get v q ≡ None
gone_too v q none = none_there q (get v q) (sym (get-data_of v q) ∙ none)

none_either : (v : Variables) (q : List ℕ) → get v q ≡ None → get (data_of v) q ≡ None
none_either v q none = get-data_of v q ∙ ap (option_map (data_in q)) none

after_some : (from to : Variables) (made : ℕ) (q : List ℕ)
    → get (after_each from (new_data (take made (changes_from from to)))) q ≡ now_under from to (take made (changed_names from to)) q
after_some from to made q =
    ap (λ (changes : List ChangeParts). get (after_each from (new_data changes)) q) (take-map (change_under from to) made (changed_names from to))
    ∙ get_after from to (take made (changed_names from to)) from q

module _ (no_order : (number : ℕ) → entry_text number ≢ order_text) (no_next : (number : ℕ) → entry_text number ≢ next_text)
    (apart_names : order_text ≢ next_text)
    (from to : Variables) (made number : ℕ) (below : number < 2 ^ 16) where
  abbrev now : Variables
  now = after_each from (new_data (take made (changes_from from to)))

  -- a set in which the variable is as it is now, and which has no such entry, has what dangles now
  order_at : (v : Variables) → get now order_text ≡ get v order_text → get v (entry_text number) ≡ None
      → DanglesInOrder (data_of now) number → DanglesInOrder (data_of v) number
  order_at v same none h = (
    subst (λ (x : Option (List ℕ)). Contains (order_in x) number) (data_same now v order_text same) h.0,
    none_either v (entry_text number) none,
  )

  next_at : (v : Variables) → get now next_text ≡ get v next_text → get v (entry_text number) ≡ None
      → DanglesAsNext (data_of now) number → DanglesAsNext (data_of v) number
  next_at v same none h = (h.0, sym (data_same now v next_text same) ∙ h.1, h.2, none_either v (entry_text number) none)

  pub order_in_data : DanglesInOrder (data_of now) number → DanglesInOrder (data_of from) number ⊎ DanglesInOrder (data_of to) number
  order_in_data h = ⊎_elim
      (λ before. inl (order_at from (after_some from to made order_text ∙ before.0) before.1 h))
      (λ after. inr (order_at to (after_some from to made order_text ∙ after.0) after.1 h))
      (order_alike from to no_order no_next apart_names made number below
      (sym (after_some from to made (entry_text number)) ∙ gone_too now (entry_text number) h.1))

  pub next_in_data : DanglesAsNext (data_of now) number → DanglesAsNext (data_of from) number ⊎ DanglesAsNext (data_of to) number
  next_in_data h = ⊎_elim
      (λ before. inl (next_at from (after_some from to made next_text ∙ before.0) before.1 h))
      (λ after. inr (next_at to (after_some from to made next_text ∙ after.0) after.1 h))
      (next_alike from to no_order no_next apart_names made number below
      (sym (after_some from to made (entry_text number)) ∙ gone_too now (entry_text number) h.3))
