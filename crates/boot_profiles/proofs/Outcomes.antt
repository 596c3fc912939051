-- A profile has one outcome, or a fault, and not both.
use Rattle.std.proofs.Common.{◌≡◌, ◌⊎◌, ℕ, ◌+◌, true, false, List, [], ◌∷◌, length, Option, Some, None, refl, sym, ap, subst, ◌∙◌, inl, inr, IsSome, arith}
use Rattle.std.specs.FinMap.{insert}
use Rattle.std.proofs.lemmas.Bool.{cases_order, false≢true}
use Rattle.std.proofs.lemmas.Option.{none-some}
use Rattle.uefi_vars.specs.Free.{IsLowestFree}
use Rattle.uefi_vars.specs.Name.{entry_text}
use Rattle.uefi_vars.specs.Order.{stored_order, stored_next}
use Rattle.uefi_vars.specs.Vars.{Variables, entry_of}
use Rattle.uefi_vars.proofs.EntriesAtRisk.{one_list}
use Rattle.boot_requests.specs.Apply.{without_all}
use Rattle.boot_edits.specs.Addition.{IsOrderFault as IsAddedOrderFault}
use Rattle.boot_edits.specs.Edit.{IsRemoved, IsRemoveFault, IsFrontOrder, IsNewOrder, IsOrderOf, IsReordered, IsReorderFault, IsNextSet}
use Rattle.boot_edits.specs.Lists.{IsMissing, IsStale}
use Rattle.boot_edits.specs.Orders.{with_last, next_without_all}
use Rattle.boot_edits.specs.Parts.{parts_of, Becomes, entries_with, entries_changed}
use Rattle.boot_edits.specs.Readings.{HasOneReading}
use Rattle.boot_edits.specs.declared.addition.Position.TheVariants.{Last}
use Rattle.boot_edits.specs.declared.fault.EditFault.{EditFault}
use Rattle.boot_edits.proofs.Lists.{fine_or_not}
use Rattle.boot_edits.proofs.Outcomes.{one_becomes, one_front, one_new}
use Rattle.boot_profiles.specs.declared.fault.EntryFault.{EntryFault}
use Rattle.boot_profiles.specs.declared.fault.EntryFault.TheVariants.{Twice, BadOption, OtherDescription, Ambiguous, Edit}
use Rattle.boot_profiles.specs.declared.fault.NameFault.{NameFault}
use Rattle.boot_profiles.specs.declared.fault.NameFault.TheVariants as name_fault
use Rattle.boot_profiles.specs.declared.fault.ProfileFault.{ProfileFault}
use Rattle.boot_profiles.specs.declared.fault.ProfileFault.TheVariants as profile_fault
use Rattle.boot_profiles.specs.declared.profile.EntryState.{EntryState}
use Rattle.boot_profiles.specs.declared.profile.EntryState.TheVariants.{Absent, Present}
use Rattle.boot_profiles.specs.declared.profile.PresentEntry.{PresentEntry}
use Rattle.boot_profiles.specs.declared.profile.Profile.{Profile}
use Rattle.boot_profiles.specs.declared.profile.ProfileEntry.{ProfileEntry}
use Rattle.boot_profiles.specs.declared.profile.ProfileNext.{ProfileNext}
use Rattle.boot_profiles.specs.declared.profile.ProfileNext.TheVariants as next
use Rattle.boot_profiles.specs.declared.profile.ProfileOrder.{ProfileOrder}
use Rattle.boot_profiles.specs.declared.profile.ProfileOrder.TheVariants as order
use Rattle.boot_profiles.specs.declared.profile.ProfileTimeout.{ProfileTimeout}
use Rattle.boot_profiles.specs.declared.profile.ProfileTimeout.TheVariants as timeout
use Rattle.boot_profiles.specs.Applied.{AreSteps, IsStepsFault, IsOrdered, IsApplied, IsUnordered, IsProfileFault}
use Rattle.boot_profiles.specs.Described.{HasDescription, IsDescribed, IsNumberOf, IsUnknown, IsNamed}
use Rattle.boot_profiles.specs.Entry.{wanted_bytes, IsNew, IsReplaced, IsPresentStep, IsTakenOut, IsAbsentStep, IsStateStep, IsNewFault, IsReplaceFault}
use Rattle.boot_profiles.specs.Entry.{IsOwnFault, IsPlaceFault, IsPresentFault, IsTakenOutFault, IsAbsentFault, IsStateFault}
use Rattle.boot_profiles.specs.Order.{AreNamed, IsNameFault, IsNamesFault, IsPutFirst, IsPutAlone, IsOrderStep, IsOrderFault}
use Rattle.boot_profiles.specs.Order.{IsNextStep, IsNextFault, IsTimeoutStep}
use Rattle.boot_profiles.proofs.Descriptions.{one_description}

-- ---- entries that are taken out

module _ (one : HasOneReading) (vars : Variables) where
  removed_once : (numbers : List ℕ) (a b : Variables) → IsRemoved vars numbers a → IsRemoved vars numbers b → a ≡ b
  removed_once numbers a b p q =
      let order = one.order vars p.order q.order p.has_order q.has_order in
      let next = one.next vars p.next q.next p.has_next q.has_next in
      one_becomes vars _ a b
      (subst (λ (o : List ℕ). Becomes vars
      (record {
        entries = entries_changed numbers (λ bytes. None) (entry_of vars);
        order = stored_order (without_all numbers o);
        next = stored_next (next_without_all numbers q.next);
      }) a) order
      (subst (λ (n : Option ℕ). Becomes vars
      (record {
        entries = entries_changed numbers (λ bytes. None) (entry_of vars);
        order = stored_order (without_all numbers p.order);
        next = stored_next (next_without_all numbers n);
      }) a) next
      p.becomes))
      q.becomes

  remove_or_not : (numbers : List ℕ) (to : Variables) (f : EditFault) → IsRemoved vars numbers to → IsRemoveFault vars numbers f → ⊥
  remove_or_not numbers to f p (inl first) = fine_or_not (IsMissing vars) numbers p.fine f first
  remove_or_not numbers to f p (inr (fine, inl bad)) = one.bad_order vars p.order bad.1 p.has_order
  remove_or_not numbers to f p (inr (fine, inr bad)) = one.bad_next vars p.next bad.2 p.has_next

  out_once : (numbers : List ℕ) (a b : Variables) → IsTakenOut vars numbers a → IsTakenOut vars numbers b → a ≡ b
  out_once [] a b p q = p ∙ sym q
  out_once (n ∷ numbers) a b p q = removed_once (n ∷ numbers) a b p q

  out_or_not : (numbers : List ℕ) (to : Variables) (f : EditFault) → IsTakenOut vars numbers to → IsTakenOutFault vars numbers f → ⊥
  out_or_not [] to f p q = q
  out_or_not (n ∷ numbers) to f p q = remove_or_not (n ∷ numbers) to f p q

  module _ (d : List ℕ) where
    absent_once : (a b : Variables) → IsAbsentStep vars d a → IsAbsentStep vars d b → a ≡ b
    absent_once a b (m, those_m, p) (n, those_n, q) =
        out_once n a b (subst (λ (l : List ℕ). IsTakenOut vars l a) (one_list (IsNumberOf vars d) m n those_m those_n) p) q

    absent_or_not : (to : Variables) (f : EntryFault) → IsAbsentStep vars d to → IsAbsentFault vars d f → ⊥
    absent_or_not to Twice p q = q
    absent_or_not to (BadOption f) p q = q
    absent_or_not to OtherDescription p q = q
    absent_or_not to Ambiguous p q = q
    absent_or_not to (Edit f) (m, those_m, p) (n, those_n, q) =
        out_or_not n to f (subst (λ (l : List ℕ). IsTakenOut vars l to) (one_list (IsNumberOf vars d) m n those_m those_n) p) q

  -- ---- new entries

  not_both : (x : Option (List ℕ)) → IsSome x → x ≡ None → ⊥
  not_both None some none = false≢true some
  not_both (Some bytes) some none = none-some bytes (sym none)

  one_free : (m n : ℕ) → IsLowestFree (entry_of vars) m → IsLowestFree (entry_of vars) n → m ≡ n
  one_free m n p q = elim (cases_order m n) [
    | inl same ↦ same
    | inr (inl below) ↦ absurd (not_both (entry_of vars m) (q.taken m below) p.free)
    | inr (inr above) ↦ absurd (not_both (entry_of vars n) (p.taken n above) q.free)
  ]

  module _ (bytes : List ℕ) where
    new_once : (a b : Variables) → IsNew vars bytes a → IsNew vars bytes b → a ≡ b
    new_once a b p q =
        one_becomes vars _ a b
        (subst (λ (n : ℕ). Becomes vars
        (record (parts_of vars) { entries = entries_with n bytes (entry_of vars); order = stored_order (with_last q.order n) }) a)
        (one_free p.number q.number p.free q.free)
        (subst (λ (o : List ℕ). Becomes vars
        (record (parts_of vars) { entries = entries_with p.number bytes (entry_of vars); order = stored_order (with_last o p.number) }) a)
        (one.order vars p.order q.order p.has_order q.has_order) p.becomes))
        q.becomes

    placed_or_not : (to : Variables) (p : IsNew vars bytes to) (f : EditFault) → IsAddedOrderFault vars Last p.number f → ⊥
    placed_or_not to p f (inl bad) = one.bad_order vars p.order bad.1 p.has_order
    placed_or_not to p f (inr (is, (o, has, long))) =
        let same = ap (λ (l : List ℕ). length (with_last l p.number)) (one.order vars o p.order has p.has_order) in
        omega (arith, same, long, p.has_room)

    new_or_not : (to : Variables) (f : EditFault) → IsNew vars bytes to → IsNewFault vars bytes f → ⊥
    new_or_not to f p (inl none) = none.1 p.number p.free.is p.free.free
    new_or_not to f p (inr (n, free, inl long)) = omega (arith, p.fits, long.1)
    new_or_not to f p (inr (n, free, inr place)) =
        placed_or_not to p f (subst (λ (k : ℕ). IsAddedOrderFault vars Last k f) (one_free n p.number free p.free) place.1)

  -- ---- entries that are replaced

  module _ (d : List ℕ) (entry : PresentEntry) where
    one_there : (m n : ℕ) (a b : List ℕ) → IsDescribed vars d m a → IsDescribed vars d n b → m ≡ n → a ≡ b
    one_there m n a b p q same =
        let stored = subst (λ (k : ℕ). entry_of vars k ≡ Some a) same p.stored in
        same_some (sym stored ∙ q.stored)
      where
        same_some : Some a ≡ Some b → a ≡ b
        same_some e = cc e

    replaced_once : (a b : Variables) → IsReplaced vars d entry a → IsReplaced vars d entry b → a ≡ b
    replaced_once a b p q =
        let number = q.alone p.number (p.bytes, p.here) in
        let bytes = one_there p.number q.number p.bytes q.bytes p.here q.here number in
        p.is ∙ ap (λ (n : ℕ). insert vars (entry_text n) (wanted_bytes entry p.bytes)) number
        ∙ ap (λ (l : List ℕ). insert vars (entry_text q.number) (wanted_bytes entry l)) bytes ∙ sym q.is

    replaced_or_not : (to : Variables) (f : EditFault) → IsReplaced vars d entry to → IsReplaceFault vars d entry f → ⊥
    replaced_or_not to f p q =
        let number = q.alone p.number (p.bytes, p.here) in
        let bytes = one_there p.number q.number p.bytes q.bytes p.here q.here number in
        let len = ap (λ (l : List ℕ). length (wanted_bytes entry l)) bytes in
        omega (arith, len, p.fits, q.long)

    present_once : (a b : Variables) → IsPresentStep vars d entry a → IsPresentStep vars d entry b → a ≡ b
    present_once a b (own, inl p) (_, inl q) = new_once (wanted_bytes entry entry.option.items) a b p.1 q.1
    present_once a b (own, inl p) (_, inr q) = absurd (p.0 q.number (q.bytes, q.here))
    present_once a b (own, inr p) (_, inl q) = absurd (q.0 p.number (p.bytes, p.here))
    present_once a b (own, inr p) (_, inr q) = replaced_once a b p q

    own_or_not : (f : EntryFault) → HasDescription entry.option.items d → IsOwnFault entry.option.items d f → ⊥
    own_or_not Twice p q = q
    own_or_not (BadOption f) p q = one.no_option entry.option.items f p.option q p.spelled
    own_or_not OtherDescription p q = q.differ (one_description one.option entry.option.items q.other d q.has p)
    own_or_not Ambiguous p q = q
    own_or_not (Edit f) p q = q

    place_or_not : (to : Variables) (f : EntryFault) → (IsUnknown vars d × IsNew vars (wanted_bytes entry entry.option.items) to) ⊎ IsReplaced vars d entry to →
        IsPlaceFault vars d entry f → ⊥
    place_or_not to Twice p q = q
    place_or_not to (BadOption f) p q = q
    place_or_not to OtherDescription p q = q
    place_or_not to Ambiguous (inl p) q = p.0 q.first q.is_first
    place_or_not to Ambiguous (inr p) q = q.differ (p.alone q.first q.is_first ∙ sym (p.alone q.second q.is_second))
    place_or_not to (Edit f) (inl p) (inl q) = new_or_not (wanted_bytes entry entry.option.items) to f p.1 q.1
    place_or_not to (Edit f) (inl p) (inr q) = p.0 q.number (q.bytes, q.here)
    place_or_not to (Edit f) (inr p) (inl q) = q.0 p.number (p.bytes, p.here)
    place_or_not to (Edit f) (inr p) (inr q) = replaced_or_not to f p q

    present_or_not : (to : Variables) (f : EntryFault) → IsPresentStep vars d entry to → IsPresentFault vars d entry f → ⊥
    present_or_not to f p (inl q) = own_or_not f p.0 q
    present_or_not to f p (inr q) = place_or_not to f p.1 q.1

  state_once : (d : List ℕ) (state : EntryState) (a b : Variables) → IsStateStep vars d state a → IsStateStep vars d state b → a ≡ b
  state_once d Absent a b p q = absent_once d a b p q
  state_once d (Present entry) a b p q = present_once d entry a b p q

  state_or_not : (d : List ℕ) (state : EntryState) (to : Variables) (f : EntryFault) → IsStateStep vars d state to → IsStateFault vars d state f → ⊥
  state_or_not d Absent to f p q = absent_or_not d to f p q
  state_or_not d (Present entry) to f p q = present_or_not d entry to f p q

-- ---- all entries

module _ (one : HasOneReading) where
  steps_once : (entries : List ProfileEntry) (from a b : Variables) → AreSteps entries from a → AreSteps entries from b → a ≡ b
  steps_once [] from a b p q = p ∙ sym q
  steps_once (entry ∷ entries) from a b (m, step_m, p) (n, step_n, q) =
      let same = state_once one from entry.description entry.state m n step_m.made step_n.made in
      steps_once entries n a b (subst (λ (v : Variables). AreSteps entries v a) same p) q

  steps_or_not : (entries : List ProfileEntry) (first : ℕ) (from to : Variables) (place : ℕ) (f : EntryFault) → AreSteps entries from to →
      IsStepsFault first entries from place f → ⊥
  steps_or_not [] first from to place f p q = q
  steps_or_not (entry ∷ entries) first from to place f (m, step, p) (inl (at, inl twice)) = step.own twice.1
  steps_or_not (entry ∷ entries) first from to place f (m, step, p) (inl (at, inr why)) =
      state_or_not one from entry.description entry.state m f step.made why.1
  steps_or_not (entry ∷ entries) first from to place f (m, step_m, p) (inr (n, step_n, q)) =
      let same = state_once one from entry.description entry.state m n step_m.made step_n.made in
      steps_or_not entries (first + 1) n to place f (subst (λ (v : Variables). AreSteps entries v to) same p) q

  -- ---- names

  module _ (vars : Variables) where
    names_once : (names : List (List ℕ)) (m n : List ℕ) → AreNamed vars names m → AreNamed vars names n → m ≡ n
    names_once [] [] [] p q = refl
    names_once [] [] (y ∷ n) p q = absurd q
    names_once [] (x ∷ m) n p q = absurd p
    names_once (d ∷ names) [] n p q = absurd p
    names_once (d ∷ names) (x ∷ m) [] p q = absurd q
    names_once (d ∷ names) (x ∷ m) (y ∷ n) p q =
        ap (λ (k : ℕ). k ∷ m) (q.0.alone x p.0.here) ∙ ap (λ (l : List ℕ). y ∷ l) (names_once names m n p.1 q.1)

    name_or_not : (d : List ℕ) (number : ℕ) (f : NameFault) → IsNamed vars d number → IsNameFault vars d f → ⊥
    name_or_not d number name_fault.Unknown p q = q number p.here
    name_or_not d number name_fault.Ambiguous p q = q.differ (p.alone q.first q.is_first ∙ sym (p.alone q.second q.is_second))

    names_or_not : (names : List (List ℕ)) (numbers : List ℕ) (first place : ℕ) (f : NameFault) → AreNamed vars names numbers →
        IsNamesFault vars first names place f → ⊥
    names_or_not [] numbers first place f p q = q
    names_or_not (d ∷ names) [] first place f p q = p
    names_or_not (d ∷ names) (n ∷ numbers) first place f p (inl q) = name_or_not d n f p.0 q.1
    names_or_not (d ∷ names) (n ∷ numbers) first place f p (inr q) = names_or_not names numbers (first + 1) place f p.1 q.1

    -- ---- BootOrder

    put_once : (IsRefused : ℕ → EditFault → Type 0) (numbers : List ℕ) (IsSo : List ℕ → Type 0) → ((m n : List ℕ) → IsSo m → IsSo n → m ≡ n) →
        (a b : Variables) → IsReordered vars IsRefused numbers IsSo a → IsReordered vars IsRefused numbers IsSo b → a ≡ b
    put_once IsRefused numbers IsSo one_order a b p q =
        one_becomes vars _ a b (subst (λ (o : List ℕ). IsOrderOf vars o a) (one_order p.order q.order p.is q.is) p.becomes) q.becomes

    put_or_not : (IsRefused : ℕ → EditFault → Type 0) (numbers : List ℕ) (IsSo : List ℕ → Type 0) → ((m n : List ℕ) → IsSo m → IsSo n → m ≡ n) →
        (to : Variables) (f : EditFault) → IsReordered vars IsRefused numbers IsSo to → IsReorderFault IsRefused numbers IsSo f → ⊥
    put_or_not IsRefused numbers IsSo one_order to f p (inl first) = fine_or_not IsRefused numbers p.fine f first
    put_or_not IsRefused numbers IsSo one_order to f p (inr (fine, is, (o, so, long))) =
        let len : length o ≡ length p.order = ap length (one_order o p.order so p.is) in
        omega (arith, len, long, p.fits)

    first_once : (numbers : List ℕ) (a b : Variables) → IsPutFirst vars numbers a → IsPutFirst vars numbers b → a ≡ b
    first_once numbers a b p q = put_once (IsMissing vars) numbers (IsFrontOrder vars numbers) (one_front one vars numbers) a b p q

    alone_once : (numbers : List ℕ) (a b : Variables) → IsPutAlone vars numbers a → IsPutAlone vars numbers b → a ≡ b
    alone_once numbers a b p q = put_once (IsStale false vars) numbers (IsNewOrder vars true numbers) (one_new one vars true numbers) a b p q

    order_once : (o : ProfileOrder) (a b : Variables) → IsOrderStep vars o a → IsOrderStep vars o b → a ≡ b
    order_once order.Kept a b p q = p ∙ sym q
    order_once (order.First names) a b (m, named_m, p) (n, named_n, q) =
        first_once n a b (subst (λ (l : List ℕ). IsPutFirst vars l a) (names_once names.items m n named_m named_n) p) q
    order_once (order.Only names) a b (m, named_m, p) (n, named_n, q) =
        alone_once n a b (subst (λ (l : List ℕ). IsPutAlone vars l a) (names_once names.items m n named_m named_n) p) q

    order_or_not : (o : ProfileOrder) (to : Variables) (f : ProfileFault) → IsOrderStep vars o to → IsOrderFault vars o f → ⊥
    order_or_not order.Kept to f p q = q
    order_or_not (order.First names) to (profile_fault.Entry place f) p q = q
    order_or_not (order.First names) to (profile_fault.OrderName place f) p q = names_or_not names.items p.0 0 place f p.1 q
    order_or_not (order.First names) to (profile_fault.Order f) (m, named_m, p) (n, named_n, q) =
        put_or_not (IsMissing vars) n (IsFrontOrder vars n) (one_front one vars n) to f
        (subst (λ (l : List ℕ). IsPutFirst vars l to) (names_once names.items m n named_m named_n) p) q
    order_or_not (order.First names) to (profile_fault.Next f) p q = q
    order_or_not (order.Only names) to (profile_fault.Entry place f) p q = q
    order_or_not (order.Only names) to (profile_fault.OrderName place f) p q = names_or_not names.items p.0 0 place f p.1 q
    order_or_not (order.Only names) to (profile_fault.Order f) (m, named_m, p) (n, named_n, q) =
        put_or_not (IsStale false vars) n (IsNewOrder vars true n) (one_new one vars true n) to f
        (subst (λ (l : List ℕ). IsPutAlone vars l to) (names_once names.items m n named_m named_n) p) q
    order_or_not (order.Only names) to (profile_fault.Next f) p q = q

    -- ---- BootNext and Timeout

    next_set_once : (n : Option ℕ) (a b : Variables) → IsNextSet vars n a → IsNextSet vars n b → a ≡ b
    next_set_once None a b p q = one_becomes vars _ a b p q
    next_set_once (Some n) a b p q = one_becomes vars _ a b p.1 q.1

    next_once : (x : ProfileNext) (a b : Variables) → IsNextStep vars x a → IsNextStep vars x b → a ≡ b
    next_once next.Kept a b p q = p ∙ sym q
    next_once next.Gone a b p q = next_set_once None a b p q
    next_once (next.Entry name) a b (m, named_m, p) (n, named_n, q) =
        next_set_once (Some n) a b (subst (λ (k : ℕ). IsNextSet vars (Some k) a) (named_n.alone m named_m.here) p) q

    next_or_not : (x : ProfileNext) (to : Variables) (f : NameFault) → IsNextStep vars x to → IsNextFault vars x f → ⊥
    next_or_not next.Kept to f p q = q
    next_or_not next.Gone to f p q = q
    next_or_not (next.Entry name) to f p q = name_or_not name p.0 f p.1 q

    timeout_once : (t : ProfileTimeout) (a b : Variables) → IsTimeoutStep vars t a → IsTimeoutStep vars t b → a ≡ b
    timeout_once timeout.Kept a b p q = p ∙ sym q
    timeout_once timeout.Gone a b p q = p ∙ sym q
    timeout_once (timeout.Seconds seconds) a b p q = p ∙ sym q

  -- ---- whole profiles

  module _ (profile : Profile) (from : Variables) where
    ordered_once : (a b : Variables) → IsOrdered profile from a → IsOrdered profile from b → a ≡ b
    ordered_once a b p q =
        let same = steps_once profile.entries.items from p.with_entries q.with_entries p.entries q.entries in
        order_once q.with_entries profile.order a b (subst (λ (v : Variables). IsOrderStep v profile.order a) same p.order) q.order

    pub applied_once : (a b : Variables) → IsApplied profile from a → IsApplied profile from b → a ≡ b
    applied_once a b p q =
        let between = ordered_once p.with_order q.with_order p.ordered q.ordered in
        let after = next_once q.with_order profile.next p.with_next q.with_next
        (subst (λ (v : Variables). IsNextStep v profile.next p.with_next) between p.next) q.next in
        timeout_once q.with_next profile.timeout a b (subst (λ (v : Variables). IsTimeoutStep v profile.timeout a) after p.timeout) q.timeout

    unordered_or_not : (to : Variables) (f : ProfileFault) → IsOrdered profile from to → IsUnordered profile from f → ⊥
    unordered_or_not to f p q =
        let same = steps_once profile.entries.items from p.with_entries q.with_entries p.entries q.entries in
        order_or_not q.with_entries profile.order to f (subst (λ (v : Variables). IsOrderStep v profile.order to) same p.order) q.fault

    pub applied_or_not : (to : Variables) (f : ProfileFault) → IsApplied profile from to → IsProfileFault profile from f → ⊥
    applied_or_not to (profile_fault.Entry place f) p q =
        steps_or_not profile.entries.items 0 from p.ordered.with_entries place f p.ordered.entries q
    applied_or_not to (profile_fault.OrderName place f) p q = unordered_or_not p.with_order (profile_fault.OrderName place f) p.ordered q
    applied_or_not to (profile_fault.Order f) p q = unordered_or_not p.with_order (profile_fault.Order f) p.ordered q
    applied_or_not to (profile_fault.Next f) p q =
        let between = ordered_once p.with_order q.with_order p.ordered q.ordered in
        next_or_not q.with_order profile.next p.with_next f (subst (λ (v : Variables). IsNextStep v profile.next p.with_next) between p.next) q.fault
