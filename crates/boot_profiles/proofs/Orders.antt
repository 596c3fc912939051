-- What profiles make of BootOrder, BootNext and Timeout: afterwards these are met, and entries stay.
use Rattle.std.proofs.Common.{◌≡◌, ◌≢◌, ℕ, zero, suc, ◌<◌, ◌≤◌, false, List, [], ◌∷◌, length, get_or, Option, Some, None, refl, sym, ap, subst, ◌∙◌, inl, inr, arith}
use Rattle.std.specs.FinMap.{get}
use Rattle.std.specs.List.{AllByRecursion}
use Rattle.std.proofs.lemmas.Option.{none-some}
use Rattle.uefi_vars.specs.Name.{entry_text, order_text, next_text, timeout_text}
use Rattle.uefi_vars.specs.NameChanges.{with_data}
use Rattle.uefi_vars.specs.Order.{order_max, IsEntryNumber, stored_order, stored_next}
use Rattle.uefi_vars.specs.Vars.{Variables, entry_of}
use Rattle.uefi_vars.proofs.Numbers.{HasOrder-along}
use Rattle.boot_requests.specs.Apply.{in_front}
use Rattle.boot_requests.proofs.Variables.Stored.{stored_here, stored_beside, stored_again}
use Rattle.boot_edits.specs.Edit.{stored_timeout}
use Rattle.boot_edits.specs.Lists.{IsMissing, IsStale, AreFine}
use Rattle.boot_edits.specs.Parts.{parts_of, IsOldOrder, IsOtherName}
use Rattle.boot_edits.proofs.Parts.{as_it_was, retell_order, retell_next}
use Rattle.boot_profiles.specs.declared.profile.ProfileNext.{ProfileNext}
use Rattle.boot_profiles.specs.declared.profile.ProfileNext.TheVariants as next
use Rattle.boot_profiles.specs.declared.profile.ProfileOrder.{ProfileOrder}
use Rattle.boot_profiles.specs.declared.profile.ProfileOrder.TheVariants as order
use Rattle.boot_profiles.specs.declared.profile.ProfileTimeout.{ProfileTimeout}
use Rattle.boot_profiles.specs.declared.profile.ProfileTimeout.TheVariants as timeout
use Rattle.boot_profiles.specs.Met.{AreFirst, AreAlone, IsOrderMet, IsNextMet, IsTimeoutMet}
use Rattle.boot_profiles.specs.Order.{AreNamed, IsPutFirst, IsPutAlone, IsOrderStep, IsNextStep, IsTimeoutStep}
use Rattle.boot_profiles.proofs.Descriptions.{KeepsEntries, same_entries, named_kept}
use Rattle.boot_profiles.proofs.Numbers.{all_front, front_again}

-- ---- names

pub names_kept : (from to : Variables) → KeepsEntries from to → (names : List (List ℕ)) (numbers : List ℕ) → AreNamed from names numbers → AreNamed to names numbers
names_kept from to same [] [] named = tt
names_kept from to same [] (n ∷ numbers) named = absurd named
names_kept from to same (name ∷ names) [] named = absurd named
names_kept from to same (name ∷ names) (n ∷ numbers) named =
    (named_kept name from to (same_entries name from to same) n named.0, names_kept from to same names numbers named.1)

numbers_named : (vars : Variables) (names : List (List ℕ)) (numbers : List ℕ) → AreNamed vars names numbers → AllByRecursion IsEntryNumber numbers
numbers_named vars [] [] named = tt
numbers_named vars [] (n ∷ numbers) named = absurd named
numbers_named vars (name ∷ names) [] named = absurd named
numbers_named vars (name ∷ names) (n ∷ numbers) named = (named.0.here.1.is, numbers_named vars names numbers named.1)

-- what is named is there
there_at : (vars : Variables) (names : List (List ℕ)) (numbers : List ℕ) → AreNamed vars names numbers → (place : ℕ) → place < length numbers →
    entry_of vars (get_or numbers place 0) ≡ None → ⊥
there_at vars [] [] named place within none = omega (arith, within)
there_at vars [] (n ∷ numbers) named place within none = absurd named
there_at vars (name ∷ names) [] named place within none = absurd named
there_at vars (name ∷ names) (n ∷ numbers) named zero within none = none-some named.0.here.0 (sym none ∙ named.0.here.1.stored)
there_at vars (name ∷ names) (n ∷ numbers) named (suc place) within none = there_at vars names numbers named.1 place (omega (arith, within)) none

module _ (from to : Variables) (names : List (List ℕ)) (numbers : List ℕ) (named : AreNamed to names numbers) where
  fine_there : AreFine (IsMissing from) numbers → AreFine (IsMissing to) numbers
  fine_there fine place within f (inl twice) = fine place within f (inl twice)
  fine_there fine place within f (inr other) = there_at to names numbers named place within other.1.1

  fine_stale : AreFine (IsStale false from) numbers → AreFine (IsStale false to) numbers
  fine_stale fine place within f (inl twice) = fine place within f (inl twice)
  fine_stale fine place within f (inr other) = there_at to names numbers named place within other.1.1

-- ---- BootOrder

old_numbers : (vars : Variables) (old : List ℕ) → IsOldOrder vars old → AllByRecursion IsEntryNumber old
old_numbers vars old (inl has) = has.is.numbers
old_numbers vars old (inr bad) = subst (AllByRecursion IsEntryNumber) (sym bad.1) tt

module _ (from to : Variables) (names : List (List ℕ)) (numbers : List ℕ) (named : AreNamed from names numbers) where
  first_met : IsPutFirst from numbers to → AreFirst to names
  first_met put =
      let same : KeepsEntries from to = put.becomes.entries in
      let after = names_kept from to same names numbers named in
      let all = all_front IsEntryNumber numbers put.is.0 (numbers_named from names numbers named) (old_numbers from put.is.0 put.is.1) in
      record {
        numbers = numbers;
        named = after;
        once = fine_there from to names numbers after put.fine;
        order = put.order;
        has_order = record {
          is = record { numbers = subst (AllByRecursion IsEntryNumber) (sym put.is.2) all; len = put.fits };
          stored = put.becomes.order;
        };
        front = put.is.2 ∙ sym (front_again numbers put.is.0) ∙ ap (in_front numbers) (sym put.is.2);
      }

  alone_met : IsPutAlone from numbers to → AreAlone to names
  alone_met put =
      let same : KeepsEntries from to = put.becomes.entries in
      let after = names_kept from to same names numbers named in
      record {
        numbers = numbers;
        named = after;
        once = fine_stale from to names numbers after put.fine;
        has_order = record {
          is = record { numbers = numbers_named from names numbers named; len = subst (λ (o : List ℕ). length o ≤ order_max) put.is put.fits };
          stored = put.becomes.order ∙ ap stored_order put.is;
        };
      }

module _ (from to : Variables) where
  pub order_keeps : (o : ProfileOrder) → IsOrderStep from o to → KeepsEntries from to
  order_keeps order.Kept step = λ n p. ap (λ (v : Variables). entry_of v n) step
  order_keeps (order.First names) step = step.2.becomes.entries
  order_keeps (order.Only names) step = step.2.becomes.entries

  pub order_others : (o : ProfileOrder) → IsOrderStep from o to → (name : List ℕ) → IsOtherName name → get to name ≡ get from name
  order_others order.Kept step name other = ap (λ (v : Variables). get v name) step
  order_others (order.First names) step name other = step.2.becomes.others name other
  order_others (order.Only names) step name other = step.2.becomes.others name other

  pub order_met : (o : ProfileOrder) → IsOrderStep from o to → IsOrderMet to o
  order_met order.Kept step = tt
  order_met (order.First names) step = first_met from to names.items step.0 step.1 step.2
  order_met (order.Only names) step = alone_met from to names.items step.0 step.1 step.2

  -- it stays so, while entries and BootOrder stay
  pub order_stays : KeepsEntries from to → get from order_text ≡ get to order_text → (o : ProfileOrder) → IsOrderMet from o → IsOrderMet to o
  order_stays same stored order.Kept met = tt
  order_stays same stored (order.First names) met =
      let after = names_kept from to same names.items met.numbers met.named in
      record {
        numbers = met.numbers;
        named = after;
        once = fine_there from to names.items met.numbers after met.once;
        order = met.order;
        has_order = (HasOrder-along from to stored met.order).0 met.has_order;
        front = met.front;
      }
  order_stays same stored (order.Only names) met =
      let after = names_kept from to same names.items met.numbers met.named in
      record {
        numbers = met.numbers;
        named = after;
        once = fine_stale from to names.items met.numbers after met.once;
        has_order = (HasOrder-along from to stored met.numbers).0 met.has_order;
      }

-- what is met makes nothing
pub order_done : (vars : Variables) (o : ProfileOrder) → IsOrderMet vars o → IsOrderStep vars o vars
order_done vars order.Kept met = refl
order_done vars (order.First names) met = (
  met.numbers,
  met.named,
  record {
    fine = met.once;
    order = met.order;
    is = (met.order, inl met.has_order, met.front);
    fits = met.has_order.is.len;
    becomes = retell_order vars vars (parts_of vars) (as_it_was vars) (stored_order met.order) met.has_order.stored;
  },
)
order_done vars (order.Only names) met = (
  met.numbers,
  met.named,
  record {
    fine = met.once;
    order = met.numbers;
    is = refl;
    fits = met.has_order.is.len;
    becomes = retell_order vars vars (parts_of vars) (as_it_was vars) (stored_order met.numbers) met.has_order.stored;
  },
)

-- ---- BootNext

module _ (from to : Variables) where
  pub next_keeps : (x : ProfileNext) → IsNextStep from x to → KeepsEntries from to
  next_keeps next.Kept step = λ n p. ap (λ (v : Variables). entry_of v n) step
  next_keeps next.Gone step = step.entries
  next_keeps (next.Entry name) step = step.2.1.entries

  pub next_order : (x : ProfileNext) → IsNextStep from x to → get to order_text ≡ get from order_text
  next_order next.Kept step = ap (λ (v : Variables). get v order_text) step
  next_order next.Gone step = step.order
  next_order (next.Entry name) step = step.2.1.order

  pub next_others : (x : ProfileNext) → IsNextStep from x to → (name : List ℕ) → IsOtherName name → get to name ≡ get from name
  next_others next.Kept step name other = ap (λ (v : Variables). get v name) step
  next_others next.Gone step name other = step.others name other
  next_others (next.Entry name) step text other = step.2.1.others text other

  pub next_met : (x : ProfileNext) → IsNextStep from x to → IsNextMet to x
  next_met next.Kept step = tt
  next_met next.Gone step = record { is = tt; stored = step.next }
  next_met (next.Entry name) step = (
    step.0,
    named_kept name from to (same_entries name from to step.2.1.entries) step.0 step.1,
    record { is = step.1.here.1.is; stored = step.2.1.next },
  )

  pub next_stays : KeepsEntries from to → get to next_text ≡ get from next_text → (x : ProfileNext) → IsNextMet from x → IsNextMet to x
  next_stays same stored next.Kept met = tt
  next_stays same stored next.Gone met = record { is = met.is; stored = stored ∙ met.stored }
  next_stays same stored (next.Entry name) met = (
    met.0,
    named_kept name from to (same_entries name from to same) met.0 met.1,
    record { is = met.2.is; stored = stored ∙ met.2.stored },
  )

pub next_done : (vars : Variables) (x : ProfileNext) → IsNextMet vars x → IsNextStep vars x vars
next_done vars next.Kept met = refl
next_done vars next.Gone met = retell_next vars vars (parts_of vars) (as_it_was vars) (stored_next None) met.stored
next_done vars (next.Entry name) met = (
  met.0,
  met.1,
  (
    (λ none. none-some met.1.here.0 (sym none ∙ met.1.here.1.stored)),
    retell_next vars vars (parts_of vars) (as_it_was vars) (stored_next (Some met.0)) met.2.stored,
  ),
)

-- ---- Timeout

pub timeout_is_no_entry : (number : ℕ) → entry_text number ≢ timeout_text
timeout_is_no_entry number e = let len : length (entry_text number) ≡ length timeout_text = ap length e in omega (arith, len)

pub timeout_is_not_order : order_text ≢ timeout_text
timeout_is_not_order e = let len : length order_text ≡ length timeout_text = ap length e in omega (arith, len)

pub timeout_is_not_next : next_text ≢ timeout_text
timeout_is_not_next e = let len : length next_text ≡ length timeout_text = ap length e in omega (arith, len)

module _ (from to : Variables) where
  -- variables of other names stay
  pub timeout_others : (t : ProfileTimeout) → IsTimeoutStep from t to → (name : List ℕ) → name ≢ timeout_text → get to name ≡ get from name
  timeout_others timeout.Kept step name other = ap (λ (v : Variables). get v name) step
  timeout_others timeout.Gone step name other =
      ap (λ (v : Variables). get v name) step ∙ stored_beside from timeout_text None name other
  timeout_others (timeout.Seconds seconds) step name other =
      ap (λ (v : Variables). get v name) step ∙ stored_beside from timeout_text (stored_timeout (Some seconds)) name other

  pub timeout_met : (t : ProfileTimeout) → IsTimeoutStep from t to → IsTimeoutMet to t
  timeout_met timeout.Kept step = tt
  timeout_met timeout.Gone step = ap (λ (v : Variables). get v timeout_text) step ∙ stored_here from timeout_text None
  timeout_met (timeout.Seconds seconds) step =
      ap (λ (v : Variables). get v timeout_text) step ∙ stored_here from timeout_text (stored_timeout (Some seconds))

pub timeout_done : (vars : Variables) (t : ProfileTimeout) → IsTimeoutMet vars t → IsTimeoutStep vars t vars
timeout_done vars timeout.Kept met = refl
timeout_done vars timeout.Gone met =
    sym (subst (λ (s : Option (List ℕ)). with_data vars timeout_text s ≡ vars) met (stored_again vars timeout_text))
timeout_done vars (timeout.Seconds seconds) met =
    sym (subst (λ (s : Option (List ℕ)). with_data vars timeout_text s ≡ vars) met (stored_again vars timeout_text))
