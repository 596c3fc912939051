-- Edits of variables that stand for a state: each leaves variables that stand for the state that is edited so.
use Rattle.std.proofs.Common.{◌≡◌, ◌≢◌, ℕ, ◌<◌, true, false, List, [], ◌∷◌, length, Option, Some, None, IfSome, is_some, inl, inr, refl, sym, ap, subst, ◌∙◌}
use Rattle.std.proofs.Common.{arith}
use Rattle.std.specs.Int.{w16, to_le_bytes}
use Rattle.std.specs.FinMap.{get, insert, remove}
use Rattle.std.proofs.lemmas.Bool.{cond-true, cond-false, ne_eqb, false≢true}
use Rattle.std.proofs.lemmas.Cmp.{nat_cmp_total}
use Rattle.std.proofs.lemmas.Map.Lookups.{exact_unsigned}
use Rattle.uefi_path.specs.Units.{units_bytes}
use Rattle.uefi_vars.specs.Name.{entry_text, order_text, next_text, keep_text}
use Rattle.uefi_vars.specs.Vars.{Variables, IsData}
use Rattle.uefi_vars.specs.Order.{IsEntryNumber, IsOrder, stored_order, stored_next}
use Rattle.uefi_vars.specs.NameChanges.{with_data}
use Rattle.uefi_vars.proofs.Names.{names_apart}
use Rattle.boot_requests.specs.declared.outcome.Outcome.{Outcome}
use Rattle.boot_requests.specs.State.{State, IsMark, IsBootName, mark_bytes, stored_mark}
use Rattle.boot_requests.specs.Apply.{next_without, after_boot}
use Rattle.boot_requests.specs.Run.{is_next_entry}
use Rattle.boot_requests.specs.Keeper.{IsStateOf}
use Rattle.boot_requests.specs.StateOf.{Entries}
use Rattle.boot_requests.proofs.Variables.Stored.{stored_here, stored_apart, insert_here, insert_apart, remove_here, remove_apart, same_number_or_not}
use Rattle.boot_requests.proofs.Variables.Stored.{order_is_no_entry, next_is_no_entry, keep_is_no_entry, order_is_not_next, order_is_not_keep, next_is_not_keep}
use Rattle.boot_requests.proofs.Variables.Stored.{IsEntryAt, stored_beside}

-- names of a state's parts

pub is_entry_name : (number : ℕ) → IsEntryNumber number → IsBootName (entry_text number)
is_entry_name number p = inl (number, p, refl)

pub is_order_name : IsBootName order_text
is_order_name = inr (inl refl)

pub is_next_name : IsBootName next_text
is_next_name = inr (inr (inl refl))

pub is_keep_name : IsBootName keep_text
is_keep_name = inr (inr (inr refl))

-- what holds of the name of each part of a state holds of each boot name
pub each_boot_name : (P : List ℕ → Type 0) → ((number : ℕ) → IsEntryNumber number → P (entry_text number)) → P order_text → P next_text → P keep_text →
    (name : List ℕ) → IsBootName name → P name
each_boot_name P entry order next keep name (inl e) = subst P (sym e.2) (entry e.0 e.1)
each_boot_name P entry order next keep name (inr (inl e)) = subst P (sym e) order
each_boot_name P entry order next keep name (inr (inr (inl e))) = subst P (sym e) next
each_boot_name P entry order next keep name (inr (inr (inr e))) = subst P (sym e) keep

pub other_apart : (boot name : List ℕ) → IsBootName boot → ¬ IsBootName name → boot ≢ name
other_apart boot name is other e = other (subst IsBootName e is)

pub order_edited : (m : State) (vars : Variables) (order : List ℕ) → IsOrder order → IsStateOf m vars →
    IsStateOf (record m { order = order }) (with_data vars order_text (stored_order order))
order_edited m vars order fits h = record {
  is = record { entries = h.is.entries; order = fits; next = h.is.next; mark = h.is.mark; others = h.is.others };
  image = record {
    entry = λ n p. stored_beside vars order_text _ (entry_text n) (order_is_no_entry n) ∙ h.image.entry n p;
    order = stored_here vars order_text (stored_order order);
    next = stored_apart vars order_text _ next_text order_is_not_next ∙ h.image.next;
    mark = stored_apart vars order_text _ keep_text order_is_not_keep ∙ h.image.mark;
    other = λ name odd. stored_apart vars order_text _ name (other_apart order_text name is_order_name odd) ∙ h.image.other name odd;
  };
}

pub next_edited : (m : State) (vars : Variables) (next : Option ℕ) → IfSome next IsEntryNumber → IsStateOf m vars →
    IsStateOf (record m { boot_next = next }) (with_data vars next_text (stored_next next))
next_edited m vars next fits h = record {
  is = record { entries = h.is.entries; order = h.is.order; next = fits; mark = h.is.mark; others = h.is.others };
  image = record {
    entry = λ n p. stored_beside vars next_text _ (entry_text n) (next_is_no_entry n) ∙ h.image.entry n p;
    order = stored_beside vars next_text _ order_text order_is_not_next ∙ h.image.order;
    next = stored_here vars next_text (stored_next next);
    mark = stored_apart vars next_text _ keep_text next_is_not_keep ∙ h.image.mark;
    other = λ name odd. stored_apart vars next_text _ name (other_apart next_text name is_next_name odd) ∙ h.image.other name odd;
  };
}

pub mark_edited : (m : State) (vars : Variables) (next_number : ℕ) (kept : List Outcome) → IsMark next_number kept → IsStateOf m vars →
    IsStateOf (record m { next_number = next_number; kept = kept }) (with_data vars keep_text (stored_mark next_number kept))
mark_edited m vars next_number kept fits h = record {
  is = record { entries = h.is.entries; order = h.is.order; next = h.is.next; mark = fits; others = h.is.others };
  image = record {
    entry = λ n p. stored_beside vars keep_text _ (entry_text n) (keep_is_no_entry n) ∙ h.image.entry n p;
    order = stored_beside vars keep_text _ order_text order_is_not_keep ∙ h.image.order;
    next = stored_beside vars keep_text _ next_text next_is_not_keep ∙ h.image.next;
    mark = stored_here vars keep_text (stored_mark next_number kept);
    other = λ name odd. stored_apart vars keep_text _ name (other_apart keep_text name is_keep_name odd) ∙ h.image.other name odd;
  };
}

-- if a request was applied, something is stored
pub mark_stored : (next_number : ℕ) (kept : List Outcome) → 0 < next_number → stored_mark next_number kept ≡ Some (mark_bytes next_number kept)
mark_stored next_number kept h = cond-false _ _ _ (ne_eqb next_number 0 (λ e. omega (arith, e, h)))

numbered : (number : ℕ) (stored : Option (List ℕ)) → IsEntryNumber number → IfSome stored IsData → IsEntryAt number stored
numbered number None p valid = tt
numbered number (Some bytes) p valid = (p, valid)

-- what is under the number is this, and what is under others stays
pub entry_edited : (m : State) (vars : Variables) (entries : Entries) (number : ℕ) (stored : Option (List ℕ)) → IsEntryNumber number →
    IfSome stored IsData → get entries number ≡ stored → ((k : ℕ) → number ≢ k → get entries k ≡ get m.entries k) → IsStateOf m vars →
    IsStateOf (record m { entries = entries }) (with_data vars (entry_text number) stored)
entry_edited m vars entries number stored fits valid here others h = record {
  is = record {
    entries = λ k. elim (same_number_or_not number k) [
      | inl same ↦ rw (← same) (subst (IsEntryAt number) (sym here) (numbered number stored fits valid))
      | inr differ ↦ subst (IsEntryAt k) (sym (others k differ)) (h.is.entries k)
    ];
    order = h.is.order;
    next = h.is.next;
    mark = h.is.mark;
    others = h.is.others;
  };
  image = record {
    entry = λ k p. elim (same_number_or_not number k) [
      | inl same ↦ rw (← same) (stored_here vars (entry_text number) stored ∙ sym here)
      | inr differ ↦ stored_apart vars (entry_text number) stored (entry_text k) (λ e. differ (names_apart number k fits p e)) ∙ h.image.entry k p
          ∙ sym (others k differ)
    ];
    order = stored_apart vars (entry_text number) stored order_text (order_is_no_entry number) ∙ h.image.order;
    next = stored_apart vars (entry_text number) stored next_text (next_is_no_entry number) ∙ h.image.next;
    mark = stored_apart vars (entry_text number) stored keep_text (keep_is_no_entry number) ∙ h.image.mark;
    other = λ name odd.
        stored_apart vars (entry_text number) stored name (other_apart (entry_text number) name (is_entry_name number fits) odd) ∙ h.image.other name odd;
  };
}

-- ---- edits by what was put or removed

module _ (m : State) (old new : Variables) where
  pub order_stored : (order : List ℕ) → IsOrder order → 0 < length order → new ≡ insert old order_text (units_bytes order) → IsStateOf m old →
      IsStateOf (record m { order = order }) new
  order_stored [] fits some e h = absurd (omega (arith, some))
  order_stored (n ∷ numbers) fits some e h = rw e (order_edited m old (n ∷ numbers) fits h)

  pub order_deleted : (order : List ℕ) → length order ≡ 0 → new ≡ remove old order_text → IsStateOf m old → IsStateOf (record m { order = order }) new
  order_deleted [] none e h = rw e (order_edited m old [] (record { numbers = tt; len = omega arith }) h)
  order_deleted (n ∷ numbers) none e h = absurd (omega (arith, none))

  pub next_stored : (number : ℕ) → IsEntryNumber number → new ≡ insert old next_text (to_le_bytes w16 number) → IsStateOf m old →
      IsStateOf (record m { boot_next = Some number }) new
  next_stored number fits e h = rw e (next_edited m old (Some number) fits h)

  pub next_deleted : new ≡ remove old next_text → IsStateOf m old → IsStateOf (after_boot m) new
  next_deleted e h = rw e (next_edited m old None tt h)

  pub mark_put : (next_number : ℕ) (kept : List Outcome) → 0 < next_number → IsMark next_number kept →
      new ≡ insert old keep_text (mark_bytes next_number kept) → IsStateOf m old → IsStateOf (record m { next_number = next_number; kept = kept }) new
  mark_put next_number kept some fits e h =
      subst (IsStateOf (record m { next_number = next_number; kept = kept })) (ap (with_data old keep_text) (mark_stored next_number kept some) ∙ sym e)
      (mark_edited m old next_number kept fits h)

  pub entry_stored : (number : ℕ) (bytes : List ℕ) → IsEntryNumber number → new ≡ insert old (entry_text number) bytes → IsData bytes → IsStateOf m old →
      IsStateOf (record m { entries = insert m.entries number bytes }) new
  entry_stored number bytes fits e valid h =
      rw e (entry_edited m old (insert m.entries number bytes) number (Some bytes) fits valid (insert_here nat_cmp_total exact_unsigned m.entries number bytes)
      (insert_apart nat_cmp_total exact_unsigned m.entries number bytes) h)

  pub entry_taken : (number : ℕ) → IsEntryNumber number → new ≡ remove old (entry_text number) → IsStateOf m old →
      IsStateOf (record m { entries = remove m.entries number }) new
  entry_taken number fits e h =
      rw e (entry_edited m old (remove m.entries number) number None fits tt (remove_here nat_cmp_total exact_unsigned m.entries number)
      (remove_apart nat_cmp_total exact_unsigned m.entries number) h)

module _ (m : State) (vars : Variables) where
  pub order_kept : (order : List ℕ) → order ≡ m.order → IsStateOf m vars → IsStateOf (record m { order = order }) vars
  order_kept order e h = rw e h

  pub next_kept : (next : Option ℕ) → next ≡ m.boot_next → IsStateOf m vars → IsStateOf (record m { boot_next = next }) vars
  next_kept next e h = rw e h

-- ---- BootNext, and BootNext without a number

abbrev stored_len : Option (List ℕ) → ℕ
stored_len None = 0
stored_len (Some bytes) = length bytes

-- what is stored of it are two bytes
pub two_bytes : (next : Option ℕ) (bytes : List ℕ) → Some bytes ≡ stored_next next → length bytes ≡ 2
two_bytes None bytes e = absurd (false≢true (sym (ap is_some e)))
two_bytes (Some number) bytes e = ap stored_len e

pub next_named : (next : Option ℕ) (number : ℕ) → is_next_entry next number ≡ true → next_without next number ≡ None
next_named None number h = refl
next_named (Some other) number h = cond-true _ _ _ h

pub next_other : (next : Option ℕ) (number : ℕ) → is_next_entry next number ≡ false → next_without next number ≡ next
next_other None number h = refl
next_other (Some other) number h = cond-false _ _ _ h
