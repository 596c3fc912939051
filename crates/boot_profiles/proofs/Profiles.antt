-- What whole profiles make of variables.
use Rattle.std.proofs.Common.{◌≡◌, ◌≢◌, ℕ, List, Some, sym, ap, subst, ◌∙◌}
use Rattle.std.specs.FinMap.{get}
use Rattle.uefi_vars.specs.Name.{entry_text, order_text, next_text, timeout_text}
use Rattle.uefi_vars.specs.Order.{IsEntryNumber}
use Rattle.uefi_vars.specs.Vars.{Variables, IsVars, entry_of}
use Rattle.boot_edits.specs.Parts.{IsOtherName}
use Rattle.boot_edits.proofs.Targets.{SpellOne}
use Rattle.boot_profiles.specs.declared.profile.Profile.{Profile}
use Rattle.boot_profiles.specs.declared.profile.ProfileTimeout.{ProfileTimeout}
use Rattle.boot_profiles.specs.declared.profile.ProfileTimeout.TheVariants as timeout
use Rattle.boot_profiles.specs.Applied.{IsApplied}
use Rattle.boot_profiles.specs.Left.{IsOfOthers}
use Rattle.boot_profiles.specs.Met.{IsMet}
use Rattle.boot_profiles.specs.Order.{IsTimeoutStep}
use Rattle.boot_profiles.proofs.Bytes.{ChangesOneBit}
use Rattle.boot_profiles.proofs.Descriptions.{KeepsEntries}
use Rattle.boot_profiles.proofs.Lists.{all_kept, steps_others, steps_left, steps_none, steps_met, steps_done}
use Rattle.boot_profiles.proofs.Orders.{order_keeps, order_others, order_met, order_stays, order_done, next_keeps, next_order, next_others, next_met}
use Rattle.boot_profiles.proofs.Orders.{next_stays, next_done, timeout_is_no_entry, timeout_is_not_order, timeout_is_not_next, timeout_others, timeout_met, timeout_done}

timeout_is_other : IsOtherName timeout_text
timeout_is_other = record {
  entry = λ n p e. timeout_is_no_entry n (sym e);
  order = λ e. timeout_is_not_order (sym e);
  next = λ e. timeout_is_not_next (sym e);
}

module _ (profile : Profile) (from to : Variables) (done : IsApplied profile from to) where
  abbrev entries : Variables
  entries = done.ordered.with_entries

  order_same : KeepsEntries entries done.with_order
  order_same = order_keeps entries done.with_order profile.order done.ordered.order

  next_same : KeepsEntries done.with_order done.with_next
  next_same = next_keeps done.with_order done.with_next profile.next done.next

  timeout_same : KeepsEntries done.with_next to
  timeout_same n p = timeout_others done.with_next to profile.timeout done.timeout (entry_text n) (timeout_is_no_entry n)

  -- what comes after the entries keeps them
  behind_same : KeepsEntries entries to
  behind_same n p = timeout_same n p ∙ next_same n p ∙ order_same n p

  last_same : KeepsEntries done.with_order to
  last_same n p = timeout_same n p ∙ next_same n p

  last_order : get done.with_order order_text ≡ get to order_text
  last_order =
      sym (timeout_others done.with_next to profile.timeout done.timeout order_text timeout_is_not_order
      ∙ next_order done.with_order done.with_next profile.next done.next)

  module _ (bit : ChangesOneBit) where
    pub applied_met : SpellOne → IsMet profile to
    applied_met one = record {
      entries = all_kept entries to behind_same profile.entries.items (steps_met bit one profile.entries.items from entries done.ordered.entries);
      order = order_stays done.with_order to last_same last_order profile.order (order_met entries done.with_order profile.order done.ordered.order);
      next = next_stays done.with_next to timeout_same
          (timeout_others done.with_next to profile.timeout done.timeout next_text timeout_is_not_next)
          profile.next (next_met done.with_order done.with_next profile.next done.next);
      timeout = timeout_met done.with_next to profile.timeout done.timeout;
    }

    pub applied_left : (n : ℕ) (bytes : List ℕ) → IsEntryNumber n → IsOfOthers profile bytes → entry_of from n ≡ Some bytes → entry_of to n ≡ Some bytes
    applied_left n bytes fits other stored =
        behind_same n fits ∙ steps_left bit profile.entries.items from entries done.ordered.entries n fits bytes other stored

    pub applied_none : (n : ℕ) (bytes : List ℕ) → IsEntryNumber n → IsOfOthers profile bytes → entry_of to n ≡ Some bytes → entry_of from n ≡ Some bytes
    applied_none n bytes fits other stored =
        steps_none bit profile.entries.items from entries done.ordered.entries n fits bytes other (sym (behind_same n fits) ∙ stored)

    pub applied_others : (name : List ℕ) → IsOtherName name → name ≢ timeout_text → get to name ≡ get from name
    applied_others name other differ =
        timeout_others done.with_next to profile.timeout done.timeout name differ
        ∙ next_others done.with_order done.with_next profile.next done.next name other
        ∙ order_others entries done.with_order profile.order done.ordered.order name other
        ∙ steps_others bit profile.entries.items from entries done.ordered.entries name other

    -- Timeout stays, if nothing is said of it
    pub applied_timeout : profile.timeout ≡ timeout.Kept → get to timeout_text ≡ get from timeout_text
    applied_timeout kept =
        let step : IsTimeoutStep done.with_next timeout.Kept to = subst (λ (t : ProfileTimeout). IsTimeoutStep done.with_next t to) kept done.timeout in
        ap (λ (v : Variables). get v timeout_text) step
        ∙ next_others done.with_order done.with_next profile.next done.next timeout_text timeout_is_other
        ∙ order_others entries done.with_order profile.order done.ordered.order timeout_text timeout_is_other
        ∙ steps_others bit profile.entries.items from entries done.ordered.entries timeout_text timeout_is_other

-- a profile that is met makes nothing
pub met_applied : ChangesOneBit → (profile : Profile) (vars : Variables) → IsVars vars → IsMet profile vars → IsApplied profile vars vars
met_applied bit profile vars valid met = record {
  with_order = vars;
  ordered = record {
    with_entries = vars;
    entries = steps_done bit vars valid profile.entries.items met.entries;
    order = order_done vars profile.order met.order;
  };
  with_next = vars;
  next = next_done vars profile.next met.next;
  timeout = timeout_done vars profile.timeout met.timeout;
}
