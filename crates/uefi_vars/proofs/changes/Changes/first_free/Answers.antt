use Rattle.std.proofs.Common.{◌≡◌, ◌≢◌, ℕ, ◌+◌, ◌<◌, ◌≤◌, ◌^◌, Bool, List, Option, Some, None, IsSome, is_some, false, refl, sym, ap}
use Rattle.std.proofs.Common.{subst, below_more, ◌∙◌, arith}
use Rattle.std.specs.FinMap.{get, get-entries, entries_sorted}
use Rattle.std.specs.FinMap.Entries.{find}
use Rattle.std.specs.declared.cmp.Ordering.TheVariants.{Less}
use Rattle.std.proofs.lemmas.Bool.{false≢true}
use Rattle.uefi_vars.specs.Name.{entry_text}
use Rattle.uefi_vars.specs.Vars.{Variables, name_cmp, entry_of}
use Rattle.uefi_vars.specs.NameChanges.{NameChanges, with_changes, or_before}
use Rattle.uefi_vars.specs.Records.{pairs_of, IsRising}
use Rattle.uefi_vars.proofs.NameChanges.{get_with_changes, get-changes_of}
use Rattle.uefi_vars.proofs.Names.{names_rise}
use Rattle.uefi_vars.proofs.Places.{not_below_lower}
use Rattle.uefi_vars.proofs.changes.Changes.first_free.Goals as goal

none_is : {X : Type 0} (found : Option X) → is_some found ≡ false → found ≡ None
none_is None e = refl
none_is (Some x) e = absurd (false≢true (sym e))

pub loop-number-init : goal.loop-number-init
loop-number-init c =
    let changes = c.self.inside.changes.items in
    let vars = c.args.vars.now in
    record {
      taken = λ lower low. absurd (omega (arith, low));
      changes_rise = subst (λ l. IsRising (pairs_of l)) (sym c.as_slice-changes.ensures.value) c.self.invariant.rising;
      changes_left = λ later from fits. let name = entry_text later in
          ap (λ l. find name_cmp name (pairs_of l)) c.as_slice-changes.ensures.value
          ∙ sym (get-changes_of changes c.self.invariant name) ∙ ap (λ m. get m name) c.self.view_is;
      variables_rise = subst IsRising (sym c.variables-variables.ensures.pairs) (entries_sorted vars);
      variables_left = λ later from fits. ap (find name_cmp (entry_text later)) c.variables-variables.ensures.pairs ∙ sym (get-entries vars (entry_text later));
    }

-- whether the entry of this number is stored then, by what is found under its name
stored_then : (vars : Variables) (changes : NameChanges) (number : ℕ) (name : List ℕ) (cs : List (List ℕ × Option (List ℕ)))
    (vs : List (List ℕ × List ℕ)) (change : Option (Option (List ℕ))) (before : Option (List ℕ)) (r : Bool)
    → name ≡ entry_text number → change ≡ find name_cmp name cs → before ≡ find name_cmp name vs →
    find name_cmp (entry_text number) cs ≡ get changes (entry_text number) →
    find name_cmp (entry_text number) vs ≡ get vars (entry_text number)
    → r ≡ is_some (or_before change before) → is_some (entry_of (with_changes vars changes) number) ≡ r
stored_then vars changes number name cs vs change before r named found_change found change_is before_is is =
    let change_now = found_change ∙ ap (λ n. find name_cmp n cs) named ∙ change_is in
    let now = found ∙ ap (λ n. find name_cmp n vs) named ∙ before_is in
    ap is_some (get_with_changes vars changes (entry_text number)) ∙ sym (is ∙ (λ i. is_some (or_before (change_now i) (now i))))

pub returns-then-not-is_stored : goal.returns-then-not-is_stored
returns-then-not-is_stored c =
    let number = c.loop-number.number in
    let left = c.loop-number.invariant in
    let fits : number < 2 ^ 16 = omega (arith, c.loop-number-test.true) in
    let here = stored_then c.args.vars.now c.args.self.now number _ _ _ _ _ _ c.entry_name-name.ensures.text c.seek.ensures.found
    c.seek-in-loop-number.ensures.found (left.changes_left number (omega arith) fits)
    (left.variables_left number (omega arith) fits) c.is_stored.ensures in
    record { is = fits; free = none_is (entry_of (with_changes c.args.vars.now c.args.self.now) number) (here ∙ c.if-not-is_stored.true); taken = left.taken }

pub loop-number-preserved : goal.loop-number-preserved
loop-number-preserved c =
    let number = c.loop-number.number in
    let left = c.loop-number.invariant in
    let fits : number < 2 ^ 16 = omega (arith, c.loop-number-test.true) in
    let here = stored_then c.args.vars.now c.args.self.now number _ _ _ _ _ _ c.entry_name-name.ensures.text c.seek.ensures.found
    c.seek-in-loop-number.ensures.found (left.changes_left number (omega arith) fits)
    (left.variables_left number (omega arith) fits) c.is_stored.ensures in
    let from_here : (later : ℕ) → number + 1 ≤ later → later < 2 ^ 16 → name_cmp (entry_text later) c.entry_name-name.result ≢ Less =
    λ later above below. subst (λ n. name_cmp (entry_text later) n ≢ Less) (sym c.entry_name-name.ensures.text)
    (not_below_lower (entry_text number) (entry_text later) (names_rise number later (omega (arith, above)) below)) in
    record {
      taken = below_more (λ n. IsSome (entry_of (with_changes c.args.vars.now c.args.self.now) n)) number left.taken (here ∙ c.if-not-is_stored.false);
      changes_rise = c.seek.ensures.rising;
      changes_left = λ later above below. c.seek.ensures.left (entry_text later) (from_here later above below)
          ∙ left.changes_left later (omega (arith, above)) below;
      variables_rise = c.seek-in-loop-number.ensures.rising;
      variables_left = λ later above below. c.seek-in-loop-number.ensures.left (entry_text later) (from_here later above below)
          ∙ left.variables_left later (omega (arith, above)) below;
    }

pub returns-else-not-is_stored : goal.returns-else-not-is_stored
returns-else-not-is_stored c lower low =
    let number = c.loop-number.number in
    let left = c.loop-number.invariant in
    let fits : number < 2 ^ 16 = omega (arith, c.loop-number-test.true) in
    let here = stored_then c.args.vars.now c.args.self.now number _ _ _ _ _ _ c.entry_name-name.ensures.text c.seek.ensures.found
    c.seek-in-loop-number.ensures.found (left.changes_left number (omega arith) fits)
    (left.variables_left number (omega arith) fits) c.is_stored.ensures in
    below_more (λ n. IsSome (entry_of (with_changes c.args.vars.now c.args.self.now) n)) number left.taken
    (here ∙ c.if-not-is_stored.false) lower (omega (arith, low))
