-- Variables of an edit have one outcome, or one fault, and not both.
use Rattle.std.proofs.Common.{◌≡◌, ℕ, Bool, true, false, List, length, Option, Some, None, sym, ap, subst, ◌∙◌, inl, inr, IsSome, arith}
use Rattle.std.specs.FinMap.{get, same_map}
use Rattle.std.proofs.lemmas.Bool.{false≢true, cases_Bool, cases_order}
use Rattle.std.proofs.lemmas.Cmp.{nat_list_cmp_total}
use Rattle.uefi_vars.specs.BootChange.{same_name, is_entry_name}
use Rattle.uefi_vars.specs.Name.{order_text, next_text, timeout_text}
use Rattle.uefi_vars.specs.Order.{stored_order, stored_next}
use Rattle.uefi_vars.specs.Vars.{Variables, entry_of}
use Rattle.uefi_vars.proofs.Maps.{name_cmp-IsAntisymmetric}
use Rattle.uefi_vars.proofs.NameTests.{same_name-is, same_name-of, entry_of_name, name_of_entry}
use Rattle.uefi_option.specs.LoadOption.{OptionParts}
use Rattle.boot_requests.specs.Apply.{without_all, in_front}
use Rattle.boot_edits.specs.declared.addition.Addition.{Addition}
use Rattle.boot_edits.specs.declared.addition.Position.{Position}
use Rattle.boot_edits.specs.declared.addition.Position.TheVariants.{First, Last, NoOrder}
use Rattle.boot_edits.specs.declared.answer.EditAnswer.{EditAnswer}
use Rattle.boot_edits.specs.declared.answer.EditAnswer.TheVariants.{Done, Added, Present}
use Rattle.boot_edits.specs.declared.edit.Edit.{Edit}
use Rattle.boot_edits.specs.declared.edit.Edit.TheVariants.{Add, Remove, First as FirstOf, Order, Unrepeat, Next, Timeout, Activate, Deactivate}
use Rattle.boot_edits.specs.declared.fault.EditFault.{EditFault}
use Rattle.boot_edits.specs.declared.fault.EditFault.TheVariants.{BadOption}
use Rattle.boot_edits.specs.Addition.{placed, IsSame, IsLowestSame, IsPresent, IsWanted, IsNewNumber, StoresPlaced, IsPlaced, IsEntryAdded}
use Rattle.boot_edits.specs.Addition.{IsAdded, IsAdditionDone, IsNumberFault, IsOrderFault, IsPlaceFault, IsRoomFaultAt, IsAdditionFault}
use Rattle.boot_edits.specs.Edit.{IsRemoved, IsRemoveFault, IsFrontOrder, IsNewOrder, IsOrderOf, IsReordered, IsReorderFault, IsUnrepeated, IsNextSet}
use Rattle.boot_edits.specs.Edit.{IsNextFault, stored_timeout, IsEdited, IsEditFault, IsLeft}
use Rattle.boot_edits.specs.Lists.{IsMissing, IsStale, IsNoOption}
use Rattle.boot_edits.specs.Orders.{extended, each_once, next_without_all}
use Rattle.boot_edits.specs.Parts.{BootParts, parts_of, Becomes, IsOtherName, entries_with, entries_changed, is_stored, IsOldOrder}
use Rattle.boot_edits.specs.Readings.{HasOneReading}
use Rattle.boot_edits.proofs.Lists.{HasOneFault, fine_or_not, one_first}
use Rattle.boot_requests.proofs.Variables.Stored.{stored_beside}

-- ---- variables with the same parts are the same

other_name : (name : List ℕ) → is_entry_name name ≡ false → same_name name order_text ≡ false → same_name name next_text ≡ false → IsOtherName name
other_name name entry order next = record {
  entry = λ number fits e. false≢true (sym entry ∙ name_of_entry number name fits e);
  order = λ e. false≢true (sym order ∙ same_name-of name order_text e);
  next = λ e. false≢true (sym next ∙ same_name-of name next_text e);
}

module _ (from : Variables) (parts : BootParts) (a b : Variables) (p : Becomes from parts a) (q : Becomes from parts b) where
  same_under : (name : List ℕ) → get a name ≡ get b name
  same_under name = elim (cases_Bool (is_entry_name name)) [
    | inl entry ↦
        let own = entry_of_name name entry in
        subst (λ (n : List ℕ). get a n ≡ get b n) (sym own.2) (p.entries own.0 own.1 ∙ sym (q.entries own.0 own.1))
    | inr no_entry ↦ elim (cases_Bool (same_name name order_text)) [
      | inl order ↦ subst (λ (n : List ℕ). get a n ≡ get b n) (sym (same_name-is name order_text order)) (p.order ∙ sym q.order)
      | inr no_order ↦ elim (cases_Bool (same_name name next_text)) [
        | inl next ↦ subst (λ (n : List ℕ). get a n ≡ get b n) (sym (same_name-is name next_text next)) (p.next ∙ sym q.next)
        | inr no_next ↦ let other = other_name name no_entry no_order no_next in p.others name other ∙ sym (q.others name other)
      ]
    ]
  ]

  pub one_becomes : a ≡ b
  one_becomes = same_map nat_list_cmp_total name_cmp-IsAntisymmetric a b same_under

-- ---- what is read of variables is one

module _ (one : HasOneReading) (vars : Variables) where
  one_old : (a b : List ℕ) → IsOldOrder vars a → IsOldOrder vars b → a ≡ b
  one_old a b (inl p) (inl q) = one.order vars a b p q
  one_old a b (inl p) (inr q) = absurd (one.bad_order vars a q.0 p)
  one_old a b (inr p) (inl q) = absurd (one.bad_order vars b p.0 q)
  one_old a b (inr p) (inr q) = p.1 ∙ sym q.1

  pub one_front : (numbers a b : List ℕ) → IsFrontOrder vars numbers a → IsFrontOrder vars numbers b → a ≡ b
  one_front numbers a b p q = p.2 ∙ ap (in_front numbers) (one_old p.0 q.0 p.1 q.1) ∙ sym q.2

  pub one_new : (only : Bool) (numbers a b : List ℕ) → IsNewOrder vars only numbers a → IsNewOrder vars only numbers b → a ≡ b
  one_new true numbers a b p q = p ∙ sym q
  one_new false numbers a b p q = p.2 ∙ ap (extended (is_stored vars) numbers) (one_old p.0 q.0 p.1 q.1) ∙ sym q.2

  -- ---- one fault of a number by itself

  pub one_missing : HasOneFault (IsMissing vars)
  one_missing number f g p q = p.0 ∙ sym q.0

  pub one_stale : (stale : Bool) → HasOneFault (IsStale stale vars)
  one_stale true number f g p q = absurd p
  one_stale false number f g p q = p.0 ∙ sym q.0

  pub one_no_option : HasOneFault (IsNoOption vars)
  one_no_option number f g (inl p) (inl q) = p.0 ∙ sym q.0
  one_no_option number f g (inl p) (inr q) = absurd (q.1 p.1)
  one_no_option number f g (inr p) (inl q) = absurd (p.1 q.1)
  one_no_option number f g (inr p) (inr q) = p.0 ∙ sym q.0

  -- ---- entries that are taken out

  removed_once : (numbers : List ℕ) (a b : Variables) → IsRemoved vars numbers a → IsRemoved vars numbers b → a ≡ b
  removed_once numbers a b p q =
      let order = one.order vars p.order q.order p.has_order q.has_order in
      let next = one.next vars p.next q.next p.has_next q.has_next in
      one_becomes vars _ a b
      (subst (λ (o : List ℕ). Becomes vars
      (record {
        entries = entries_changed numbers (λ bytes. None) (entry_of vars);
        order = stored_order (without_all numbers o);
        next = stored_next (next_without_all numbers q.next);
      }) a) order
      (subst (λ (n : Option ℕ). Becomes vars
      (record {
        entries = entries_changed numbers (λ bytes. None) (entry_of vars);
        order = stored_order (without_all numbers p.order);
        next = stored_next (next_without_all numbers n);
      }) a) next
      p.becomes))
      q.becomes

  remove_or_not : (numbers : List ℕ) (to : Variables) (f : EditFault) → IsRemoved vars numbers to → IsRemoveFault vars numbers f → ⊥
  remove_or_not numbers to f p (inl first) = fine_or_not (IsMissing vars) numbers p.fine f first
  remove_or_not numbers to f p (inr (fine, inl bad)) = one.bad_order vars p.order bad.1 p.has_order
  remove_or_not numbers to f p (inr (fine, inr bad)) = one.bad_next vars p.next bad.2 p.has_next

  one_remove_fault : (numbers : List ℕ) (f g : EditFault) → IsRemoveFault vars numbers f → IsRemoveFault vars numbers g → f ≡ g
  one_remove_fault numbers f g (inl p) (inl q) = one_first (IsMissing vars) numbers one_missing f g p q
  one_remove_fault numbers f g (inl p) (inr q) = absurd (fine_or_not (IsMissing vars) numbers q.0 f p)
  one_remove_fault numbers f g (inr p) (inl q) = absurd (fine_or_not (IsMissing vars) numbers p.0 g q)
  one_remove_fault numbers f g (inr (a, inl p)) (inr (b, inl q)) = p.0 ∙ sym q.0
  one_remove_fault numbers f g (inr (a, inl p)) (inr (b, inr q)) = absurd (q.1 p.1)
  one_remove_fault numbers f g (inr (a, inr p)) (inr (b, inl q)) = absurd (p.1 q.1)
  one_remove_fault numbers f g (inr (a, inr p)) (inr (b, inr q)) = p.0 ∙ sym q.0

  -- ---- orders that become others

  module _ (IsRefused : ℕ → EditFault → Type 0) (numbers : List ℕ) (IsSo : List ℕ → Type 0) (one_order : (a b : List ℕ) → IsSo a → IsSo b → a ≡ b) where
    reordered_once : (a b : Variables) → IsReordered vars IsRefused numbers IsSo a → IsReordered vars IsRefused numbers IsSo b → a ≡ b
    reordered_once a b p q =
        one_becomes vars _ a b (subst (λ (o : List ℕ). IsOrderOf vars o a) (one_order p.order q.order p.is q.is) p.becomes) q.becomes

    reorder_or_not : (to : Variables) (f : EditFault) → IsReordered vars IsRefused numbers IsSo to → IsReorderFault IsRefused numbers IsSo f → ⊥
    reorder_or_not to f p (inl first) = fine_or_not IsRefused numbers p.fine f first
    reorder_or_not to f p (inr (fine, is, (order, so, long))) =
        let same = one_order order p.order so p.is in
        let len : length order ≡ length p.order = ap length same in
        omega (arith, len, long, p.fits)

    one_reorder_fault : HasOneFault IsRefused → (f g : EditFault) → IsReorderFault IsRefused numbers IsSo f → IsReorderFault IsRefused numbers IsSo g → f ≡ g
    one_reorder_fault once f g (inl p) (inl q) = one_first IsRefused numbers once f g p q
    one_reorder_fault once f g (inl p) (inr q) = absurd (fine_or_not IsRefused numbers q.0 f p)
    one_reorder_fault once f g (inr p) (inl q) = absurd (fine_or_not IsRefused numbers p.0 g q)
    one_reorder_fault once f g (inr p) (inr q) = p.1 ∙ sym q.1

  -- ---- the order with each number once

  unrepeated_once : (a b : Variables) → IsUnrepeated vars a → IsUnrepeated vars b → a ≡ b
  unrepeated_once a b p q =
      let order = one.order vars p.order q.order p.has_order q.has_order in
      one_becomes vars _ a b (subst (λ (o : List ℕ). IsOrderOf vars (each_once o) a) order p.becomes) q.becomes

  -- ---- the next entry

  next_once : (next : Option ℕ) (a b : Variables) → IsNextSet vars next a → IsNextSet vars next b → a ≡ b
  next_once None a b p q = one_becomes vars _ a b p q
  next_once (Some number) a b p q = one_becomes vars _ a b p.1 q.1

  next_or_not : (next : Option ℕ) (to : Variables) (f : EditFault) → IsNextSet vars next to → IsNextFault vars next f → ⊥
  next_or_not None to f p q = q
  next_or_not (Some number) to f p q = p.0 q.1

  one_next_fault : (next : Option ℕ) (f g : EditFault) → IsNextFault vars next f → IsNextFault vars next g → f ≡ g
  one_next_fault None f g p q = absurd p
  one_next_fault (Some number) f g p q = p.0 ∙ sym q.0

  -- ---- a new entry

  same_number : (option : OptionParts) (m n : ℕ) → IsLowestSame vars option m → IsLowestSame vars option n → m ≡ n
  same_number option m n p q = elim (cases_order m n) [
    | inl same ↦ same
    | inr (inl below) ↦ absurd (q.first m below p.here)
    | inr (inr above) ↦ absurd (p.first n above q.here)
  ]

  module _ (addition : Addition) where
    present_once : (m n : ℕ) → IsPresent vars addition m → IsPresent vars addition n → m ≡ n
    present_once m n p q =
        same_number q.option m n (subst (λ (o : OptionParts). IsLowestSame vars o m)
        (one.option addition.option.now p.option q.option p.spelled q.spelled) p.there) q.there

    wanted_or_present : (n : ℕ) → IsWanted vars addition → IsPresent vars addition n → ⊥
    wanted_or_present n w p = elim w.new [
      | inl again ↦ false≢true (sym p.once ∙ again)
      | inr none ↦ none n (subst (λ (o : OptionParts). IsSame vars o n) (one.option addition.option.now p.option w.option p.spelled w.spelled) p.there.here)
    ]

    one_number : (entry : Option ℕ) (m n : ℕ) → IsNewNumber vars entry m → IsNewNumber vars entry n → m ≡ n
    one_number (Some e) m n p q = p.0 ∙ sym q.0
    one_number None m n p q = elim (cases_order m n) [
      | inl same ↦ same
      | inr (inl below) ↦ absurd (not_both (entry_of vars m) (q.taken m below) p.free)
      | inr (inr above) ↦ absurd (not_both (entry_of vars n) (p.taken n above) q.free)
    ]
      where
        not_both : (x : Option (List ℕ)) → IsSome x → x ≡ None → ⊥
        not_both None some none = false≢true some
        not_both (Some bytes) some none = cc none

    stores_once : (position : Position) (n : ℕ) (a b : Option (List ℕ)) → StoresPlaced vars position n a → StoresPlaced vars position n b → a ≡ b
    stores_once position n a b p q =
        p.2 ∙ ap stored_order (p.1.is ∙ ap (placed position n) (one.order vars p.1.order q.1.order p.1.old q.1.old) ∙ sym q.1.is) ∙ sym q.2

    placed_once : (position : Position) (n : ℕ) (a b : Option (List ℕ)) → IsPlaced vars position n a → IsPlaced vars position n b → a ≡ b
    placed_once First n a b p q = stores_once First n a b p q
    placed_once Last n a b p q = stores_once Last n a b p q
    placed_once NoOrder n a b p q = p ∙ sym q

    entry_once : (n : ℕ) (a b : Variables) → IsEntryAdded vars addition n a → IsEntryAdded vars addition n b → a ≡ b
    entry_once n a b p q =
        one_becomes vars _ a b
        (subst (λ (o : Option (List ℕ)). Becomes vars (record (parts_of vars) { entries = entries_with n addition.option.now (entry_of vars); order = o }) a)
        (placed_once addition.position n p.order q.order p.placed q.placed) p.becomes)
        q.becomes

    added_once : (m n : ℕ) (a b : Variables) → IsAdded vars addition m a → IsAdded vars addition n b → (a ≡ b) × (m ≡ n)
    added_once m n a b p q =
        let same = one_number addition.entry m n p.new q.new in
        (entry_once n a b (subst (λ (k : ℕ). IsEntryAdded vars addition k a) same p.added) q.added, same)

    addition_once : (a b : Variables) (x y : EditAnswer) → IsAdditionDone vars addition a x → IsAdditionDone vars addition b y → (a ≡ b) × (x ≡ y)
    addition_once a b Done y p q = absurd p
    addition_once a b (Added m) Done p q = absurd q
    addition_once a b (Added m) (Added n) p q = let both = added_once m n a b p q in (both.0, ap Added both.1)
    addition_once a b (Added m) (Present n) p q = absurd (wanted_or_present n p.wanted q.0)
    addition_once a b (Present m) Done p q = absurd q
    addition_once a b (Present m) (Added n) p q = absurd (wanted_or_present m q.wanted p.0)
    addition_once a b (Present m) (Present n) p q = (p.1 ∙ sym q.1, ap Present (present_once m n p.0 q.0))

    number_or_not : (entry : Option ℕ) (n : ℕ) (f : EditFault) → IsNewNumber vars entry n → IsNumberFault vars entry f → ⊥
    number_or_not (Some e) n f p q = q.1 p.1
    number_or_not None n f p q = q.1 n p.is p.free

    order_or_not : (position : Position) (n : ℕ) (stored : Option (List ℕ)) (f : EditFault) →
        StoresPlaced vars position n stored → IsOrderFault vars position n f → ⊥
    order_or_not position n stored f p (inl bad) = one.bad_order vars p.1.order bad.1 p.1.old
    order_or_not position n stored f p (inr (is, (order, old, long))) =
        let same = ap (λ (o : List ℕ). length (placed position n o)) (one.order vars order p.1.order old p.1.old) in
        let len = ap length p.1.is in
        omega (arith, same, len, long, p.1.fits)

    place_or_not : (position : Position) (n : ℕ) (stored : Option (List ℕ)) (f : EditFault) → IsPlaced vars position n stored →
        IsPlaceFault vars position n f → ⊥
    place_or_not First n stored f p q = order_or_not First n stored f p q
    place_or_not Last n stored f p q = order_or_not Last n stored f p q
    place_or_not NoOrder n stored f p q = q

    room_or_not : (n : ℕ) (to : Variables) (f : EditFault) → IsEntryAdded vars addition n to → IsRoomFaultAt vars addition n f → ⊥
    room_or_not n to f p (inl long) = omega (arith, p.fits, long.1)
    room_or_not n to f p (inr q) = place_or_not addition.position n p.order f p.placed q.1

    addition_or_not : (to : Variables) (x : EditAnswer) (f : EditFault) → IsAdditionDone vars addition to x → IsAdditionFault vars addition f → ⊥
    addition_or_not to Done f p q = p
    addition_or_not to (Added n) f p (inl q) = one.no_option addition.option.now q.0 p.wanted.option q.2 p.wanted.spelled
    addition_or_not to (Added n) f p (inr (wanted, inl q)) = number_or_not addition.entry n f p.new q
    addition_or_not to (Added n) f p (inr (wanted, inr q)) =
        room_or_not n to f p.added (subst (λ (k : ℕ). IsRoomFaultAt vars addition k f) (one_number addition.entry q.number n q.new p.new) q.is)
    addition_or_not to (Present n) f p (inl q) = one.no_option addition.option.now q.0 p.0.option q.2 p.0.spelled
    addition_or_not to (Present n) f p (inr q) = wanted_or_present n q.0 p.0

    one_number_fault : (entry : Option ℕ) (f g : EditFault) → IsNumberFault vars entry f → IsNumberFault vars entry g → f ≡ g
    one_number_fault (Some e) f g p q = p.0 ∙ sym q.0
    one_number_fault None f g p q = p.0 ∙ sym q.0

    one_order_fault : (position : Position) (n : ℕ) (f g : EditFault) → IsOrderFault vars position n f → IsOrderFault vars position n g → f ≡ g
    one_order_fault position n f g (inl p) (inl q) = p.0 ∙ sym q.0
    one_order_fault position n f g (inl p) (inr q) = absurd (one.bad_order vars q.1.0 p.1 q.1.1)
    one_order_fault position n f g (inr p) (inl q) = absurd (one.bad_order vars p.1.0 q.1 p.1.1)
    one_order_fault position n f g (inr p) (inr q) = p.0 ∙ sym q.0

    one_place_fault : (position : Position) (n : ℕ) (f g : EditFault) → IsPlaceFault vars position n f → IsPlaceFault vars position n g → f ≡ g
    one_place_fault First n f g p q = one_order_fault First n f g p q
    one_place_fault Last n f g p q = one_order_fault Last n f g p q
    one_place_fault NoOrder n f g p q = absurd p

    one_room_fault : (n : ℕ) (f g : EditFault) → IsRoomFaultAt vars addition n f → IsRoomFaultAt vars addition n g → f ≡ g
    one_room_fault n f g (inl p) (inl q) = p.0 ∙ sym q.0
    one_room_fault n f g (inl p) (inr q) = absurd (omega (arith, p.1, q.0))
    one_room_fault n f g (inr p) (inl q) = absurd (omega (arith, q.1, p.0))
    one_room_fault n f g (inr p) (inr q) = one_place_fault addition.position n f g p.1 q.1

    one_addition_fault : (f g : EditFault) → IsAdditionFault vars addition f → IsAdditionFault vars addition g → f ≡ g
    one_addition_fault f g (inl p) (inl q) = p.1 ∙ ap BadOption (one.option_fault addition.option.now p.0 q.0 p.2 q.2) ∙ sym q.1
    one_addition_fault f g (inl p) (inr q) = absurd (one.no_option addition.option.now p.0 q.0.option p.2 q.0.spelled)
    one_addition_fault f g (inr p) (inl q) = absurd (one.no_option addition.option.now q.0 p.0.option q.2 p.0.spelled)
    one_addition_fault f g (inr (a, inl p)) (inr (b, inl q)) = one_number_fault addition.entry f g p q
    one_addition_fault f g (inr (a, inl p)) (inr (b, inr q)) = absurd (number_or_not addition.entry q.number f q.new p)
    one_addition_fault f g (inr (a, inr p)) (inr (b, inl q)) = absurd (number_or_not addition.entry p.number g p.new q)
    one_addition_fault f g (inr (a, inr p)) (inr (b, inr q)) =
        one_room_fault q.number f g (subst (λ (k : ℕ). IsRoomFaultAt vars addition k f) (one_number addition.entry p.number q.number p.new q.new) p.is) q.is

  -- ---- all edits

  pub edited_once : (edit : Edit) (a b : Variables) (x y : EditAnswer) → IsEdited vars edit a x → IsEdited vars edit b y → (a ≡ b) × (x ≡ y)
  edited_once (Add addition) a b x y p q = addition_once addition a b x y p q
  edited_once (Remove numbers) a b x y p q = (removed_once numbers.now a b p.1 q.1, p.0 ∙ sym q.0)
  edited_once (FirstOf numbers) a b x y p q = (
    reordered_once (IsMissing vars) numbers.now (IsFrontOrder vars numbers.now)
        (one_front numbers.now) a b p.1 q.1,
    p.0 ∙ sym q.0,
  )
  edited_once (Order new) a b x y p q = (
    reordered_once (IsStale new.stale vars) new.entries.now (IsNewOrder vars new.only new.entries.now)
        (one_new new.only new.entries.now) a b p.1 q.1,
    p.0 ∙ sym q.0,
  )
  edited_once Unrepeat a b x y p q = (unrepeated_once a b p.1 q.1, p.0 ∙ sym q.0)
  edited_once (Next next) a b x y p q = (next_once next a b p.1 q.1, p.0 ∙ sym q.0)
  edited_once (Timeout seconds) a b x y p q = (p.1 ∙ sym q.1, p.0 ∙ sym q.0)
  edited_once (Activate numbers) a b x y p q = (one_becomes vars _ a b p.1.becomes q.1.becomes, p.0 ∙ sym q.0)
  edited_once (Deactivate numbers) a b x y p q = (one_becomes vars _ a b p.1.becomes q.1.becomes, p.0 ∙ sym q.0)

  pub edited_or_not : (edit : Edit) (to : Variables) (x : EditAnswer) (f : EditFault) → IsEdited vars edit to x → IsEditFault vars edit f → ⊥
  edited_or_not (Add addition) to x f p q = addition_or_not addition to x f p q
  edited_or_not (Remove numbers) to x f p q = remove_or_not numbers.now to f p.1 q
  edited_or_not (FirstOf numbers) to x f p q = reorder_or_not (IsMissing vars) numbers.now (IsFrontOrder vars numbers.now) (one_front numbers.now) to f p.1 q
  edited_or_not (Order new) to x f p q =
      reorder_or_not (IsStale new.stale vars) new.entries.now (IsNewOrder vars new.only new.entries.now) (one_new new.only new.entries.now) to f p.1 q
  edited_or_not Unrepeat to x f p q = one.bad_order vars p.1.order q.1 p.1.has_order
  edited_or_not (Next next) to x f p q = next_or_not next to f p.1 q
  edited_or_not (Timeout seconds) to x f p q = q
  edited_or_not (Activate numbers) to x f p q = fine_or_not (IsNoOption vars) numbers.now p.1.fine f q
  edited_or_not (Deactivate numbers) to x f p q = fine_or_not (IsNoOption vars) numbers.now p.1.fine f q

  pub one_edit_fault : (edit : Edit) (f g : EditFault) → IsEditFault vars edit f → IsEditFault vars edit g → f ≡ g
  one_edit_fault (Add addition) f g p q = one_addition_fault addition f g p q
  one_edit_fault (Remove numbers) f g p q = one_remove_fault numbers.now f g p q
  one_edit_fault (FirstOf numbers) f g p q =
      one_reorder_fault (IsMissing vars) numbers.now (IsFrontOrder vars numbers.now) (one_front numbers.now) one_missing f g p q
  one_edit_fault (Order new) f g p q =
      one_reorder_fault (IsStale new.stale vars) new.entries.now (IsNewOrder vars new.only new.entries.now)
      (one_new new.only new.entries.now) (one_stale new.stale) f g p q
  one_edit_fault Unrepeat f g p q = p.0 ∙ sym q.0
  one_edit_fault (Next next) f g p q = one_next_fault next f g p q
  one_edit_fault (Timeout seconds) f g p q = absurd p
  one_edit_fault (Activate numbers) f g p q = one_first (IsNoOption vars) numbers.now one_no_option f g p q
  one_edit_fault (Deactivate numbers) f g p q = one_first (IsNoOption vars) numbers.now one_no_option f g p q

-- ---- variables of other names

pub others_kept : (vars : Variables) (edit : Edit) (to : Variables) (x : EditAnswer) → IsEdited vars edit to x →
    (name : List ℕ) → IsLeft edit name → get to name ≡ get vars name
others_kept vars (Add addition) to Done p name other = absurd p
others_kept vars (Add addition) to (Added n) p name other = p.added.becomes.others name other
others_kept vars (Add addition) to (Present n) p name other = ap (λ (m : Variables). get m name) p.1
others_kept vars (Remove numbers) to x p name other = p.1.becomes.others name other
others_kept vars (FirstOf numbers) to x p name other = p.1.becomes.others name other
others_kept vars (Order new) to x p name other = p.1.becomes.others name other
others_kept vars Unrepeat to x p name other = p.1.becomes.others name other
others_kept vars (Next None) to x p name other = p.1.others name other
others_kept vars (Next (Some n)) to x p name other = p.1.1.others name other
others_kept vars (Timeout seconds) to x p name other =
    ap (λ (m : Variables). get m name) p.1 ∙ stored_beside vars timeout_text (stored_timeout seconds) name other
others_kept vars (Activate numbers) to x p name other = p.1.becomes.others name other
others_kept vars (Deactivate numbers) to x p name other = p.1.becomes.others name other
