-- What single changes make of variables, part by part.
use Rattle.std.proofs.Common.{◌≡◌, ◌≢◌, ◌⊎◌, ℕ, ◌<◌, ◌*◌, ◌%◌, length, true, false, cond, List, Option, Some, None, refl, sym, ap, subst}
use Rattle.std.proofs.Common.{◌∙◌, inl, inr, ◌||◌, Bool, [], ◌∷◌, ◌++◌}
use Rattle.std.specs.FinMap.{get, insert, remove}
use Rattle.std.specs.Option.{option_map}
use Rattle.std.proofs.lemmas.Bool.{cases_eq, cases_Bool, cond-true, cond-false, eq-eqb, ne_eqb, false≢true, or_right}
use Rattle.uefi_vars.specs.Name.{entry_text, order_text, next_text}
use Rattle.uefi_vars.specs.NameChanges.{with_data}
use Rattle.std.specs.Option.{IsSomeAnd}
use Rattle.uefi_vars.specs.Order.{order_max, IsEntryNumber, stored_order, stored_next}
use Rattle.uefi_vars.specs.Vars.{Variables, entry_of}
use Rattle.uefi_vars.proofs.Names.{names_apart}
use Rattle.uefi_vars.proofs.Numbers.{HasOrder-along}
use Rattle.boot_requests.specs.Apply.{is_in}
use Rattle.boot_edits.specs.Orders.{next_without_all}
use Rattle.boot_edits.specs.Parts.{BootParts, parts_of, Becomes, entries_with, entries_changed}
use Rattle.boot_edits.specs.declared.addition.Position.{Position}
use Rattle.boot_edits.specs.declared.addition.Position.TheVariants.{First, Last, NoOrder}
use Rattle.boot_edits.specs.declared.fault.EditFault.{EditFault}
use Rattle.boot_edits.specs.Addition.{HasPlaced, IsPlaced, IsOrderFault, IsPlaceFault}
use Rattle.boot_edits.specs.Steps.{AreWithout, IsWithoutNext, IsPlacedIn}
use Rattle.boot_edits.proofs.Orders.{is_in-push}
use Rattle.boot_requests.proofs.Variables.Stored.{stored_here, stored_apart, stored_beside, order_is_no_entry, next_is_no_entry, order_is_not_next}

pub as_it_was : (vars : Variables) → Becomes vars (parts_of vars) vars
as_it_was vars = record { entries = λ n p. refl; order = refl; next = refl; others = λ name other. refl }

module _ (from mid : Variables) (parts : BootParts) (b : Becomes from parts mid) where
  -- BootOrder becomes this
  pub then_order : (order : Option (List ℕ)) → Becomes from (record parts { order = order }) (with_data mid order_text order)
  then_order order = record {
    entries = λ n p. stored_beside mid order_text order (entry_text n) (order_is_no_entry n) ∙ b.entries n p;
    order = stored_here mid order_text order;
    next = stored_apart mid order_text order next_text order_is_not_next ∙ b.next;
    others = λ name other. stored_beside mid order_text order name other.order ∙ b.others name other;
  }

  -- BootNext becomes this
  pub then_next : (next : Option (List ℕ)) → Becomes from (record parts { next = next }) (with_data mid next_text next)
  then_next next = record {
    entries = λ n p. stored_beside mid next_text next (entry_text n) (next_is_no_entry n) ∙ b.entries n p;
    order = stored_beside mid next_text next order_text order_is_not_next ∙ b.order;
    next = stored_here mid next_text next;
    others = λ name other. stored_beside mid next_text next name other.next ∙ b.others name other;
  }

  -- the entry of this number becomes this
  pub then_entry : (number : ℕ) → IsEntryNumber number → (bytes : List ℕ)
      → Becomes from (record parts { entries = entries_with number bytes parts.entries }) (insert mid (entry_text number) bytes)
  then_entry number fits bytes = record {
    entries = λ n p. elim (cases_eq number n) [
      | inl same ↦ rw (← same) (stored_here mid (entry_text number) (Some bytes) ∙ sym (cond-true _ _ _ (eq-eqb number number refl)))
      | inr differ ↦ stored_apart mid (entry_text number) (Some bytes) (entry_text n) (λ e. differ (names_apart number n fits p e)) ∙ b.entries n p
          ∙ sym (cond-false _ _ _ (ne_eqb number n differ))
    ];
    order = stored_apart mid (entry_text number) (Some bytes) order_text (order_is_no_entry number) ∙ b.order;
    next = stored_apart mid (entry_text number) (Some bytes) next_text (next_is_no_entry number) ∙ b.next;
    others = λ name other. stored_beside mid (entry_text number) (Some bytes) name (other.entry number fits) ∙ b.others name other;
  }

module _ (from to : Variables) (parts : BootParts) (b : Becomes from parts to) where
  -- the same parts in other words
  pub retell_entries : (entries : ℕ → Option (List ℕ)) → ((number : ℕ) → parts.entries number ≡ entries number) →
      Becomes from (record parts { entries = entries }) to
  retell_entries entries same = record { entries = λ n p. b.entries n p ∙ same n; order = b.order; next = b.next; others = b.others }

  pub retell_order : (order : Option (List ℕ)) → parts.order ≡ order → Becomes from (record parts { order = order }) to
  retell_order order same = record { entries = b.entries; order = b.order ∙ same; next = b.next; others = b.others }

  pub retell_next : (next : Option (List ℕ)) → parts.next ≡ next → Becomes from (record parts { next = next }) to
  retell_next next same = record { entries = b.entries; order = b.order; next = b.next ∙ same; others = b.others }

-- entries are taken out
pub without_becomes : (numbers : List ℕ) (from to : Variables) → AreWithout numbers from to
    → Becomes from (record (parts_of from) { entries = entries_changed numbers (λ bytes. None) (entry_of from) }) to
without_becomes numbers from to w = record {
  entries = λ n p. elim (cases_Bool (is_in numbers n)) [
    | inl listed ↦ w.out (entry_text n) (n, p, listed, refl) ∙ sym (cond-true _ _ _ listed)
    | inr other ↦
        w.kept (entry_text n) (λ named. false≢true (sym other ∙ ap (is_in numbers) (names_apart n named.0 p named.1 named.3) ∙ named.2))
        ∙ sym (cond-false _ _ _ other)
  ];
  order = w.kept order_text (λ named. order_is_no_entry named.0 (sym named.3));
  next = w.kept next_text (λ named. next_is_no_entry named.0 (sym named.3));
  others = λ name other. w.kept name (λ named. other.entry named.0 named.1 named.3);
}

-- and BootNext is deleted if it names one
pub forgotten : (numbers : List ℕ) (next : Option ℕ) (from mid to : Variables) (parts : BootParts) → Becomes from parts mid
    → parts.next ≡ stored_next next → IsWithoutNext numbers next mid to
    → Becomes from (record parts { next = stored_next (next_without_all numbers next) }) to
forgotten numbers None from mid to parts b is same =
    subst (Becomes from (record parts { next = None })) (sym same) (retell_next from mid parts b None is)
forgotten numbers (Some n) from mid to parts b is e = by (is_in numbers n) e
  where
    by : (t : Bool) → to ≡ cond t (remove mid next_text) mid → Becomes from (record parts { next = stored_next (cond t None (Some n)) }) to
    by true e = subst (Becomes from (record parts { next = None })) (sym e) (then_next from mid parts b None)
    by false e = subst (Becomes from (record parts { next = stored_next (Some n) })) (sym e) (retell_next from mid parts b (stored_next (Some n)) is)

-- one more entry is changed, of those that are there
pub changed_more : (change : List ℕ → List ℕ) (numbers : List ℕ) (number : ℕ) (from mid : Variables) (bytes : List ℕ) → IsEntryNumber number
    → entry_of from number ≡ Some bytes
    → Becomes from (record (parts_of from) { entries = entries_changed numbers (option_map change) (entry_of from) }) mid
    → Becomes from (record (parts_of from) { entries = entries_changed (numbers ++ number ∷ []) (option_map change) (entry_of from) })
    (insert mid (entry_text number) (change bytes))
changed_more change numbers number from mid bytes fits there b =
    retell_entries from _ _ (then_entry from mid _ b number fits (change bytes)) _ (λ n. elim (cases_eq number n) [
      | inl same ↦
          cond-true _ _ _ (eq-eqb number n same)
          ∙ sym (cond-true _ _ _ (is_in-push numbers number n ∙ or_right _ _ (eq-eqb number n same))
          ∙ ap (λ k. option_map change (entry_of from k)) (sym same) ∙ ap (option_map change) there)
      | inr differ ↦
          cond-false _ _ _ (ne_eqb number n differ)
          ∙ ap (λ t. cond t (option_map change (entry_of from n)) (entry_of from n))
          (sym (is_in-push numbers number n ∙ ap (λ t. is_in numbers n || t) (ne_eqb number n differ) ∙ or_none (is_in numbers n)))
    ])
  where
    or_none : (t : Bool) → (t || false) ≡ t
    or_none true = refl
    or_none false = refl

-- ---- a new number in BootOrder

module _ (vars mid : Variables) (same : get mid order_text ≡ get vars order_text) where
  has_placed : (position : Position) (number : ℕ) (new : List ℕ) → HasPlaced mid position number new → HasPlaced vars position number new
  has_placed position number new h = record { order = h.order; old = (HasOrder-along mid vars same h.order).0 h.old; is = h.is; fits = h.fits }

  pub placed_becomes : (parts : BootParts) (to : Variables) (position : Position) (number : ℕ) → Becomes vars parts mid → IsPlacedIn mid position number to
      → (order : Option (List ℕ)) × IsPlaced vars position number order × Becomes vars (record parts { order = order }) to
  placed_becomes parts to First number b p = (
    stored_order p.0,
    (p.0, has_placed First number p.0 p.1, refl),
    subst (Becomes vars (record parts { order = stored_order p.0 })) (sym p.2) (then_order vars mid parts b (stored_order p.0)),
  )
  placed_becomes parts to Last number b p = (
    stored_order p.0,
    (p.0, has_placed Last number p.0 p.1, refl),
    subst (Becomes vars (record parts { order = stored_order p.0 })) (sym p.2) (then_order vars mid parts b (stored_order p.0)),
  )
  placed_becomes parts to NoOrder number b p = (
    get vars order_text,
    refl,
    subst (Becomes vars (record parts { order = get vars order_text })) (sym p)
        (retell_order vars mid parts b (get vars order_text) (sym b.order ∙ same)),
  )

  order_fault : (position : Position) (number : ℕ) (f : EditFault) → IsOrderFault mid position number f → IsOrderFault vars position number f
  order_fault position number f (inl bad) = inl (
    bad.0,
    subst
        (λ (x : Option (List ℕ)). IsSomeAnd x (λ bytes. (length bytes % 2 ≢ 0) ⊎ (2 * order_max < length bytes))) same bad.1,
  )
  order_fault position number f (inr long) = inr (long.0, (long.1.0, (HasOrder-along mid vars same long.1.0).0 long.1.1, long.1.2))

  pub place_fault : (position : Position) (number : ℕ) (f : EditFault) → IsPlaceFault mid position number f → IsPlaceFault vars position number f
  place_fault First number f p = order_fault First number f p
  place_fault Last number f p = order_fault Last number f p
  place_fault NoOrder number f p = p
