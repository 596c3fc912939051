-- The state of variables: that they stand for it, and that they stand for no other.
use Rattle.std.proofs.Common.{◌≡◌, ◌≢◌, ◌⊎◌, ℕ, zero, suc, ◌<◌, ◌≤◌, ◌^◌, List, [], ◌∷◌, Option, Some, None, IfSome, inl, inr, refl, sym, ap, subst, ◌∙◌}
use Rattle.std.proofs.Common.{⊎_elim, arith}
use Rattle.std.specs.Ordering.{nat_cmp}
use Rattle.std.specs.List.{AllByRecursion}
use Rattle.std.specs.FinMap.{get, get-empty, same_map, nat_cmp-IsAntisymmetric}
use Rattle.std.proofs.lemmas.Bool.{cases_lt}
use Rattle.std.proofs.lemmas.Cmp.{nat_cmp_total, nat_list_cmp_total}
use Rattle.std.proofs.lemmas.Nat.{from_le_bytes-to_le_bytes_2}
use Rattle.uefi_vars.specs.Name.{entry_text, order_text, next_text, keep_text}
use Rattle.uefi_vars.specs.Vars.{Variables, IsVars, entry_of}
use Rattle.uefi_vars.specs.Order.{IsEntryNumber, IsOrder, stored_order, stored_next, HasOrder, HasNext}
use Rattle.uefi_vars.specs.NameChanges.{with_data}
use Rattle.uefi_path.proofs.TwoBytes.{units_again}
use Rattle.uefi_vars.proofs.Maps.{name_cmp-IsAntisymmetric}
use Rattle.boot_requests.specs.State.{State, IsImage, MarkParts, IsBootName, stored_mark}
use Rattle.boot_requests.specs.StoredState.{HasMark, OpensAs}
use Rattle.boot_requests.specs.Keeper.{IsStateOf}
use Rattle.boot_requests.specs.StateOf.{entries_below, others_below, order_in, next_in, state_of}
use Rattle.boot_requests.specs.Marks.{mark_in}
use Rattle.boot_requests.proofs.Variables.Stored.{stored_here, stored_apart, still_none, entry_here, entry_apart, same_name_or_not, same_number_or_not}
use Rattle.boot_requests.proofs.Variables.Stored.{keep_is_no_entry, order_is_not_keep, next_is_not_keep, IsEntryAt, IsVariableAt, IsOtherAt, stored_beside}
use Rattle.boot_requests.proofs.Variables.Edits.{is_entry_name, is_order_name, is_next_name, is_keep_name, other_apart, each_boot_name}
use Rattle.boot_requests.proofs.Variables.Marks.{mark_valid}

-- ---- entries

pub no_entry_above : (limit : ℕ) (vars : Variables) (k : ℕ) → limit ≤ k → get (entries_below limit vars) k ≡ None
unfolding entries_below
no_entry_above zero vars k h = get-empty nat_cmp k
no_entry_above (suc number) vars k h =
    entry_apart (entries_below number vars) number (entry_of vars number) k (λ e. omega (arith, e, h)) ∙ no_entry_above number vars k (omega (arith, h))

pub entry_below : (limit : ℕ) (vars : Variables) (k : ℕ) → k < limit → get (entries_below limit vars) k ≡ entry_of vars k
unfolding entries_below
entry_below zero vars k h = absurd (omega (arith, h))
entry_below (suc number) vars k h =
    elim (same_number_or_not number k) [
      | inl same ↦ rw (← same) (entry_here (entries_below number vars) number (entry_of vars number) (no_entry_above number vars number (omega arith)))
      | inr differ ↦ entry_apart (entries_below number vars) number (entry_of vars number) k differ
          ∙ entry_below number vars k (let apart : number ≢ k = differ in omega (arith, h, apart))
    ]

-- ---- other names

none_below : (limit : ℕ) (vars : Variables) (name : List ℕ) → get (others_below zero vars) name ≡ None → get (others_below limit vars) name ≡ None
unfolding others_below
none_below zero vars name none = none
none_below (suc number) vars name none = still_none (others_below number vars) (entry_text number) name (none_below number vars name none)

-- no part of a state but the entries is among them
no_part : (vars : Variables) →
    (get (others_below zero vars) order_text ≡ None) × (get (others_below zero vars) next_text ≡ None) × (get (others_below zero vars) keep_text ≡ None)
unfolding others_below
no_part vars = (
  still_none _ keep_text order_text (still_none _ next_text order_text (stored_here vars order_text None)),
  still_none _ keep_text next_text (stored_here _ next_text None),
  stored_here _ keep_text None,
)

no_entry_below : (limit : ℕ) (vars : Variables) (k : ℕ) → k < limit → get (others_below limit vars) (entry_text k) ≡ None
unfolding others_below
no_entry_below zero vars k h = absurd (omega (arith, h))
no_entry_below (suc number) vars k h =
    elim (same_number_or_not number k) [
      | inl same ↦ rw (← same) (stored_here _ (entry_text number) None)
      | inr differ ↦ still_none _ (entry_text number) (entry_text k) (no_entry_below number vars k (let apart : number ≢ k = differ in omega (arith, h, apart)))
    ]

other_kept : (limit : ℕ) (vars : Variables) (name : List ℕ) → order_text ≢ name → next_text ≢ name → keep_text ≢ name →
    ((k : ℕ) → k < limit → entry_text k ≢ name) → get (others_below limit vars) name ≡ get vars name
unfolding others_below
other_kept zero vars name p q r apart = stored_apart _ keep_text None name r ∙ stored_apart _ next_text None name q ∙ stored_apart vars order_text None name p
other_kept (suc number) vars name p q r apart =
    stored_apart _ (entry_text number) None name (apart number (omega arith)) ∙ other_kept number vars name p q r (λ k h. apart k (omega (arith, h)))

entry_or_not : (limit : ℕ) (name : List ℕ) → ((k : ℕ) × (k < limit) × (entry_text k ≡ name)) ⊎ ((k : ℕ) → k < limit → entry_text k ≢ name)
entry_or_not zero name = inr (λ k h. absurd (omega (arith, h)))
entry_or_not (suc number) name = elim (same_name_or_not (entry_text number) name) [
  | inl same ↦ inl (number, omega arith, same)
  | inr differ ↦ elim (entry_or_not number name) [
    | inl below ↦ inl (below.0, (let h = below.1 in omega (arith, h)), below.2)
    | inr none ↦ inr
        (λ k h e.
        ⊎_elim (λ same. differ (subst (λ (j : ℕ). entry_text j ≡ name) (sym same) e))
        (λ other. none k (let apart : number ≢ k = other in omega (arith, h, apart)) e) (same_number_or_not number k))
  ]
]

pub boot_or_not : (name : List ℕ) → IsBootName name ⊎ (¬ IsBootName name)
boot_or_not name = elim (entry_or_not (2 ^ 16) name) [
  | inl entry ↦ inl (inl (entry.0, entry.1, sym entry.2))
  | inr no_entry ↦ elim (same_name_or_not name order_text) [
    | inl order ↦ inl (inr (inl order))
    | inr no_order ↦ elim (same_name_or_not name next_text) [
      | inl next ↦ inl (inr (inr (inl next)))
      | inr no_next ↦ elim (same_name_or_not name keep_text) [
        | inl keep ↦ inl (inr (inr (inr keep)))
        | inr no_keep ↦ inr (λ boot. elim boot [
          | inl entry ↦ no_entry entry.0 entry.1 (sym entry.2)
          | inr (inl order) ↦ no_order order
          | inr (inr (inl next)) ↦ no_next next
          | inr (inr (inr keep)) ↦ no_keep keep
        ])
      ]
    ]
  ]
]

-- no boot name is among the other variables
pub boot_gone : (vars : Variables) (name : List ℕ) → IsBootName name → get (others_below (2 ^ 16) vars) name ≡ None
boot_gone vars = each_boot_name (λ (name : List ℕ). get (others_below (2 ^ 16) vars) name ≡ None) (no_entry_below (2 ^ 16) vars)
    (none_below (2 ^ 16) vars order_text (no_part vars).0) (none_below (2 ^ 16) vars next_text (no_part vars).1)
    (none_below (2 ^ 16) vars keep_text (no_part vars).2)

-- all others are
pub other_stays : (vars : Variables) (name : List ℕ) → ¬ IsBootName name → get (others_below (2 ^ 16) vars) name ≡ get vars name
other_stays vars name odd =
    other_kept (2 ^ 16) vars name (other_apart order_text name is_order_name odd) (other_apart next_text name is_next_name odd)
    (other_apart keep_text name is_keep_name odd)
    (λ k h. other_apart (entry_text k) name (is_entry_name k h) odd)

-- ---- order and next

order_again : (order : List ℕ) → AllByRecursion IsEntryNumber order → order_in (stored_order order) ≡ order
order_again [] valid = refl
order_again (n ∷ numbers) valid = units_again (n ∷ numbers) valid

next_again : (next : Option ℕ) → IfSome next IsEntryNumber → next_in (stored_next next) ≡ next
next_again None valid = refl
next_again (Some number) valid = ap (λ (n : ℕ). Some n) (from_le_bytes-to_le_bytes_2 number valid)

-- ---- the state

stored_entry : (number : ℕ) (stored : Option (List ℕ)) → IsEntryNumber number → IsVariableAt (entry_text number) stored → IsEntryAt number stored
stored_entry number None p valid = tt
stored_entry number (Some bytes) p valid = (p, valid.1)

stored_other : (name : List ℕ) (stored : Option (List ℕ)) → ¬ IsBootName name → IsVariableAt name stored → IsOtherAt name stored
stored_other name None odd valid = tt
stored_other name (Some bytes) odd valid = (valid, odd)

-- the state that is read off variables is the one as which they open
pub state_opens : (vars : Variables) (mark : MarkParts) (order : List ℕ) (next : Option ℕ) → IsVars vars → HasOrder vars order → HasNext vars next →
    HasMark vars mark.next_number mark.kept → OpensAs vars (state_of vars mark)
state_opens vars mark order next valid has_order has_next has_mark =
    let same_order : order_in (get vars order_text) ≡ order = ap order_in has_order.stored ∙ order_again order has_order.is.numbers in
    let same_next : next_in (get vars next_text) ≡ next = ap next_in has_next.stored ∙ next_again next has_next.is in
    let stored = stored_mark mark.next_number mark.kept in
    record {
      is = record {
        entries = λ k. ⊎_elim
            (λ below. subst (IsEntryAt k) (sym (entry_below (2 ^ 16) vars k below)) (stored_entry k (entry_of vars k) below (valid (entry_text k))))
            (λ above. subst (IsEntryAt k) (sym (no_entry_above (2 ^ 16) vars k above)) tt)
            (cases_lt k (2 ^ 16));
        order = subst IsOrder (sym same_order) has_order.is;
        next = subst (λ (o : Option ℕ). IfSome o IsEntryNumber) (sym same_next) has_next.is;
        mark = mark_valid vars mark.next_number mark.kept has_mark;
        others = λ name. ⊎_elim
            (λ boot. subst (IsOtherAt name) (sym (boot_gone vars name boot)) tt)
            (λ odd. subst (IsOtherAt name) (sym (other_stays vars name odd)) (stored_other name (get vars name) odd (valid name)))
            (boot_or_not name);
      };
      mark = has_mark;
      image = record {
        entry = λ k p. stored_beside vars keep_text stored (entry_text k) (keep_is_no_entry k) ∙ sym (entry_below (2 ^ 16) vars k p);
        order = stored_beside vars keep_text stored order_text order_is_not_keep ∙ has_order.stored ∙ ap stored_order (sym same_order);
        next = stored_beside vars keep_text stored next_text next_is_not_keep ∙ has_next.stored ∙ ap stored_next (sym same_next);
        mark = stored_here vars keep_text stored;
        other = λ name odd. stored_apart vars keep_text stored name (other_apart keep_text name is_keep_name odd) ∙ sym (other_stays vars name odd);
      };
    }

no_number : (number : ℕ) (stored : Option (List ℕ)) → 2 ^ 16 ≤ number → IsEntryAt number stored → stored ≡ None
no_number number None p valid = refl
no_number number (Some bytes) p valid = absurd (let below = valid.0 in omega (arith, p, below))

no_other : (name : List ℕ) (stored : Option (List ℕ)) → IsBootName name → IsOtherAt name stored → stored ≡ None
no_other name None boot valid = refl
no_other name (Some bytes) boot valid = absurd (valid.1 boot)

same_entries : (m : State) (vars : Variables) → IsStateOf m vars → m.entries ≡ entries_below (2 ^ 16) vars
same_entries m vars h = same_map nat_cmp_total nat_cmp-IsAntisymmetric _ _ (λ k. ⊎_elim
    (λ below. sym (h.image.entry k below) ∙ sym (entry_below (2 ^ 16) vars k below))
    (λ above. no_number k (get m.entries k) above (h.is.entries k) ∙ sym (no_entry_above (2 ^ 16) vars k above))
    (cases_lt k (2 ^ 16)))

same_others : (m : State) (vars : Variables) → IsStateOf m vars → m.others ≡ others_below (2 ^ 16) vars
same_others m vars h = same_map nat_list_cmp_total name_cmp-IsAntisymmetric _ _ (λ name. ⊎_elim
    (λ boot. no_other name (get m.others name) boot (h.is.others name) ∙ sym (boot_gone vars name boot))
    (λ odd. sym (h.image.other name odd) ∙ sym (other_stays vars name odd))
    (boot_or_not name))

pub state_is : (m : State) (vars : Variables) → IsStateOf m vars → m ≡ state_of vars (mark_in m)
state_is m vars h =
    let entries = same_entries m vars h in
    let order : m.order ≡ order_in (get vars order_text) = sym (order_again m.order h.is.order.numbers) ∙ ap order_in (sym h.image.order) in
    let next : m.boot_next ≡ next_in (get vars next_text) = sym (next_again m.boot_next h.is.next) ∙ ap next_in (sym h.image.next) in
    let others = same_others m vars h in
    λ i. record { entries = entries i; order = order i; boot_next = next i; next_number = m.next_number; kept = m.kept; others = others i }

-- edited variables stand for the state that is read off them
pub stands_again : (m : State) (vars : Variables) (mark : MarkParts) → mark_in m ≡ mark → IsStateOf m vars → IsStateOf (state_of vars mark) vars
stands_again m vars mark e h = subst (λ (s : State). IsStateOf s vars) (state_is m vars h ∙ ap (state_of vars) e) h

pub read_again : (m : State) (vars : Variables) (mark : MarkParts) → mark_in m ≡ mark → IsStateOf m vars → state_of vars mark ≡ m
read_again m vars mark e h = sym (state_is m vars h ∙ ap (state_of vars) e)

-- ---- opened variables with their mark by version 2

module _ (old new : Variables) (mark : MarkParts) (opens : OpensAs old (state_of old mark))
    (put : new ≡ with_data old keep_text (stored_mark mark.next_number mark.kept)) where
  migrated_stands : IsStateOf (state_of old mark) new
  migrated_stands = record { is = opens.is; image = subst (IsImage (state_of old mark)) (sym put) opens.image }

  -- they stand for the state that is read off them
  pub stands_migrated : IsStateOf (state_of new mark) new
  stands_migrated = stands_again (state_of old mark) new mark refl migrated_stands

  -- it is that as which the variables before opened
  pub opens_migrated : OpensAs old (state_of new mark)
  opens_migrated = subst (OpensAs old) (state_is (state_of old mark) new migrated_stands) opens
