-- The image of a state: that there is one, and that it is the image of no other state.
use Rattle.std.proofs.Common.{◌≡◌, ◌≢◌, ℕ, zero, suc, ◌<◌, ◌≤◌, ◌^◌, List, [], ◌∷◌, map, take, drop, get_or, Option, Some, None, IfSome, inl, refl, sym, ap}
use Rattle.std.proofs.Common.{subst, ◌∙◌, ⊎_elim, arith, Bool, true, ◌&&◌, nat_le, inr}
use Rattle.std.specs.Int.{w32, from_le_bytes, to_le_bytes}
use Rattle.std.specs.List.{AllByRecursion, flat_map, list_all}
use Rattle.std.specs.FinMap.{get, same_map}
use Rattle.std.proofs.lemmas.Bool.{and_parts, leb-true}
use Rattle.std.proofs.lemmas.Cmp.{nat_list_cmp_total}
use Rattle.std.proofs.lemmas.Nat.{from_le_bytes-to_le_bytes_4}
use Rattle.std.proofs.lemmas.Option.{none-some}
use Rattle.uefi_vars.specs.Name.{IsNameByte, IsName, entry_text, order_text, next_text, keep_text}
use Rattle.uefi_vars.specs.Vars.{Variables, IsData, IsVars}
use Rattle.uefi_vars.specs.Order.{IsOrder, stored_order, stored_next, HasOrder, HasNext, HasBadOrder, HasBadNext}
use Rattle.uefi_vars.specs.NameChanges.{with_data}
use Rattle.uefi_vars.proofs.Numbers.{HaveTwoBytes}
use Rattle.uefi_vars.proofs.Names.{names_apart}
use Rattle.uefi_vars.proofs.NameChanges.{none_of}
use Rattle.uefi_vars.proofs.Maps.{name_cmp-IsAntisymmetric}
use Rattle.boot_requests.specs.declared.outcome.Code.{Code}
use Rattle.boot_requests.specs.declared.outcome.Outcome.{Outcome}
use Rattle.boot_requests.specs.declared.fault.OpenFault.{OpenFault}
use Rattle.boot_requests.specs.declared.fault.OpenFault.TheVariants as fault
use Rattle.boot_requests.specs.State.{State, IsState, IsImage, IsMark, mark_bytes, stored_mark}
use Rattle.boot_requests.specs.Outcome.{without_entry, code_byte, outcome_bytes}
use Rattle.boot_requests.specs.StoredState.{first_mark_bytes, IsFirstMark, HasMark, with_second_mark, OpensAs, IsOpenFault}
use Rattle.boot_requests.specs.Keeper.{IsStateOf}
use Rattle.boot_requests.specs.StateOf.{Entries, with_entries, state_of, image_of}
use Rattle.boot_requests.specs.Marks.{mark_of}
use Rattle.boot_requests.proofs.Variables.Stored.{stored_here, stored_apart, stored_again, same_name_or_not, same_number_or_not, order_is_no_entry}
use Rattle.boot_requests.proofs.Variables.Stored.{next_is_no_entry, keep_is_no_entry, order_is_not_next, order_is_not_keep, next_is_not_keep, IsEntryAt}
use Rattle.boot_requests.proofs.Variables.Stored.{IsVariableAt, IsOtherAt, stored_beside}
use Rattle.boot_requests.proofs.Variables.Edits.{mark_stored, is_entry_name, is_order_name, is_next_name, is_keep_name, each_boot_name, other_apart}
use Rattle.boot_requests.proofs.Variables.Marks.{same_some}
use Rattle.boot_requests.proofs.Variables.StateOf.{boot_or_not, state_is}
use Rattle.boot_requests.proofs.Variables.OutcomeBytes.{same_codes, same_outcomes, length-outcomes, outcomes_are_bytes}

-- ---- which marks are equal

same_number : (c d : ℕ) → c < 2 ^ 32 → d < 2 ^ 32 → to_le_bytes w32 c ≡ to_le_bytes w32 d → c ≡ d
same_number c d p q e = sym (from_le_bytes-to_le_bytes_4 c p) ∙ ap (from_le_bytes w32) e ∙ from_le_bytes-to_le_bytes_4 d q

same_bytes : (c d : ℕ) (a b : List Outcome) → IsMark c a → IsMark d b → mark_bytes c a ≡ mark_bytes d b → (c ≡ d) × (a ≡ b)
same_bytes c d a b p q e =
    let number : to_le_bytes w32 c ≡ to_le_bytes w32 d = ap (λ (t : List ℕ). take 4 (drop 1 t)) e in
    let outcomes : flat_map outcome_bytes a ≡ flat_map outcome_bytes b = ap (drop 6) e in
    (same_number c d p.four_bytes q.four_bytes number, same_outcomes a b p.outcomes q.outcomes outcomes)

same_first : (c d : ℕ) (a b : List Code) → IsFirstMark c a → IsFirstMark d b → first_mark_bytes c a ≡ first_mark_bytes d b → (c ≡ d) × (a ≡ b)
same_first c d a b p q e =
    let number : to_le_bytes w32 c ≡ to_le_bytes w32 d = ap (λ (t : List ℕ). take 4 (drop 1 t)) e in
    let codes : map code_byte a ≡ map code_byte b = ap (drop 6) e in
    (same_number c d p.four_bytes q.four_bytes number, same_codes a b codes)

same_mark : (c d : ℕ) (a b : List Outcome) → IsMark c a → IsMark d b → stored_mark c a ≡ stored_mark d b → (c ≡ d) × (a ≡ b)
same_mark zero zero a b p q e = (refl, none_of a (omega (arith, p.most)) ∙ sym (none_of b (omega (arith, q.most))))
same_mark zero (suc d) a b p q e = absurd (none-some (mark_bytes (suc d) b) (e ∙ mark_stored (suc d) b (omega arith)))
same_mark (suc c) zero a b p q e = absurd (none-some (mark_bytes (suc c) a) (sym e ∙ mark_stored (suc c) a (omega arith)))
same_mark (suc c) (suc d) a b p q e =
    same_bytes (suc c) (suc d) a b p q (same_some _ _ (sym (mark_stored (suc c) a (omega arith)) ∙ e ∙ mark_stored (suc d) b (omega arith)))

versions_apart : (c d : ℕ) (a : List Outcome) (b : List Code) → stored_mark c a ≡ Some (first_mark_bytes d b) → ⊥
versions_apart zero d a b e = none-some (first_mark_bytes d b) e
versions_apart (suc c) d a b e =
    let same = same_some _ _ (sym (mark_stored (suc c) a (omega arith)) ∙ e) in
    let version : ◌≡◌ {A = ℕ} 2 1 = ap (λ (t : List ℕ). get_or t 0 0) same in
    omega (arith, version)

-- variables have one mark, by whichever version
pub one_mark : (vars : Variables) (c d : ℕ) (a b : List Outcome) → HasMark vars c a → HasMark vars d b → (c ≡ d) × (a ≡ b)
one_mark vars c d a b (inl x) (inl y) = same_mark c d a b x.is y.is (sym x.stored ∙ y.stored)
one_mark vars c d a b (inl x) (inr y) = absurd (versions_apart c d a y.codes (sym x.stored ∙ y.stored))
one_mark vars c d a b (inr x) (inl y) = absurd (versions_apart d c b x.codes (sym y.stored ∙ x.stored))
one_mark vars c d a b (inr x) (inr y) =
    let same = same_first c d x.codes y.codes x.is y.is (same_some _ _ (sym x.stored ∙ y.stored)) in
    (same.0, x.kept_is ∙ ap (map without_entry) same.1 ∙ sym y.kept_is)

pub one_state : (m n : State) (vars : Variables) → IsState m → IsState n → IsImage m vars → IsImage n vars → m ≡ n
one_state m n vars p q f g =
    let same = same_mark m.next_number n.next_number m.kept n.kept p.mark q.mark (sym f.mark ∙ g.mark) in
    state_is m vars (record { is = p; image = f }) ∙ (λ i. state_of vars (mark_of (same.0 i) (same.1 i))) ∙ sym (state_is n vars (record { is = q; image = g }))

-- ---- which variables open

pub one_opening : (m n : State) (vars : Variables) → OpensAs vars m → OpensAs vars n → m ≡ n
one_opening m n vars p q =
    let same = one_mark vars m.next_number n.next_number m.kept n.kept p.mark q.mark in
    let put : with_second_mark vars m ≡ with_second_mark vars n = λ i. with_data vars keep_text (stored_mark (same.0 i) (same.1 i)) in
    one_state m n (with_second_mark vars m) p.is q.is p.image (subst (IsImage n) (sym put) q.image)

-- an image has its mark by version 2 already
pub migrated_same : (m : State) (vars : Variables) → IsImage m vars → with_second_mark vars m ≡ vars
migrated_same m vars f = ap (with_data vars keep_text) (sym f.mark) ∙ stored_again vars keep_text

pub image_opens : (m : State) (vars : Variables) → IsState m → IsImage m vars → OpensAs vars m
image_opens m vars is f =
    record { is = is; mark = inl (record { is = is.mark; stored = f.mark }); image = subst (IsImage m) (sym (migrated_same m vars f)) f }

-- ---- one image

pub one_image : (m : State) (a b : Variables) → IsImage m a → IsImage m b → a ≡ b
one_image m a b f g = same_map nat_list_cmp_total name_cmp-IsAntisymmetric _ _ (λ name. ⊎_elim
    (each_boot_name (λ (n : List ℕ). get a n ≡ get b n) (λ k p. f.entry k p ∙ sym (g.entry k p)) (f.order ∙ sym g.order) (f.next ∙ sym g.next)
    (f.mark ∙ sym g.mark) name)
    (λ odd. f.other name odd ∙ sym (g.other name odd))
    (boot_or_not name))

-- ---- an image that may be in a set

named : (name : List ℕ) (stored : Option (List ℕ)) → IsName name → IfSome stored IsData → IsVariableAt name stored
named name None is valid = tt
named name (Some bytes) is valid = (is, valid)

pub still_valid : (vars : Variables) (name : List ℕ) (stored : Option (List ℕ)) → IsVars vars → IsName name → IfSome stored IsData →
    IsVars (with_data vars name stored)
still_valid vars name stored valid is whole other =
    elim (same_name_or_not name other) [
      | inl same ↦ rw (← same) (subst (IsVariableAt name) (sym (stored_here vars name stored)) (named name stored is whole))
      | inr differ ↦ subst (IsVariableAt other) (sym (stored_apart vars name stored other differ)) (valid other)
    ]

order_data : HaveTwoBytes → (order : List ℕ) → IsOrder order → IfSome (stored_order order) IsData
order_data two [] fits = tt
order_data two (n ∷ numbers) fits = record { some = λ e. cc; len = omega (arith, (two (n ∷ numbers)).1, fits.len); bytes = (two (n ∷ numbers)).0 }

next_data : (next : Option ℕ) → IfSome (stored_next next) IsData
next_data None = tt
next_data (Some number) = record { some = λ e. cc; len = omega arith; bytes = (omega arith, (omega arith, tt)) }

mark_data : (next_number : ℕ) (kept : List Outcome) → IsMark next_number kept → IfSome (stored_mark next_number kept) IsData
mark_data zero kept mark = tt
mark_data (suc next_number) kept mark =
    subst (λ (o : Option (List ℕ)). IfSome o IsData) (sym (mark_stored (suc next_number) kept (omega arith))) (record {
      some = λ e. cc;
      len = omega (arith, mark.most, length-outcomes kept);
      bytes = (omega arith, (omega arith, (omega arith, (omega arith, (omega arith, (omega (arith, mark.most), outcomes_are_bytes kept))))));
    })

-- what is stored under each number is an entry's data
abbrev AreEntries : Entries → Type 0
AreEntries entries = (number : ℕ) → IsEntryAt number (get entries number)

data_of : (number : ℕ) (stored : Option (List ℕ)) → IsEntryAt number stored → IfSome stored IsData
data_of number None valid = tt
data_of number (Some bytes) valid = valid.1

variable_of : (name : List ℕ) (stored : Option (List ℕ)) → IsOtherAt name stored → IsVariableAt name stored
variable_of name None valid = tt
variable_of name (Some bytes) valid = valid.0

with_entry_at : (limit : ℕ) (entries : Entries) (vars : Variables) (k : ℕ) → limit ≤ 2 ^ 16 → k < limit →
    get (with_entries limit entries vars) (entry_text k) ≡ get entries k
unfolding with_entries
with_entry_at zero entries vars k fits h = absurd (omega (arith, h))
with_entry_at (suc number) entries vars k fits h =
    elim (same_number_or_not number k) [
      | inl same ↦ rw (← same) (stored_here _ (entry_text number) (get entries number))
      | inr differ ↦ stored_apart _ (entry_text number) (get entries number) (entry_text k)
          (λ e. differ (names_apart number k (omega (arith, fits)) (omega (arith, h, fits)) e))
          ∙ with_entry_at number entries vars k (omega (arith, fits)) (let apart : number ≢ k = differ in omega (arith, h, apart))
    ]

with_entry_apart : (limit : ℕ) (entries : Entries) (vars : Variables) (name : List ℕ) → ((k : ℕ) → k < limit → entry_text k ≢ name) →
    get (with_entries limit entries vars) name ≡ get vars name
unfolding with_entries
with_entry_apart zero entries vars name apart = refl
with_entry_apart (suc number) entries vars name apart =
    stored_apart _ (entry_text number) (get entries number) name (apart number (omega arith))
    ∙ with_entry_apart number entries vars name (λ k h. apart k (omega (arith, h)))

module _ (names : (number : ℕ) → number < 2 ^ 16 → IsName (entry_text number)) (order_name : IsName order_text) (next_name : IsName next_text)
    (keep_name : IsName keep_text) where
  entries_valid : (limit : ℕ) (entries : Entries) (vars : Variables) → limit ≤ 2 ^ 16 → AreEntries entries → IsVars vars →
      IsVars (with_entries limit entries vars)
  unfolding with_entries
  entries_valid zero entries vars fits are valid = valid
  entries_valid (suc number) entries vars fits are valid =
      still_valid (with_entries number entries vars) (entry_text number) (get entries number)
      (entries_valid number entries vars (omega (arith, fits)) are valid) (names number (omega (arith, fits)))
      (data_of number (get entries number) (are number))

  pub image_valid : HaveTwoBytes → (m : State) → IsState m → IsVars (image_of m)
  image_valid two m is =
      let others = λ (name : List ℕ). variable_of name (get m.others name) (is.others name) in
      still_valid _ keep_text _
      (still_valid _ next_text _
      (still_valid _ order_text _ (entries_valid (2 ^ 16) m.entries m.others (omega arith) is.entries others) order_name
      (order_data two m.order is.order)) next_name
      (next_data m.boot_next)) keep_name
      (mark_data m.next_number m.kept is.mark)

pub image_is : (m : State) → IsImage m (image_of m)
image_is m = record {
  entry = λ n p. stored_beside _ keep_text _ (entry_text n) (keep_is_no_entry n) ∙ stored_beside _ next_text _ (entry_text n) (next_is_no_entry n)
      ∙ stored_beside _ order_text _ (entry_text n) (order_is_no_entry n) ∙ with_entry_at (2 ^ 16) m.entries m.others n (omega arith) p;
  order = stored_beside _ keep_text _ order_text order_is_not_keep ∙ stored_beside _ next_text _ order_text order_is_not_next
      ∙ stored_here _ order_text (stored_order m.order);
  next = stored_beside _ keep_text _ next_text next_is_not_keep ∙ stored_here _ next_text (stored_next m.boot_next);
  mark = stored_here _ keep_text (stored_mark m.next_number m.kept);
  other = λ name odd.
      stored_apart _ keep_text _ name (other_apart keep_text name is_keep_name odd)
      ∙ stored_apart _ next_text _ name (other_apart next_text name is_next_name odd)
      ∙ stored_apart _ order_text _ name (other_apart order_text name is_order_name odd)
      ∙ with_entry_apart (2 ^ 16) m.entries m.others name (λ k h. other_apart (entry_text k) name (is_entry_name k h) odd);
}

-- the image of the state that variables stand for is the variables
pub image_again : (m : State) (vars : Variables) → IsStateOf m vars → image_of m ≡ vars
image_again m vars h = one_image m (image_of m) vars (image_is m) h.image

-- ---- the name of the mark

prints : List ℕ → Bool
prints name = list_all (λ byte. nat_le 0x21 byte && nat_le byte 0x7E) name

each_prints : (name : List ℕ) → prints name ≡ true → AllByRecursion IsNameByte name
unfolding prints
each_prints [] h = tt
each_prints (byte ∷ name) h =
    let parts = and_parts (nat_le 0x21 byte && nat_le byte 0x7E) (prints name) h in
    let ends = and_parts (nat_le 0x21 byte) (nat_le byte 0x7E) parts.0 in
    ((leb-true 0x21 byte ends.0, leb-true byte 0x7E ends.1), each_prints name parts.1)

pub keep_is_name : IsName keep_text
unfolding prints
keep_is_name = record { some = λ e. cc; len = omega arith; printing = each_prints keep_text refl }

-- ---- no fault

opened_order : (m : State) (vars : Variables) → OpensAs vars m → HasOrder vars m.order
opened_order m vars h = record {
  is = h.is.order;
  stored = sym (stored_beside vars keep_text (stored_mark m.next_number m.kept) order_text order_is_not_keep) ∙ h.image.order;
}

opened_next : (m : State) (vars : Variables) → OpensAs vars m → HasNext vars m.boot_next
opened_next m vars h = record {
  is = h.is.next;
  stored = sym (stored_beside vars keep_text (stored_mark m.next_number m.kept) next_text next_is_not_keep) ∙ h.image.next;
}

module _ (no_order : (vars : Variables) (order : List ℕ) → HasBadOrder vars → HasOrder vars order → ⊥)
    (no_next : (vars : Variables) (next : Option ℕ) → HasBadNext vars → HasNext vars next → ⊥) where
  -- what opens has no fault
  pub opened_has_no_fault : (m : State) (vars : Variables) (fault : OpenFault) → OpensAs vars m → IsOpenFault vars fault → ⊥
  opened_has_no_fault m vars fault.BadOrder h bad = no_order vars m.order bad (opened_order m vars h)
  opened_has_no_fault m vars fault.BadNext h bad = no_next vars m.boot_next bad.1 (opened_next m vars h)
  opened_has_no_fault m vars fault.BadState h bad = bad.2 m.next_number m.kept h.mark
  opened_has_no_fault m vars fault.OutOfMemory h bad = bad
