-- The first of the names under which there is a change, and what is under a name once these are changed.
use Rattle.std.proofs.Common.{◌≡◌, ◌≢◌, ◌⊎◌, ℕ, zero, suc, ◌<◌, ◌^◌, ◌+◌, ◌-◌, length, Bool, true, false, cond, not, ◌&&◌, ◌||◌, List, []}
use Rattle.std.proofs.Common.{◌∷◌, ◌++◌, take, Option, Some, None, inl, inr, refl, sym, ap, subst, ◌∙◌, append_assoc, arith}
use Rattle.std.specs.Option.{is_some}
use Rattle.std.specs.List.{list_any, IsDistinct}
use Rattle.std.specs.FinMap.{get, contains_key, keys}
use Rattle.std.proofs.lemmas.Bool.{cases_lt, and_parts, and_from, or_from, or_left, or_right, or_cases, false_from_ne_true, cond-true}
use Rattle.std.proofs.lemmas.Bool.{cond-false, false≢true, true≢false}
use Rattle.std.proofs.Math.Seq.{take-append-add}
use Rattle.std.proofs.lemmas.List.{take-append-le}
use Rattle.std.proofs.lemmas.List.Folds.{list_any-append}
use Rattle.uefi_vars.specs.Name.{entry_text, order_text, next_text, timeout_text}
use Rattle.uefi_vars.specs.Vars.{Variables}
use Rattle.uefi_vars.specs.BootChange.{same_name, is_entry_name, differs, put_names, removed_names, if_differs, changed_names}
use Rattle.uefi_vars.proofs.NameTests.{same_name-is, same_name-refl, entry_of_name, name_of_entry}
use Rattle.uefi_vars.proofs.Distinct.{keys_distinct, filter_distinct, append_distinct}
use Rattle.uefi_vars.proofs.Members.{in_puts, in_removed, in_single, same_there}

-- no entry has this name
abbrev pub IsNoEntry : List ℕ → Type 0
IsNoEntry name = (number : ℕ) → entry_text number ≢ name

pub no_entry : (name q : List ℕ) → IsNoEntry name → is_entry_name q ≡ true → same_name q name ≡ false
no_entry name q apart entry =
    false_from_ne_true (same_name q name) (λ same. let found = entry_of_name q entry in apart found.0 (sym found.2 ∙ same_name-is q name same))

pub none_is_entry : (name : List ℕ) → IsNoEntry name → is_entry_name name ≡ false
none_is_entry name apart = false_from_ne_true (is_entry_name name) (λ entry. absurd (true≢false (sym (same_name-refl name) ∙ no_entry name name apart entry)))

some_there : (o : Option (List ℕ)) → is_some o ≡ true → o ≡ None → ⊥
some_there None e same = false≢true e
some_there (Some value) e same = cc

cond_same : (b : Bool) (x y : Option (List ℕ)) → y ≡ x → cond b x y ≡ x
cond_same true x y e = refl
cond_same false x y e = e

-- ---- the front of names with a special one in their midst

-- what is under a name once those of these names are as in the other set
abbrev pub now_under : Variables → Variables → List (List ℕ) → List ℕ → Option (List ℕ)
now_under from to names q = cond (list_any (same_name q) names) (get to q) (get from q)

taken_in : (k : ℕ) (names : List (List ℕ)) (q : List ℕ) → list_any (same_name q) (take k names) ≡ true → list_any (same_name q) names ≡ true
taken_in zero names q e = absurd (false≢true e)
taken_in (suc k) [] q e = e
taken_in (suc k) (n ∷ names) q e =
    elim (or_cases (same_name q n) (list_any (same_name q) (take k names)) e) [
      | inl here ↦ or_left (same_name q n) (list_any (same_name q) names) here
      | inr there ↦ or_right (same_name q n) (list_any (same_name q) names) (taken_in k names q there)
    ]

-- the special variable and the entry are both as before, or both as after
abbrev AreAlike : Variables → Variables → List (List ℕ) → List ℕ → List ℕ → Type 0
AreAlike from to front special entry =
    ((now_under from to front special ≡ get from special) × (get from entry ≡ None))
    ⊎ ((now_under from to front special ≡ get to special) × (get to entry ≡ None))

-- Before the special name are names of entries that are there after all changes, among them each that is put.
pub record IsBefore (from to : Variables) (names : List (List ℕ)) (special : List ℕ) : Type 0 where
  pub stays : (q : List ℕ) → is_entry_name q ≡ true → list_any (same_name q) names ≡ true → contains_key to q ≡ true
  pub puts : (q : List ℕ) → is_entry_name q ≡ true → contains_key to q ≡ true → differs from to q ≡ true → list_any (same_name q) names ≡ true
  pub apart : list_any (same_name special) names ≡ false

module _ (from to : Variables) (names behind : List (List ℕ)) (special : List ℕ) (h : IsBefore from to names special)
    (entry : List ℕ) (is : is_entry_name entry ≡ true) where
  -- the front ends before the special name
  early : (k : ℕ) → now_under from to (take k names) entry ≡ None → AreAlike from to (take k names) special entry
  early k none =
      let special_waits : list_any (same_name special) (take k names) ≡ false =
      false_from_ne_true _ (λ e. absurd (true≢false (sym (taken_in k names special e) ∙ h.apart))) in
      let entry_waits : list_any (same_name entry) (take k names) ≡ false =
      false_from_ne_true _ (λ e. some_there (get to entry) (h.stays entry is (taken_in k names entry e))
      (sym (cond-true _ (get to entry) (get from entry) e) ∙ none)) in
      inl (cond-false _ (get to special) (get from special) special_waits, sym (cond-false _ (get to entry) (get from entry) entry_waits) ∙ none)

  -- the front has all before the special name
  gone_after : (front : List (List ℕ)) → now_under from to (names ++ front) entry ≡ None → get to entry ≡ None
  gone_after front none =
      elim (get to entry) as (λ o. get to entry ≡ o → o ≡ None) [
        | None ↦ λ e. refl
        | Some value ↦ λ e.
            let there : contains_key to entry ≡ true = ap is_some e in
            absurd (elim (differs from to entry) as (λ b. differs from to entry ≡ b → ⊥) [
              | true ↦ λ d.
                  let in_front : list_any (same_name entry) (names ++ front) ≡ true =
                  list_any-append (same_name entry) names front ∙ or_left _ (list_any (same_name entry) front)
                  (h.puts entry is there d) in
                  some_there (get to entry) there (sym (cond-true _ (get to entry) (get from entry) in_front) ∙ none)
              | false ↦ λ d.
                  let same = same_there from to entry d in
                  some_there (get to entry) there (sym (cond_same (list_any (same_name entry) (names ++ front)) (get to entry) (get from entry) same) ∙ none)
            ] refl)
      ] refl

  late : (front : List (List ℕ)) → (differs from to special ≡ true → list_any (same_name special) front ≡ true) →
      now_under from to (names ++ front) entry ≡ None → AreAlike from to (names ++ front) special entry
  late front has none =
      inr (
        elim (differs from to special) as (λ b. differs from to special ≡ b → now_under from to (names ++ front) special ≡ get to special) [
          | true ↦ λ d. cond-true _ (get to special) (get from special)
              (list_any-append (same_name special) names front ∙ or_right (list_any (same_name special) names) _ (has d))
          | false ↦ λ d. cond_same (list_any (same_name special) (names ++ front)) (get to special) (get from special) (same_there from to special d)
        ] refl,
        gone_after front none,
      )

  pub alike : (k : ℕ) → now_under from to (take k (names ++ (if_differs from to special ++ behind))) entry ≡ None →
      AreAlike from to (take k (names ++ (if_differs from to special ++ behind))) special entry
  alike k none =
      elim (cases_lt (length names) k) [
        | inr few ↦
            let front : take k (names ++ (if_differs from to special ++ behind)) ≡ take k names = take-append-le k names _ few in
            subst (λ (t : List (List ℕ)). AreAlike from to t special entry) (sym front)
            (early k (subst (λ (t : List (List ℕ)). now_under from to t entry ≡ None) front none))
        | inl many ↦
            let more = k - length names in
            let front : take k (names ++ (if_differs from to special ++ behind)) ≡ names ++ take more (if_differs from to special ++ behind) =
            ap (λ (n : ℕ). take n (names ++ (if_differs from to special ++ behind)))
            (let sum : k ≡ length names + more = omega (arith, many) in sum)
            ∙ take-append-add names (if_differs from to special ++ behind) more in
            subst (λ (t : List (List ℕ)). AreAlike from to t special entry) (sym front)
            (late (take more (if_differs from to special ++ behind)) (λ d. first_taken more (differs from to special) d (omega (arith, many)))
            (subst (λ (t : List (List ℕ)). now_under from to t entry ≡ None) front none))
      ]
    where
      first_taken : (n : ℕ) (b : Bool) → b ≡ true → 0 < n → list_any (same_name special) (take n (cond b (special ∷ []) [] ++ behind)) ≡ true
      first_taken zero b is some = absurd (omega (arith, some))
      first_taken (suc n) false is some = absurd (false≢true is)
      first_taken (suc n) true is some = or_left (same_name special special) _ (same_name-refl special)

-- ---- BootOrder and BootNext in the midst of the names under which there is a change

module _ (from to : Variables) (no_order : IsNoEntry order_text) (no_next : IsNoEntry next_text) (differ : order_text ≢ next_text) where
  puts_before_order : IsBefore from to (put_names from to) order_text
  puts_before_order = record {
    stays = λ q entry is. (and_parts (is_entry_name q && differs from to q) (contains_key to q) (sym (in_puts from to q) ∙ is)).1;
    puts = λ q entry there d. in_puts from to q ∙ and_from _ (contains_key to q) (and_from (is_entry_name q) (differs from to q) entry d) there;
    apart = in_puts from to order_text ∙ ap (λ (b : Bool). (b && differs from to order_text) && contains_key to order_text) (none_is_entry order_text no_order);
  }

  with_order : (q : List ℕ) → list_any (same_name q) (put_names from to ++ if_differs from to order_text)
      ≡ (list_any (same_name q) (put_names from to) || (same_name q order_text && differs from to order_text))
  with_order q = list_any-append (same_name q) (put_names from to) (if_differs from to order_text)
      ∙ ap (λ (b : Bool). list_any (same_name q) (put_names from to) || b) (in_single from to q order_text)

  puts_before_next : IsBefore from to (put_names from to ++ if_differs from to order_text) next_text
  puts_before_next = record {
    stays = λ q entry is. elim (or_cases (list_any (same_name q) (put_names from to))
        (same_name q order_text && differs from to order_text) (sym (with_order q) ∙ is)) [
          | inl put ↦ puts_before_order.stays q entry put
          | inr order ↦ absurd (true≢false
              (sym (and_parts (same_name q order_text) (differs from to order_text) order).0
              ∙ no_entry order_text q no_order entry))
        ];
    puts = λ q entry there d. with_order q ∙ or_left _ (same_name q order_text && differs from to order_text) (puts_before_order.puts q entry there d);
    apart = with_order next_text ∙ or_from _ _
        (in_puts from to next_text ∙ ap (λ (b : Bool). (b && differs from to next_text) && contains_key to next_text) (none_is_entry next_text no_next))
        (ap (λ (b : Bool). b && differs from to order_text) (false_from_ne_true (same_name next_text order_text)
        (λ same. differ (sym (same_name-is next_text order_text same)))));
  }

  module _ (k number : ℕ) (below : number < 2 ^ 16) where
    pub order_alike : now_under from to (take k (changed_names from to)) (entry_text number) ≡ None →
        AreAlike from to (take k (changed_names from to)) order_text (entry_text number)
    order_alike = alike from to (put_names from to) (if_differs from to next_text ++ (if_differs from to timeout_text ++ removed_names from to)) order_text
        puts_before_order (entry_text number) (name_of_entry number (entry_text number) below refl) k

    regrouped : (put_names from to ++ if_differs from to order_text)
        ++ (if_differs from to next_text ++ (if_differs from to timeout_text ++ removed_names from to)) ≡ changed_names from to
    regrouped = append_assoc (put_names from to) (if_differs from to order_text) _

    pub next_alike : now_under from to (take k (changed_names from to)) (entry_text number) ≡ None →
        AreAlike from to (take k (changed_names from to)) next_text (entry_text number)
    next_alike =
        subst (λ (names : List (List ℕ)). now_under from to (take k names) (entry_text number) ≡ None →
        AreAlike from to (take k names) next_text (entry_text number)) regrouped
        (alike from to (put_names from to ++ if_differs from to order_text) (if_differs from to timeout_text ++ removed_names from to)
        next_text puts_before_next
        (entry_text number) (name_of_entry number (entry_text number) below refl) k)

  -- ---- no two of the names are the same

  single_distinct : (b : Bool) (name : List ℕ) → IsDistinct same_name (cond b (name ∷ []) [])
  unfolding IsDistinct
  single_distinct true name = (tt, tt)
  single_distinct false name = tt

  entry_of_put : (q : List ℕ) → list_any (same_name q) (put_names from to) ≡ true → (is_entry_name q ≡ true) × (contains_key to q ≡ true)
  entry_of_put q is = let parts = and_parts (is_entry_name q && differs from to q) (contains_key to q)
      (sym (in_puts from to q) ∙ is) in ((and_parts (is_entry_name q) (differs from to q) parts.0).0, parts.1)

  not_single : (q name : List ℕ) → same_name q name ≡ false → list_any (same_name q) (if_differs from to name) ≡ false
  not_single q name other = in_single from to q name ∙ ap (λ (b : Bool). b && differs from to name) other

  not_removed : (q : List ℕ) → is_entry_name q ≡ false → list_any (same_name q) (removed_names from to) ≡ false
  not_removed q other = in_removed from to q ∙ ap (λ (b : Bool). (b && not (contains_key to q)) && contains_key from q) other

  stays_there : (q : List ℕ) → contains_key to q ≡ true → list_any (same_name q) (removed_names from to) ≡ false
  stays_there q there = in_removed from to q ∙ ap (λ (b : Bool). (is_entry_name q && not b) && contains_key from q) there
      ∙ gone (is_entry_name q) (contains_key from q)
    where
      gone : (e f : Bool) → ((e && false) && f) ≡ false
      gone true f = refl
      gone false f = refl

  not_other : (q name : List ℕ) → same_name q name ≡ true → (other : List ℕ) → same_name name other ≡ false →
      list_any (same_name q) (if_differs from to other) ≡ false
  not_other q name is other apart = not_single q other (ap (λ (n : List ℕ). same_name n other) (same_name-is q name is) ∙ apart)

  is_single : (q name : List ℕ) → list_any (same_name q) (if_differs from to name) ≡ true → same_name q name ≡ true
  is_single q name single = (and_parts (same_name q name) (differs from to name) (sym (in_single from to q name) ∙ single)).0

  not_removed_single : (q name : List ℕ) → same_name q name ≡ true → IsNoEntry name → list_any (same_name q) (removed_names from to) ≡ false
  not_removed_single q name is none = not_removed q (ap is_entry_name (same_name-is q name is) ∙ none_is_entry name none)

  module _ (no_timeout : IsNoEntry timeout_text) where
    behind_puts : (q : List ℕ) → list_any (same_name q) (put_names from to) ≡ true →
        list_any (same_name q) (if_differs from to order_text ++ (if_differs from to next_text
        ++ (if_differs from to timeout_text ++ removed_names from to))) ≡ false
    behind_puts q put =
        let entry = entry_of_put q put in
        list_any-append (same_name q) (if_differs from to order_text) _
        ∙ or_from _ _ (not_single q order_text (no_entry order_text q no_order entry.0))
        (list_any-append (same_name q) (if_differs from to next_text) _
        ∙ or_from _ _ (not_single q next_text (no_entry next_text q no_next entry.0))
        (list_any-append (same_name q) (if_differs from to timeout_text) (removed_names from to)
        ∙ or_from _ _ (not_single q timeout_text (no_entry timeout_text q no_timeout entry.0)) (stays_there q entry.1)))

    behind_order : (q : List ℕ) → list_any (same_name q) (if_differs from to order_text) ≡ true →
        list_any (same_name q) (if_differs from to next_text ++ (if_differs from to timeout_text ++ removed_names from to)) ≡ false
    behind_order q order =
        let is = is_single q order_text order in
        list_any-append (same_name q) (if_differs from to next_text) _
        ∙ or_from _ _ (not_other q order_text is next_text refl)
        (list_any-append (same_name q) (if_differs from to timeout_text) (removed_names from to)
        ∙ or_from _ _ (not_other q order_text is timeout_text refl) (not_removed_single q order_text is no_order))

    behind_next : (q : List ℕ) → list_any (same_name q) (if_differs from to next_text) ≡ true →
        list_any (same_name q) (if_differs from to timeout_text ++ removed_names from to) ≡ false
    behind_next q next =
        let is = is_single q next_text next in
        list_any-append (same_name q) (if_differs from to timeout_text) (removed_names from to)
        ∙ or_from _ _ (not_other q next_text is timeout_text refl) (not_removed_single q next_text is no_next)

    behind_timeout : (q : List ℕ) → list_any (same_name q) (if_differs from to timeout_text) ≡ true → list_any (same_name q) (removed_names from to) ≡ false
    behind_timeout q timeout = not_removed_single q timeout_text (is_single q timeout_text timeout) no_timeout

    pub changed_distinct : IsDistinct same_name (changed_names from to)
    changed_distinct =
        append_distinct (put_names from to) _ (filter_distinct (λ name. is_entry_name name && differs from to name) (keys to) (keys_distinct to))
        (append_distinct (if_differs from to order_text) _ (single_distinct (differs from to order_text) order_text)
        (append_distinct (if_differs from to next_text) _ (single_distinct (differs from to next_text) next_text)
        (append_distinct (if_differs from to timeout_text) (removed_names from to) (single_distinct (differs from to timeout_text) timeout_text)
        (filter_distinct (λ name. is_entry_name name && not (contains_key to name)) (keys from) (keys_distinct from)) behind_timeout)
        behind_next) behind_order) behind_puts
