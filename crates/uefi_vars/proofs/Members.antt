-- Which names are among those under which there is a change.
use Rattle.std.proofs.Common.{◌≡◌, ◌≢◌, ◌⊎◌, ℕ, Bool, true, false, cond, not, ◌&&◌, ◌||◌, ◌==◌, List, [], ◌∷◌, Option, Some, None, inl, inr, refl, sym, ap, ◌∙◌}
use Rattle.std.specs.Option.{is_some}
use Rattle.std.specs.List.{list_any}
use Rattle.std.specs.FinMap.{get, contains_key, keys, contains_key-keys}
use Rattle.std.specs.Cmp.Lexicographic.{pointwise}
use Rattle.std.proofs.lemmas.Bool.{and_parts, or_parts, or_cases, not-true, not-false, false≢true, true≢false}
use Rattle.std.proofs.lemmas.List.Folds.{list_any-append}
use Rattle.std.proofs.lemmas.Map.Views.{any-filter_same}
use Rattle.std.proofs.lemmas.Slice.Eq.{slice_eq-Decides}
use Rattle.std.proofs.lemmas.Bool.Decides.{Decides-eqb}
use Rattle.uefi_vars.specs.Name.{order_text, next_text, timeout_text}
use Rattle.uefi_vars.specs.Vars.{Variables}
use Rattle.uefi_vars.specs.BootChange.{same_name, same_data, is_entry_name, is_boot_name, differs, put_names, removed_names, if_differs, changed_names}
use Rattle.uefi_vars.proofs.NameTests.{same_name-is}

-- ---- the same data

pub bytes_same : (a b : List ℕ) → (pointwise ◌==◌ a b ≡ true → a ≡ b) × (a ≡ b → pointwise ◌==◌ a b ≡ true)
bytes_same a b = slice_eq-Decides Decides-eqb a b (pointwise ◌==◌ a b) refl

pub same_data-is : (a b : Option (List ℕ)) → same_data a b ≡ true → a ≡ b
same_data-is None None e = refl
same_data-is None (Some b) e = cc
same_data-is (Some a) None e = cc
same_data-is (Some a) (Some b) e = ap Some ((bytes_same a b).0 e)

pub same_data-of : (a b : Option (List ℕ)) → a ≡ b → same_data a b ≡ true
same_data-of None None e = refl
same_data-of None (Some b) e = cc
same_data-of (Some a) None e = cc
same_data-of (Some a) (Some b) e = (bytes_same a b).1 cc

-- ---- members

is_in : List (List ℕ) → List ℕ → Bool
is_in names q = list_any (same_name q) names

-- whether there is a change, by what is asked of an entry's name, and of the order, the next entry and the timeout
abbrev is_part : Bool → Bool → Bool → Bool → Bool → Bool → Bool → Bool → Bool → Bool → Bool
is_part e d t f o od n nd w wd = ((e && d) && t) || ((o && od) || ((n && nd) || ((w && wd) || ((e && not t) && f))))

some_part : (e d t f o od n nd w wd : Bool) → is_part e d t f o od n nd w wd ≡ true → (e || (o || (n || w))) ≡ true
some_part true d t f o od n nd w wd h = refl
some_part false d t f true od n nd w wd h = refl
some_part false d t f false od true nd w wd h = refl
some_part false d t f false od false nd true wd h = refl
some_part false d t f false od false nd false wd h = h

entry_part : (e d t f : Bool) → ((e && d) && t) ≡ false → ((e && not t) && f) ≡ false → e ≡ true → (d ≡ false) ⊎ ((t ≡ false) × (f ≡ false))
entry_part false d t f put removed is = absurd (false≢true is)
entry_part true false t f put removed is = inl refl
entry_part true true true f put removed is = absurd (true≢false put)
entry_part true true false false put removed is = inr (refl, refl)
entry_part true true false true put removed is = absurd (true≢false removed)

-- it is a single variable, and isn't changed
abbrev IsLeft : Bool → Bool → Type 0
IsLeft is differs = (is ≡ true) × (differs ≡ false)

single_part : (o od : Bool) → (o && od) ≡ false → o ≡ true → IsLeft o od
single_part true od h is = (refl, h)
single_part false od h is = absurd (false≢true is)

no_part : (e d t f o od n nd w wd : Bool) → is_part e d t f o od n nd w wd ≡ false → (e || (o || (n || w))) ≡ true →
    ((d ≡ false) ⊎ ((t ≡ false) × (f ≡ false))) ⊎ (IsLeft o od ⊎ (IsLeft n nd ⊎ IsLeft w wd))
no_part e d t f o od n nd w wd h boot =
    let first = or_parts ((e && d) && t) ((o && od) || ((n && nd) || ((w && wd) || ((e && not t) && f)))) h in
    let more = or_parts (o && od) ((n && nd) || ((w && wd) || ((e && not t) && f))) first.1 in
    let last = or_parts (n && nd) ((w && wd) || ((e && not t) && f)) more.1 in
    let behind = or_parts (w && wd) ((e && not t) && f) last.1 in
    elim (or_cases e (o || (n || w)) boot) [
      | inl entry ↦ inl (entry_part e d t f first.0 behind.1 entry)
      | inr other ↦ inr (elim (or_cases o (n || w) other) [
        | inl order ↦ inl (single_part o od more.0 order)
        | inr rest ↦ inr (elim (or_cases n w rest) [
          | inl next ↦ inl (single_part n nd last.0 next)
          | inr timeout ↦ inr (single_part w wd behind.0 timeout)
        ])
      ])
    ]

is_none : {A : Type 0} (o : Option A) → is_some o ≡ false → o ≡ None
is_none None e = refl
is_none (Some value) e = absurd (true≢false e)

module _ (from to : Variables) (q : List ℕ) where
  pub in_puts : list_any (same_name q) (put_names from to) ≡ ((is_entry_name q && differs from to q) && contains_key to q)
  in_puts =
      any-filter_same (same_name q) (λ name. is_entry_name name && differs from to name) (is_entry_name q && differs from to q)
      (λ k same. ap (λ (name : List ℕ). is_entry_name name && differs from to name) (sym (same_name-is q k same))) (keys to)
      ∙ ap (λ b. (is_entry_name q && differs from to q) && b) (sym (contains_key-keys to q))

  pub in_removed : list_any (same_name q) (removed_names from to) ≡ ((is_entry_name q && not (contains_key to q)) && contains_key from q)
  in_removed =
      any-filter_same (same_name q) (λ name. is_entry_name name && not (contains_key to name)) (is_entry_name q && not (contains_key to q))
      (λ k same. ap (λ (name : List ℕ). is_entry_name name && not (contains_key to name)) (sym (same_name-is q k same))) (keys from)
      ∙ ap (λ b. (is_entry_name q && not (contains_key to q)) && b) (sym (contains_key-keys from q))

  single : (b : Bool) (name : List ℕ) → list_any (same_name q) (cond b (name ∷ []) []) ≡ (same_name q name && b)
  single true name = elim (same_name q name) as (λ b. (b || false) ≡ (b && true)) [ true ↦ refl | false ↦ refl ]
  single false name = elim (same_name q name) as (λ b. false ≡ (b && false)) [ true ↦ refl | false ↦ refl ]

  pub in_single : (name : List ℕ) → list_any (same_name q) (if_differs from to name) ≡ (same_name q name && differs from to name)
  in_single name = single (differs from to name) name

  pub in_changed : list_any (same_name q) (changed_names from to)
      ≡ (list_any (same_name q) (put_names from to) || (list_any (same_name q) (if_differs from to order_text)
      || (list_any (same_name q) (if_differs from to next_text)
      || (list_any (same_name q) (if_differs from to timeout_text) || list_any (same_name q) (removed_names from to)))))
  in_changed =
      list_any-append (same_name q) (put_names from to) _
      ∙ ap (λ b. list_any (same_name q) (put_names from to) || b) (list_any-append (same_name q) (if_differs from to order_text) _
      ∙ ap (λ b. list_any (same_name q) (if_differs from to order_text) || b)
      (list_any-append (same_name q) (if_differs from to next_text) _
      ∙ ap (λ b. list_any (same_name q) (if_differs from to next_text) || b)
      (list_any-append (same_name q) (if_differs from to timeout_text) (removed_names from to))))

  parts : list_any (same_name q) (changed_names from to)
      ≡ is_part (is_entry_name q) (differs from to q) (contains_key to q) (contains_key from q) (same_name q order_text)
      (differs from to order_text) (same_name q next_text) (differs from to next_text) (same_name q timeout_text)
      (differs from to timeout_text)
  parts =
      in_changed
      ∙ ap (λ (b : Bool). b || (list_any (same_name q) (if_differs from to order_text)
      || (list_any (same_name q) (if_differs from to next_text)
      || (list_any (same_name q) (if_differs from to timeout_text) || list_any (same_name q) (removed_names from to))))) in_puts
      ∙ ap (λ (b : Bool). ((is_entry_name q && differs from to q) && contains_key to q)
      || (b || (list_any (same_name q) (if_differs from to next_text)
      || (list_any (same_name q) (if_differs from to timeout_text) || list_any (same_name q) (removed_names from to)))))
      (in_single order_text)
      ∙ ap (λ (b : Bool). ((is_entry_name q && differs from to q) && contains_key to q)
      || ((same_name q order_text && differs from to order_text)
      || (b || (list_any (same_name q) (if_differs from to timeout_text) || list_any (same_name q) (removed_names from to)))))
      (in_single next_text)
      ∙ ap (λ (b : Bool). ((is_entry_name q && differs from to q) && contains_key to q)
      || ((same_name q order_text && differs from to order_text)
      || ((same_name q next_text && differs from to next_text) || (b || list_any (same_name q) (removed_names from to)))))
      (in_single timeout_text)
      ∙ ap (λ (b : Bool). ((is_entry_name q && differs from to q) && contains_key to q)
      || ((same_name q order_text && differs from to order_text)
      || ((same_name q next_text && differs from to next_text)
      || ((same_name q timeout_text && differs from to timeout_text) || b)))) in_removed

  pub same_there : differs from to q ≡ false → get from q ≡ get to q
  same_there e = same_data-is (get from q) (get to q) (not-false (same_data (get from q) (get to q)) e)

  same_single : (name : List ℕ) → same_name q name ≡ true → differs from to name ≡ false → get from q ≡ get to q
  same_single name same e = same_there (ap (differs from to) (same_name-is q name same) ∙ e)

  -- where there is no change, the boot manager's variable is the same
  pub left_alone : list_any (same_name q) (changed_names from to) ≡ false → is_boot_name q ≡ true → get from q ≡ get to q
  left_alone none boot =
      elim (no_part (is_entry_name q) (differs from to q) (contains_key to q) (contains_key from q) (same_name q order_text)
      (differs from to order_text) (same_name q next_text) (differs from to next_text) (same_name q timeout_text)
      (differs from to timeout_text) (sym parts ∙ none) boot) [
        | inl (inl same) ↦ same_there same
        | inl (inr gone) ↦ is_none (get from q) gone.1 ∙ sym (is_none (get to q) gone.0)
        | inr (inl order) ↦ same_single order_text order.0 order.1
        | inr (inr (inl next)) ↦ same_single next_text next.0 next.1
        | inr (inr (inr timeout)) ↦ same_single timeout_text timeout.0 timeout.1
      ]

  pub changed_is_boot : list_any (same_name q) (changed_names from to) ≡ true → is_boot_name q ≡ true
  changed_is_boot is =
      some_part (is_entry_name q) (differs from to q) (contains_key to q) (contains_key from q) (same_name q order_text)
      (differs from to order_text) (same_name q next_text) (differs from to next_text) (same_name q timeout_text)
      (differs from to timeout_text) (sym parts ∙ is)

  data_differ : differs from to q ≡ true → get from q ≢ get to q
  data_differ d same = absurd (true≢false (sym (same_data-of (get from q) (get to q) same) ∙ not-true (same_data (get from q) (get to q)) d))

  single_differs : (name : List ℕ) → (same_name q name && differs from to name) ≡ true → get from q ≢ get to q
  single_differs name both =
      let parts = and_parts (same_name q name) (differs from to name) both in
      data_differ (ap (differs from to) (same_name-is q name parts.0) ∙ parts.1)

  pub changed_differs : list_any (same_name q) (changed_names from to) ≡ true → get from q ≢ get to q
  changed_differs is =
      elim (or_cases (list_any (same_name q) (put_names from to)) _ (sym in_changed ∙ is)) [
        | inl put ↦ data_differ (and_parts (is_entry_name q) (differs from to q)
            (and_parts (is_entry_name q && differs from to q) (contains_key to q) (sym in_puts ∙ put)).0).1
        | inr more ↦ elim (or_cases (list_any (same_name q) (if_differs from to order_text)) _ more) [
          | inl order ↦ single_differs order_text (sym (in_single order_text) ∙ order)
          | inr rest ↦ elim (or_cases (list_any (same_name q) (if_differs from to next_text)) _ rest) [
            | inl next ↦ single_differs next_text (sym (in_single next_text) ∙ next)
            | inr last ↦ elim (or_cases (list_any (same_name q) (if_differs from to timeout_text)) (list_any (same_name q) (removed_names from to)) last) [
              | inl timeout ↦ single_differs timeout_text (sym (in_single timeout_text) ∙ timeout)
              | inr removed ↦ λ same.
                  let parts = and_parts (is_entry_name q && not (contains_key to q)) (contains_key from q) (sym in_removed ∙ removed) in
                  let gone = not-true (contains_key to q) (and_parts (is_entry_name q) (not (contains_key to q)) parts.0).1 in
                  true≢false (sym parts.1 ∙ ap is_some same ∙ gone)
            ]
          ]
        ]
      ]
