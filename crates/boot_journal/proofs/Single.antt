-- What changes make of variables, name by name; changes that are made again, and changes that are taken back. Variables that are the same
-- under each name are the same, so all of it is on what changes make of one name (`over`).
use Rattle.std.proofs.Common.{◌≡◌, ◌⊎◌, inl, inr, ⊎_elim, ℕ, zero, suc, Bool, true, false, cond, List, [], ◌∷◌, ◌++◌, map, reverse, take, Option, Some, None}
use Rattle.std.proofs.Common.{refl, sym, ap, ◌∙◌}
use Rattle.std.specs.Cmp.{Equal-is}
use Rattle.std.specs.List.{AllByRecursion}
use Rattle.std.proofs.lemmas.Bool.{false_from_ne_true}
use Rattle.std.proofs.lemmas.Cmp.{nat_list_cmp_total}
use Rattle.std.specs.FinMap.{get, get-insert, get-remove, get_tied, same_map, IsAntisymmetric, nat_cmp-IsAntisymmetric, slice_cmp-IsAntisymmetric}
use Rattle.std.proofs.lemmas.List.{reverse-append}
use Rattle.uefi_vars.specs.Vars.{Variables, name_cmp}
use Rattle.uefi_vars.specs.NameChanges.{with_data, after_each}
use Rattle.uefi_vars.specs.BootChange.{same_name}

-- a name, and its new data, or that it is taken out
abbrev pub Single : Type 0
Single = List ℕ × Option (List ℕ)

-- what changes make of the data of one name
abbrev pub over : List Single → List ℕ → Option (List ℕ) → Option (List ℕ)
over [] q old = old
over (c ∷ cs) q old = over cs q (cond (same_name q c.0) c.1 old)

-- what is there under the changes' names
abbrev pub as_they_were : Variables → List Single → List Single
as_they_were m = map (λ c. (c.0, get m c.0))

-- the changes that take changes back, the last of them first
abbrev pub back : List Single → Variables → List Single
back cs m = reverse (as_they_were m cs)

pub one_name : IsAntisymmetric name_cmp
one_name = slice_cmp-IsAntisymmetric nat_cmp-IsAntisymmetric

-- names that aren't one
pub unlike : (name q : List ℕ) → (name ≡ q → ⊥) → same_name name q ≡ false
unlike name q other = false_from_ne_true (same_name name q) (λ is. other (one_name name q ((Equal-is _).0 is)))

pub same_variables : (m n : Variables) → ((q : List ℕ) → get m q ≡ get n q) → m ≡ n
same_variables m n same = same_map nat_list_cmp_total one_name m n same

pub get-with_data : (m : Variables) (name : List ℕ) (value : Option (List ℕ)) (q : List ℕ)
    → get (with_data m name value) q ≡ cond (same_name q name) value (get m q)
get-with_data m name None q = get-remove nat_list_cmp_total m name q
get-with_data m name (Some bytes) q = get-insert nat_list_cmp_total m name bytes q

-- what is found after changes
pub get-each : (cs : List Single) (m : Variables) (q : List ℕ) → get (after_each m cs) q ≡ over cs q (get m q)
get-each [] m q = refl
get-each (c ∷ cs) m q = get-each cs (with_data m c.0 c.1) q ∙ ap (over cs q) (get-with_data m c.0 c.1 q)

-- changes of other names leave what is under a name
pub passed_by : (P : Single → Type 0) (cs : List Single) (q : List ℕ) (x : Option (List ℕ)) → AllByRecursion P cs
    → ((c : Single) → P c → same_name q c.0 ≡ false) → over cs q x ≡ x
passed_by P [] q x are others = refl
passed_by P (c ∷ cs) q x are others = ap (λ b. over cs q (cond b c.1 x)) (others c are.0) ∙ passed_by P cs q x are.1 others

-- what was there under a name is forgotten, or no front of the changes changes it
abbrev pub Forgets : List Single → List ℕ → Type 0
Forgets cs q = (x y : Option (List ℕ)) → over cs q x ≡ over cs q y

abbrev pub Keeps : List Single → List ℕ → Type 0
Keeps cs q = (k : ℕ) (x : Option (List ℕ)) → over (take k cs) q x ≡ x

pub first_keeps : (c : Single) (cs : List Single) (q : List ℕ) → ((k : ℕ) (x : Option (List ℕ)) → over (take k cs) q (cond (same_name q c.0) c.1 x) ≡ x)
    → Keeps (c ∷ cs) q
first_keeps c cs q later zero x = refl
first_keeps c cs q later (suc k) x = later k x

at_first : (b : Bool) (c : Single) (cs : List Single) (q : List ℕ) → Keeps cs q
    → ((x y : Option (List ℕ)) → over cs q (cond b c.1 x) ≡ over cs q (cond b c.1 y))
    ⊎ ((k : ℕ) (x : Option (List ℕ)) → over (take k cs) q (cond b c.1 x) ≡ x)
at_first true c cs q keeps = inl (λ x y. refl)
at_first false c cs q keeps = inr keeps

pub none_keeps : (q : List ℕ) → Keeps [] q
none_keeps q zero x = refl
none_keeps q (suc k) x = refl

forgets_or_keeps : (cs : List Single) (q : List ℕ) → Forgets cs q ⊎ Keeps cs q
forgets_or_keeps [] q = inr (none_keeps q)
forgets_or_keeps (c ∷ cs) q = elim (forgets_or_keeps cs q) [
  | inl forgets ↦ inl (λ x y. forgets _ _)
  | inr keeps ↦ ⊎_elim (λ f. inl f) (λ later. inr (first_keeps c cs q later)) (at_first (same_name q c.0) c cs q keeps)
]

pub over_again : (cs : List Single) (k : ℕ) (q : List ℕ) (x : Option (List ℕ)) → over cs q (over (take k cs) q x) ≡ over cs q x
over_again cs k q x = elim (forgets_or_keeps cs q) [ inl forgets ↦ forgets _ _ | inr keeps ↦ ap (over cs q) (keeps k x) ]

pub each_again : (cs : List Single) (m : Variables) (k : ℕ) → after_each (after_each m (take k cs)) cs ≡ after_each m cs
each_again cs m k = same_variables _ _ (λ q.
    get-each cs _ q ∙ ap (over cs q) (get-each (take k cs) m q) ∙ over_again cs k q (get m q) ∙ sym (get-each cs m q))

pub over-append : (cs ds : List Single) (q : List ℕ) (x : Option (List ℕ)) → over (cs ++ ds) q x ≡ over ds q (over cs q x)
over-append [] ds q x = refl
over-append (c ∷ cs) ds q x = over-append cs ds q _

pub back-cons : (c : Single) (cs : List Single) (m : Variables) → back (c ∷ cs) m ≡ back cs m ++ (c.0, get m c.0) ∷ []
back-cons c cs m = reverse-append ((c.0, get m c.0) ∷ []) (as_they_were m cs)

over_back_more : (c : Single) (cs : List Single) (m : Variables) (q : List ℕ) (x : Option (List ℕ))
    → over (back (c ∷ cs) m) q x ≡ cond (same_name q c.0) (get m c.0) (over (back cs m) q x)
over_back_more c cs m q x = ap (λ (l : List Single). over l q x) (back-cons c cs m) ∙ over-append (back cs m) ((c.0, get m c.0) ∷ []) q x

back_forgets_or_keeps : (cs : List Single) (m : Variables) (q : List ℕ) → Forgets (back cs m) q ⊎ Keeps cs q
back_forgets_or_keeps [] m q = inr (none_keeps q)
back_forgets_or_keeps (c ∷ cs) m q = elim (back_forgets_or_keeps cs m q) [
  | inl forgets ↦ inl (λ x y. over_back_more c cs m q x ∙ ap (cond (same_name q c.0) (get m c.0)) (forgets x y) ∙ sym (over_back_more c cs m q y))
  | inr keeps ↦
      ⊎_elim (λ f. inl (λ x y. over_back_more c cs m q x ∙ f x y ∙ sym (over_back_more c cs m q y))) (λ later. inr (first_keeps c cs q later))
      (both_at_first (same_name q c.0) keeps)
]
  where
    both_at_first : (b : Bool) → Keeps cs q
        → ((x y : Option (List ℕ)) → cond b (get m c.0) (over (back cs m) q x) ≡ cond b (get m c.0) (over (back cs m) q y))
        ⊎ ((k : ℕ) (x : Option (List ℕ)) → over (take k cs) q (cond b c.1 x) ≡ x)
    both_at_first true keeps = inl (λ x y. refl)
    both_at_first false keeps = inr keeps

kept : {A : Type 0} (b : Bool) (x y : A) → (b ≡ true → x ≡ y) → cond b x y ≡ y
kept true x y same = same refl
kept false x y same = refl

over_back : (cs : List Single) (m : Variables) (q : List ℕ) → over (back cs m) q (get m q) ≡ get m q
over_back [] m q = refl
over_back (c ∷ cs) m q =
    over_back_more c cs m q (get m q) ∙ ap (cond (same_name q c.0) (get m c.0)) (over_back cs m q)
    ∙ kept (same_name q c.0) _ _ (λ at. get_tied nat_list_cmp_total m q c.0 ((Equal-is _).0 at))

over_taken_back : (cs : List Single) (m : Variables) (k : ℕ) (q : List ℕ) → over (back cs m) q (over (take k cs) q (get m q)) ≡ get m q
over_taken_back cs m k q = elim (back_forgets_or_keeps cs m q) [
  | inl forgets ↦ forgets _ (get m q) ∙ over_back cs m q
  | inr keeps ↦ ap (over (back cs m) q) (keeps k (get m q)) ∙ over_back cs m q
]

pub taken_back : (cs : List Single) (m : Variables) (k : ℕ) → after_each (after_each m (take k cs)) (back cs m) ≡ m
taken_back cs m k = same_variables _ _ (λ q.
    get-each (back cs m) _ q ∙ ap (over (back cs m) q) (get-each (take k cs) m q) ∙ over_taken_back cs m k q)

pub over_between : (cs fs : List Single) (k : ℕ) (q : List ℕ) (x : Option (List ℕ)) → over cs q (over fs q (over (take k cs) q x)) ≡ over cs q (over fs q x)
over_between cs fs k q x = elim (forgets_or_keeps cs q) [ inl forgets ↦ forgets _ _ | inr keeps ↦ ap (λ y. over cs q (over fs q y)) (keeps k x) ]

-- whatever changes come in between
pub firmware_between : (cs fs : List Single) (m : Variables) (k : ℕ)
    → after_each (after_each (after_each m (take k cs)) fs) cs ≡ after_each (after_each m fs) cs
firmware_between cs fs m k = same_variables _ _ (λ q.
    get-each cs _ q ∙ ap (over cs q) (get-each fs _ q ∙ ap (over fs q) (get-each (take k cs) m q)) ∙ over_between cs fs k q (get m q)
    ∙ sym (get-each cs _ q ∙ ap (over cs q) (get-each fs m q)))
