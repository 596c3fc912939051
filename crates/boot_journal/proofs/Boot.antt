-- The changes that are due once the machine was started in between take BootNext out where they would set it. Made over variables
-- from which firmware may have deleted BootNext, they leave what a start would have left after the changes as they were (`starts`).
use Rattle.std.proofs.Common.{◌≡◌, ◌⊎◌, inl, inr, ⊎_elim, ℕ, ◌||◌, ◌&&◌, Bool, true, false, cond, List, [], ◌∷◌, map, Option, None, refl, sym, ap, ◌∙◌}
use Rattle.std.specs.List.{list_any}
use Rattle.std.proofs.lemmas.Bool.{or_parts}
use Rattle.std.specs.Cmp.{Equal-is}
use Rattle.std.proofs.lemmas.Cmp.{nat_list_cmp_total, eq_by_cmp_equiv}
use Rattle.std.specs.FinMap.{get, get-remove}
use Rattle.uefi_vars.specs.Name.{next_text}
use Rattle.uefi_vars.specs.Vars.{Variables}
use Rattle.uefi_vars.specs.NameChanges.{after_each}
use Rattle.uefi_vars.specs.BootChange.{same_name}
use Rattle.boot_journal.specs.Events.{without_next}
use Rattle.boot_journal.proofs.Single.{Single, over, one_name, same_variables, get-each}

-- a change that sets BootNext takes it out instead
abbrev pub spent_single : Single → Single
spent_single c = (c.0, cond (same_name c.0 next_text) None c.1)

-- one change, at a name that is BootNext or another: n tells which
at_name : (b n : Bool) (c : Single) (x : Option (List ℕ)) → (b ≡ true → same_name c.0 next_text ≡ n)
    → cond b (spent_single c).1 (cond n None x) ≡ cond n None (cond b c.1 x)
at_name true true c x is = ap (λ m. cond m None c.1) (is refl)
at_name true false c x is = ap (λ m. cond m None c.1) (is refl)
at_name false n c x is = refl

over_spent : (cs : List Single) (q : List ℕ) (x : Option (List ℕ))
    → over (map spent_single cs) q (cond (same_name q next_text) None x) ≡ cond (same_name q next_text) None (over cs q x)
over_spent [] q x = refl
over_spent (c ∷ cs) q x =
    ap (over (map spent_single cs) q)
    (at_name (same_name q c.0) (same_name q next_text) c x (λ at. ap (λ p. same_name p next_text) (sym (one_name q c.0 ((Equal-is _).0 at)))))
    ∙ over_spent cs q (cond (same_name q c.0) c.1 x)

kept_or_none : (b : Bool) (c : Single) (x : Option (List ℕ)) → (b ≡ true → same_name c.0 next_text ≡ true)
    → (cond b (spent_single c).1 x ≡ None) ⊎ (cond b (spent_single c).1 x ≡ x)
kept_or_none true c x is = inl (ap (λ m. cond m None c.1) (is refl))
kept_or_none false c x is = inr refl

never_over : (cs : List Single) (x : Option (List ℕ)) → (over (map spent_single cs) next_text x ≡ None) ⊎ (over (map spent_single cs) next_text x ≡ x)
never_over [] x = inr refl
never_over (c ∷ cs) x = ⊎_elim (λ none. inl none) (λ is. ⊎_elim (λ none. inl (is ∙ none)) (λ same. inr (is ∙ same)) here) (never_over cs _)
  where
    here : (cond (same_name next_text c.0) (spent_single c).1 x ≡ None) ⊎ (cond (same_name next_text c.0) (spent_single c).1 x ≡ x)
    here = kept_or_none _ c x (λ at. ap (λ p. same_name p next_text) (sym (one_name next_text c.0 ((Equal-is _).0 at))))

pub never_set : (cs : List Single) (m : Variables)
    → (get (after_each m (map spent_single cs)) next_text ≡ None) ⊎ (get (after_each m (map spent_single cs)) next_text ≡ get m next_text)
never_set cs m =
    ⊎_elim (λ none. inl (get-each (map spent_single cs) m next_text ∙ none)) (λ same. inr (get-each (map spent_single cs) m next_text ∙ same))
    (never_over cs (get m next_text))

-- ---- a start

-- whether a change is of BootNext
abbrev pub has_next : List Single → Bool
has_next cs = list_any (λ c. same_name c.0 next_text) cs

-- two names that are one compare alike
alike : (a b q : List ℕ) → same_name a b ≡ true → same_name a q ≡ same_name b q
alike a b q same = ap (λ n. same_name n q) (one_name a b ((Equal-is _).0 same))

next_here : (n : Bool) (c : Single) (x : Option (List ℕ)) → same_name c.0 next_text ≡ n → cond (same_name next_text c.0) (spent_single c).1 x ≡ cond n None x
next_here true c x is =
    ap (λ b. cond b (spent_single c).1 x) ((eq_by_cmp_equiv nat_list_cmp_total).symm next_text c.0 ∙ is) ∙ ap (λ b. cond b None c.1) is
next_here false c x is = ap (λ b. cond b (spent_single c).1 x) ((eq_by_cmp_equiv nat_list_cmp_total).symm next_text c.0 ∙ is)

none_if : (n b : Bool) (x : Option (List ℕ)) → cond b None (cond n None x) ≡ cond (n || b) None x
none_if true true x = refl
none_if true false x = refl
none_if false b x = refl

-- what becomes of BootNext
next_over : (cs : List Single) (x : Option (List ℕ)) → over (map spent_single cs) next_text x ≡ cond (has_next cs) None x
next_over [] x = refl
next_over (c ∷ cs) x =
    ap (over (map spent_single cs) next_text) (next_here (same_name c.0 next_text) c x refl)
    ∙ next_over cs (cond (same_name c.0 next_text) None x)
    ∙ none_if (same_name c.0 next_text) (has_next cs) x

pub get-without_next : (deletes : Bool) (m : Variables) (q : List ℕ) → get (without_next deletes m) q ≡ cond (deletes && same_name q next_text) None (get m q)
get-without_next true m q = get-remove nat_list_cmp_total m next_text q
get-without_next false m q = refl

pub not_deleted : (deletes : Bool) (x : Option (List ℕ)) → cond (deletes && false) None x ≡ x
not_deleted true x = refl
not_deleted false x = refl

-- other names keep their data
pub at_other : (deletes : Bool) (m : Variables) (q : List ℕ) → same_name q next_text ≡ false → get (without_next deletes m) q ≡ get m q
at_other deletes m q other = get-without_next deletes m q ∙ ap (λ b. cond (deletes && b) None (get m q)) other ∙ not_deleted deletes (get m q)

at_next : (d h : Bool) (x y : Option (List ℕ)) → (h ≡ false → x ≡ y) → cond h None (cond (d && true) None x) ≡ cond ((d || h) && true) None y
at_next true true x y same = refl
at_next true false x y same = refl
at_next false true x y same = refl
at_next false false x y same = same refl

-- a name that no change is of keeps its data
unless_next : (cs : List Single) (x : Option (List ℕ)) → has_next cs ≡ false → over cs next_text x ≡ x
unless_next [] x out = refl
unless_next (c ∷ cs) x out =
    let none = or_parts (same_name c.0 next_text) (has_next cs) out in
    ap (λ b. over cs next_text (cond b c.1 x)) ((eq_by_cmp_equiv nat_list_cmp_total).symm next_text c.0 ∙ none.0) ∙ unless_next cs x none.1

start_over : (cs : List Single) (deletes n : Bool) (q : List ℕ) (x : Option (List ℕ)) → same_name q next_text ≡ n →
    over (map spent_single cs) q (cond (deletes && n) None x) ≡ cond ((deletes || has_next cs) && n) None (over cs q x)
start_over cs deletes true q x at =
    ap (λ p. over (map spent_single cs) p (cond (deletes && true) None x)) is
    ∙ next_over cs (cond (deletes && true) None x)
    ∙ at_next deletes (has_next cs) x (over cs next_text x) (λ out. sym (unless_next cs x out))
    ∙ ap (λ p. cond ((deletes || has_next cs) && true) None (over cs p x)) (sym is)
  where
    is : q ≡ next_text
    is = one_name q next_text ((Equal-is _).0 at)
start_over cs deletes false q x at =
    ap (over (map spent_single cs) q) (not_deleted deletes x)
    ∙ ap (λ b. over (map spent_single cs) q (cond b None x)) (sym at)
    ∙ over_spent cs q x
    ∙ ap (λ b. cond b None (over cs q x)) at
    ∙ sym (not_deleted (deletes || has_next cs) (over cs q x))

-- what is due then is what there was before, and then the start: BootNext is gone if firmware deleted it, or a change is of it
pub starts : (cs : List Single) (deletes : Bool) (m : Variables)
    → after_each (without_next deletes m) (map spent_single cs) ≡ without_next (deletes || has_next cs) (after_each m cs)
starts cs deletes m = same_variables _ _ (λ q.
    get-each (map spent_single cs) _ q ∙ ap (over (map spent_single cs) q) (get-without_next deletes m q)
    ∙ start_over cs deletes (same_name q next_text) q (get m q) refl
    ∙ ap (cond ((deletes || has_next cs) && same_name q next_text) None) (sym (get-each cs m q))
    ∙ sym (get-without_next (deletes || has_next cs) (after_each m cs) q))
