-- Changes that tell what was there before, as names with their new data: what is due of them, and what takes them back.
use Rattle.std.proofs.Common.{◌≡◌, ◌⊎◌, inl, inr, ⊎_elim, ℕ, ◌||◌, Bool, true, false, cond, List, [], ◌∷◌, ◌++◌, map, reverse, take, Option, None}
use Rattle.std.proofs.Common.{refl, sym, ap, ◌∙◌}
use Rattle.std.specs.FinMap.{get}
use Rattle.std.proofs.lemmas.List.{take-map, map-append, reverse-append}
use Rattle.uefi_vars.specs.Name.{next_text}
use Rattle.uefi_vars.specs.Vars.{Variables}
use Rattle.uefi_vars.specs.NameChanges.{after_each}
use Rattle.uefi_vars.specs.BootChange.{ChangeParts, same_name, new_data}
use Rattle.boot_journal.specs.Changes.{made, undone, taken_back, spent, is_of_next, TellWhatIsThere}
use Rattle.boot_journal.specs.Events.{without_next}
use Rattle.boot_journal.proofs.Single.{Single, over, as_they_were, back, Forgets, Keeps, first_keeps, none_keeps, over-append, same_variables, get-each}
use Rattle.boot_journal.proofs.Boot.{spent_single, has_next, starts}

pub map-reverse : {A B : Type 0} (f : A → B) (xs : List A) → map f (reverse xs) ≡ reverse (map f xs)
map-reverse f [] = refl
map-reverse f (x ∷ xs) =
    ap (map f) (reverse-append (x ∷ []) xs) ∙ map-append f (reverse xs) (x ∷ [])
    ∙ ap (λ (l : List _). l ++ f x ∷ []) (map-reverse f xs) ∙ sym (reverse-append (f x ∷ []) (map f xs))

-- ---- the names of some changes with other data

abbrev pub forward : (ChangeParts → Option (List ℕ)) → List ChangeParts → List Single
forward f cs = map (λ c. (c.name, f c)) cs

abbrev pub backward : (ChangeParts → Option (List ℕ)) → List ChangeParts → List Single
backward f cs = reverse (forward f cs)

abbrev pub unless_next : (ChangeParts → Option (List ℕ)) → ChangeParts → Option (List ℕ)
unless_next f c = cond (same_name c.name next_text) None (f c)

pub spent_forward : (cs : List ChangeParts) → new_data (map spent cs) ≡ forward (unless_next (λ c. c.after)) cs
spent_forward [] = refl
spent_forward (c ∷ cs) = ap (λ (l : List Single). (c.name, unless_next (λ c. c.after) c) ∷ l) (spent_forward cs)

undone_forward : (cs : List ChangeParts) → new_data (map undone cs) ≡ forward (λ c. c.before) cs
undone_forward [] = refl
undone_forward (c ∷ cs) = ap (λ (l : List Single). (c.name, c.before) ∷ l) (undone_forward cs)

undone_spent : (cs : List ChangeParts) → new_data (map spent (map undone cs)) ≡ forward (unless_next (λ c. c.before)) cs
undone_spent [] = refl
undone_spent (c ∷ cs) = ap (λ (l : List Single). (c.name, unless_next (λ c. c.before) c) ∷ l) (undone_spent cs)

pub back_backward : (cs : List ChangeParts) → new_data (taken_back cs) ≡ backward (λ c. c.before) cs
back_backward cs = map-reverse _ (map undone cs) ∙ ap reverse (undone_forward cs)

pub back_spent : (cs : List ChangeParts) → new_data (map spent (taken_back cs)) ≡ backward (unless_next (λ c. c.before)) cs
back_spent cs =
    ap new_data (map-reverse spent (map undone cs)) ∙ map-reverse _ (map spent (map undone cs)) ∙ ap reverse (undone_spent cs)

-- what some of the one list leave of a name is forgotten by the other, whose changes have the same names, or it is what was there
module _ (f g : ChangeParts → Option (List ℕ)) where
  over_more : (c : ChangeParts) (cs : List ChangeParts) (q : List ℕ) (x : Option (List ℕ)) →
      over (backward g (c ∷ cs)) q x ≡ cond (same_name q c.name) (g c) (over (backward g cs) q x)
  over_more c cs q x =
      ap (λ (l : List Single). over l q x) (reverse-append ((c.name, g c) ∷ []) (forward g cs)) ∙ over-append (backward g cs) ((c.name, g c) ∷ []) q x

  at_first : (b : Bool) (c : ChangeParts) (cs : List ChangeParts) (q : List ℕ) → Keeps (forward f cs) q →
      ((x y : Option (List ℕ)) → cond b (g c) (over (backward g cs) q x) ≡ cond b (g c) (over (backward g cs) q y))
      ⊎ ((k : ℕ) (x : Option (List ℕ)) → over (take k (forward f cs)) q (cond b (f c) x) ≡ x)
  at_first true c cs q keeps = inl (λ x y. refl)
  at_first false c cs q keeps = inr keeps

  pub forgets_or_keeps : (cs : List ChangeParts) (q : List ℕ) → Forgets (backward g cs) q ⊎ Keeps (forward f cs) q
  forgets_or_keeps [] q = inr (none_keeps q)
  forgets_or_keeps (c ∷ cs) q = elim (forgets_or_keeps cs q) [
    | inl forgets ↦ inl (λ x y. over_more c cs q x ∙ ap (cond (same_name q c.name) (g c)) (forgets x y) ∙ sym (over_more c cs q y))
    | inr keeps ↦ ⊎_elim
        (λ all. inl (λ x y. over_more c cs q x ∙ all x y ∙ sym (over_more c cs q y)))
        (λ later. inr (first_keeps (c.name, f c) (forward f cs) q later))
        (at_first (same_name q c.name) c cs q keeps)
  ]

  pub covers : (cs : List ChangeParts) (k : ℕ) (m : Variables) →
      after_each (after_each m (take k (forward f cs))) (backward g cs) ≡ after_each m (backward g cs)
  covers cs k m = same_variables _ _ (λ q.
      get-each (backward g cs) _ q ∙ ap (over (backward g cs) q) (get-each (take k (forward f cs)) m q)
      ∙ ⊎_elim (λ forgets. forgets _ _) (λ keeps. ap (over (backward g cs) q) (keeps k (get m q))) (forgets_or_keeps cs q)
      ∙ sym (get-each (backward g cs) m q))

-- the same of changes that are due, and of what takes them back
pub due_covers : (same : Bool) (cs : List ChangeParts) (k : ℕ) (m : Variables) →
    made (cond same (taken_back cs) (map spent (taken_back cs))) (made (take k (cond same cs (map spent cs))) m)
    ≡ made (cond same (taken_back cs) (map spent (taken_back cs))) m
due_covers true cs k m =
    ap (λ (l : List Single). after_each (made (take k cs) m) l) (back_backward cs)
    ∙ ap (λ (l : List Single). after_each (after_each m l) (backward (λ c. c.before) cs)) (sym (take-map _ k cs))
    ∙ covers (λ c. c.after) (λ c. c.before) cs k m
    ∙ ap (λ (l : List Single). after_each m l) (sym (back_backward cs))
due_covers false cs k m =
    ap (λ (l : List Single). after_each (made (take k (map spent cs)) m) l) (back_spent cs)
    ∙ ap (λ (l : List Single). after_each (after_each m l) (backward (unless_next (λ c. c.before)) cs))
    (sym (take-map _ k (map spent cs)) ∙ ap (take k) (spent_forward cs))
    ∙ covers (unless_next (λ c. c.after)) (unless_next (λ c. c.before)) cs k m
    ∙ ap (λ (l : List Single). after_each m l) (sym (back_spent cs))

-- ---- what is taken back

there : (m : Variables) (cs : List ChangeParts) → TellWhatIsThere m cs → forward (λ c. c.before) cs ≡ as_they_were m (new_data cs)
there m [] told = refl
there m (c ∷ cs) told = λ i. (c.name, told.0 i) ∷ there m cs told.1 i

pub new-back : (m : Variables) (cs : List ChangeParts) → TellWhatIsThere m cs → new_data (taken_back cs) ≡ back (new_data cs) m
new-back m cs told = back_backward cs ∙ ap reverse (there m cs told)

-- ---- a start

pub new-spent : (cs : List ChangeParts) → new_data (map spent cs) ≡ map spent_single (new_data cs)
new-spent [] = refl
new-spent (c ∷ cs) = ap (λ (l : List Single). spent_single (c.name, c.after) ∷ l) (new-spent cs)

pub none_again : (n : Bool) (x : Option (List ℕ)) → cond n None (cond n None x) ≡ cond n None x
none_again true x = refl
none_again false x = refl

spent_again : (cs : List Single) → map spent_single (map spent_single cs) ≡ map spent_single cs
spent_again [] = refl
spent_again (c ∷ cs) = λ i. (c.0, none_again (same_name c.0 next_text) c.1 i) ∷ spent_again cs i

next_spent : (cs : List Single) → has_next (map spent_single cs) ≡ has_next cs
next_spent [] = refl
next_spent (c ∷ cs) = ap (λ b. same_name c.0 next_text || b) (next_spent cs)

start_single : (same : Bool) (cs : List Single) (deletes : Bool) (m : Variables) →
    after_each (without_next deletes m) (map spent_single cs) ≡ without_next (deletes || has_next cs) (after_each m (cond same cs (map spent_single cs)))
start_single true cs deletes m = starts cs deletes m
start_single false cs deletes m =
    ap (λ (l : List Single). after_each (without_next deletes m) l) (sym (spent_again cs))
    ∙ starts (map spent_single cs) deletes m
    ∙ ap (λ b. without_next (deletes || b) (after_each m (map spent_single cs))) (next_spent cs)

next_new : (cs : List ChangeParts) → has_next (new_data cs) ≡ is_of_next cs
next_new [] = refl
next_new (c ∷ cs) = ap (λ b. same_name c.name next_text || b) (next_new cs)

due_single : (same : Bool) (cs : List ChangeParts) → new_data (cond same cs (map spent cs)) ≡ cond same (new_data cs) (map spent_single (new_data cs))
due_single true cs = refl
due_single false cs = new-spent cs

pub start_due : (same : Bool) (cs : List ChangeParts) (deletes : Bool) (m : Variables) →
    made (map spent cs) (without_next deletes m) ≡ without_next (deletes || is_of_next cs) (made (cond same cs (map spent cs)) m)
start_due same cs deletes m =
    ap (λ (l : List Single). after_each (without_next deletes m) l) (new-spent cs)
    ∙ start_single same (new_data cs) deletes m
    ∙ (λ i. without_next (deletes || next_new cs i) (after_each m (sym (due_single same cs) i)))
